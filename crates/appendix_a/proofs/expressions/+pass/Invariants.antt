-- What is left is gone past to the same end.
use Rattle.std.proofs.Common.{◌≡◌, map, drop}
use Rattle.appendix_a.specs.Ahead.{ahead_of}
use Rattle.appendix_a.specs.Expressions.{part, past_names}
use Rattle.appendix_a.proofs.expressions.+pass.Given as goal

abbrev pub invariant-pass_names-loop-e : goal.invariant-pass_names-loop-e
invariant-pass_names-loop-e l =
    past_names (map part (drop l.e-index l.all)) (ahead_of l.ahead) ≡ past_names (map part l.all) (ahead_of l.fn.ahead)
