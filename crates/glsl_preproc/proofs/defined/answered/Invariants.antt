use Rattle.std.proofs.Common.{◌≡◌, [], length}
use Rattle.glsl_tree.specs.Token.{plain_tokens}
use Rattle.glsl_preproc.specs.Views.{plain_pieces}
use Rattle.glsl_preproc.specs.Conditions.{answered_from}
use Rattle.glsl_preproc.proofs.defined.answered.Given as goal

-- the tokens so far, and those that are left
abbrev pub invariant-loop-rest : goal.invariant-loop-rest
invariant-loop-rest l = answered_from l.macros (plain_pieces l.out.items) 0 (plain_tokens l.rest) ≡ answered_from l.macros [] 0 (plain_tokens l.list)

abbrev pub decreases-loop-rest : goal.decreases-loop-rest
decreases-loop-rest l = length l.rest
