use Rattle.std.proofs.Common.{◌≡◌, length}
use Rattle.glsl_tree.specs.Token.{plain_tokens}
use Rattle.glsl_preproc.specs.Macros.{same_body}
use Rattle.glsl_preproc.proofs.macro_table.same_body.Given as goal

abbrev pub invariant-loop-xs : goal.invariant-loop-xs
invariant-loop-xs l = same_body (plain_tokens l.xs) (plain_tokens l.ys) ≡ same_body (plain_tokens l.a) (plain_tokens l.b)

abbrev pub decreases-loop-xs : goal.decreases-loop-xs
decreases-loop-xs l = length l.xs
