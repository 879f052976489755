use Rattle.std.proofs.Common.{◌≡◌, length}
use Rattle.glsl_preproc.specs.Macros.{same_names}
use Rattle.glsl_preproc.specs.Views.{texts}
use Rattle.glsl_preproc.proofs.macro_table.same_names.Given as goal

abbrev pub invariant-loop-xs : goal.invariant-loop-xs
invariant-loop-xs l = same_names (texts l.xs) (texts l.ys) ≡ same_names (texts l.a) (texts l.b)

abbrev pub decreases-loop-xs : goal.decreases-loop-xs
decreases-loop-xs l = length l.xs
