use Rattle.std.proofs.Common.{◌≡◌, length}
use Rattle.glsl_preproc.specs.Macros.{has_double_underscore}
use Rattle.glsl_preproc.proofs.macro_table.has_double_underscore.Given as goal

abbrev pub invariant-loop-rest : goal.invariant-loop-rest
invariant-loop-rest l = has_double_underscore l.rest ≡ has_double_underscore l.name

abbrev pub decreases-loop-rest : goal.decreases-loop-rest
decreases-loop-rest l = length l.rest
