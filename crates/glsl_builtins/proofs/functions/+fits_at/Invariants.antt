use Rattle.std.proofs.Common.{length}
use Rattle.glsl_builtins.proofs.functions.+fits_at.Given as goal

abbrev pub decreases-fits_at : goal.decreases-fits_at
decreases-fits_at l = length l.forms.now
