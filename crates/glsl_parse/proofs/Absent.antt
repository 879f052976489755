-- What has no value.
use Rattle.std.proofs.Common.{◌≡◌, Option, Some, None, refl}
use Rattle.std.specs.Prelude.{is_none}
use Rattle.glsl_tree.specs.Declarations.{is_absent}

pub absent_is : {A : Type 0} (o : Option A) → is_absent o ≡ is_none o
absent_is None = refl
absent_is (Some a) = refl
