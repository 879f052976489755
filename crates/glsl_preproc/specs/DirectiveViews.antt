-- What the code keeps of a directive, as the definitions see it.
use Rattle.std.specs.Prelude.{ℕ, ◌≡◌, List, Option, Some, None, Bool, true, false}
use Rattle.std.specs.Prelude.{if◌then◌else◌}
use Rattle.glsl_preproc.specs.Macros.{MacroMap, PlainMacro, same_macro}
use Rattle.glsl_preproc.specs.declared.directives.Standing.{Standing}
use Rattle.glsl_preproc.specs.declared.directives.Standing.TheVariants.{New, Same, Other}
use Rattle.glsl_preproc.specs.declared.directives.Parameters.{Parameters}

abbrev pub names_of : Option Parameters → Option (List (List ℕ) × ℕ)
names_of None = None
names_of (Some p) = Some (p.names, p.count)

-- the macros are those behind the directive where it may be, and it may not where there are none
abbrev pub Changes : Option MacroMap → MacroMap → Bool → Type 0
Changes wanted new true = wanted ≡ Some new
Changes wanted new false = wanted ≡ None

-- what a macro is beside the one that has its name
abbrev pub standing : PlainMacro → Option PlainMacro → Standing
standing m None = New
standing m (Some old) = if same_macro old m then Same else Other
