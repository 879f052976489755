-- What a call or a command is refused for (OpenGL ES 2.0 section 2.5): rules in an order, of which the first that applies gives
-- the error. A rule never raises OUT_OF_MEMORY, which no state decides.
use Rattle.std.specs.Prelude.{◌≡◌, Bool, Option, Some, None, Result, Ok, Err, List, [], ◌∷◌, if◌then◌else◌}
use Rattle.gl_numbers.specs.declared.errors.GlError.{GlError}
use Rattle.gl_numbers.specs.declared.errors.GlError.TheVariants.{Enum, Value, Operation, Framebuffer}

-- an error that a rule raises
pub data Code : Type 0 where
  invalid_enum : Code
  invalid_value : Code
  invalid_operation : Code
  invalid_framebuffer_operation : Code

-- the GL error of a code
abbrev pub error_of : Code → GlError
error_of invalid_enum = Enum
error_of invalid_value = Value
error_of invalid_operation = Operation
error_of invalid_framebuffer_operation = Framebuffer

-- a rule: whether it applies, and what it raises where it is the first that does
pub record Rule : Type 0 where
  pub applies : Bool
  pub raises : Code

-- a rule, written as its test and its code
abbrev pub when : Bool → Code → Rule
when test code = record { applies = test; raises = code }

-- the error of the first rule that applies
abbrev pub first_refusal : List Rule → Option GlError
first_refusal [] = None
first_refusal (rule ∷ rules) = if rule.applies then Some (error_of rule.raises) else first_refusal rules

-- a call returns the error of the first rule that applies, and Ok where none does
abbrev pub Judged : List Rule → Result (Unit {0}) GlError → Type 0
Judged rules (Ok _) = first_refusal rules ≡ None
Judged rules (Err error) = first_refusal rules ≡ Some error
