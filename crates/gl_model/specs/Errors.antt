-- The set of error flags (OpenGL ES 2.0 section 2.5; WebGL 1.0 section 5.14.3): one flag for each code.
use Rattle.std.specs.Prelude.{Bool, true, false, Option, Some, None, if◌then◌else◌}
use Rattle.gl_numbers.specs.declared.errors.GlError.{GlError}
use Rattle.gl_numbers.specs.declared.errors.GlError.TheVariants.{Enum, Value, Operation, Memory, Framebuffer}

-- which errors were raised since getError last answered them
pub record ErrorSet : Type 0 where
  pub invalid_enum : Bool
  pub invalid_value : Bool
  pub invalid_operation : Bool
  pub out_of_memory : Bool
  pub invalid_framebuffer_operation : Bool

-- no flag is set
abbrev pub no_errors : ErrorSet
no_errors = record {
  invalid_enum = false;
  invalid_value = false;
  invalid_operation = false;
  out_of_memory = false;
  invalid_framebuffer_operation = false;
}

-- an error's flag is set or cleared
abbrev pub flagged : GlError → Bool → ErrorSet → ErrorSet
flagged Enum on errors = record errors { invalid_enum = on }
flagged Value on errors = record errors { invalid_value = on }
flagged Operation on errors = record errors { invalid_operation = on }
flagged Memory on errors = record errors { out_of_memory = on }
flagged Framebuffer on errors = record errors { invalid_framebuffer_operation = on }

-- an error joins the set
abbrev pub raise : GlError → ErrorSet → ErrorSet
raise error errors = flagged error true errors

-- the error of the smallest code that is set
abbrev pub smallest : ErrorSet → Option GlError
smallest errors =
    if errors.invalid_enum then Some Enum
    else (if errors.invalid_value then Some Value
    else (if errors.invalid_operation then Some Operation
    else (if errors.out_of_memory then Some Memory
    else (if errors.invalid_framebuffer_operation then Some Framebuffer else None))))

-- what getError leaves: the flag that it answered is cleared
abbrev pub clear_one : Option GlError → ErrorSet → ErrorSet
clear_one None errors = errors
clear_one (Some error) errors = flagged error false errors
