-- The codes of GL errors (OpenGL ES 2.0 section 2.5).
use Rattle.std.specs.Prelude.{ℕ}
use Rattle.gl_numbers.specs.declared.errors.GlError.{GlError}
use Rattle.gl_numbers.specs.declared.errors.GlError.TheVariants.{Enum, Value, Operation, Memory, Framebuffer}

-- NO_ERROR
abbrev pub no_error : ℕ
no_error = 0

-- OUT_OF_MEMORY, 0x0505
abbrev pub out_of_memory : ℕ
out_of_memory = 1285

-- the code that getError returns for an error: 0x0500, 0x0501, 0x0502, 0x0505 and 0x0506
abbrev pub code_of : GlError → ℕ
code_of Enum = 1280
code_of Value = 1281
code_of Operation = 1282
code_of Memory = out_of_memory
code_of Framebuffer = 1286
