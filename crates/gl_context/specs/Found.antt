-- What a handle is judged as, for a call that binds a buffer.
use Rattle.std.specs.Prelude.{◌≡◌, ℕ, true, false, is_some, Option, Result, Ok, Err}
use Rattle.gl_numbers.specs.BufferRules.{no_such_buffer}
use Rattle.gl_numbers.specs.declared.errors.GlError.{GlError}
use Rattle.gl_numbers.specs.declared.errors.GlError.TheVariants.{Operation}
use Rattle.gl_model.specs.PageState.{PageState}

-- a handle is refused exactly where it is no buffer's that is there
abbrev pub JudgesBindable : PageState → ℕ → Result (Option ℕ × ℕ) GlError → Type 0
JudgesBindable w handle (Ok _) = (no_such_buffer handle (is_some (w.buffers.contents handle))).applies ≡ false
JudgesBindable w handle (Err error) = (error ≡ Operation) × ((no_such_buffer handle (is_some (w.buffers.contents handle))).applies ≡ true)
