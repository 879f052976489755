-- The buffers and what is bound (OpenGL ES 2.0 section 2.9), as page and driver both have them: a buffer goes by a number, the
-- page's handle or the driver's name. Each change is here once.
use Rattle.std.specs.Prelude.{ℕ, Option, None, Some, List, ◌==◌, if◌then◌else◌}
use Rattle.std.specs.Option.{option_map, option_and_then}
use Rattle.gl_numbers.specs.BufferBindings.{Bindings, no_bindings, bound_to, bind, unbind, non_zero}
use Rattle.gl_numbers.specs.BufferRules.{BufferView}
use Rattle.gl_numbers.specs.BufferWords.{buffer_target_of}
use Rattle.gl_model.specs.Buffers.{Buffer, new_buffer, view_of, take_target, take_data, patch}

-- the buffer of each number that has one, and the numbers that are bound
pub record BufferState : Type 0 where
  pub contents : ℕ → Option Buffer
  pub bound : Bindings

-- no buffer, and nothing bound
abbrev pub no_buffers : BufferState
no_buffers = record { contents = λ _. None; bound = no_bindings }

-- a number has this buffer, or none
abbrev pub with_buffer : ℕ → Option Buffer → BufferState → BufferState
with_buffer number buffer s = record s { contents = λ n. if n == number then buffer else s.contents n }

-- the buffer of a number was changed, if there is one
abbrev pub changed_buffer : (Buffer → Buffer) → ℕ → BufferState → BufferState
changed_buffer change number s = with_buffer number (option_map change (s.contents number)) s

-- the same of a number that may be none
abbrev pub changed_if_bound : (Buffer → Buffer) → Option ℕ → BufferState → BufferState
changed_if_bound change None s = s
changed_if_bound change (Some number) s = changed_buffer change number s

-- the buffer that is bound to the target of a word was changed
abbrev pub changed_bound : (Buffer → Buffer) → ℕ → BufferState → BufferState
changed_bound change target s = changed_if_bound change (bound_to s.bound target) s

-- a new buffer
abbrev pub make_buffer : ℕ → BufferState → BufferState
make_buffer number s = with_buffer number (Some new_buffer) s

-- a buffer is gone, and bound no longer
abbrev pub drop_buffer : ℕ → BufferState → BufferState
drop_buffer number s = record (with_buffer number None s) { bound = unbind number s.bound }

-- bindBuffer: the target of a word has the buffer, or none where the number is 0, and the buffer keeps its first target
abbrev pub bind_buffer : ℕ → ℕ → BufferState → BufferState
bind_buffer target number s =
    record (changed_buffer (take_target (buffer_target_of target)) number s)
    { bound = bind (buffer_target_of target) (non_zero number) s.bound }

-- bufferData: the bound buffer has these bytes alone, and the usage of a word
abbrev pub fill_buffer : ℕ → ℕ → List ℕ → BufferState → BufferState
fill_buffer target usage bytes s = changed_bound (take_data usage bytes) target s

-- bufferSubData: the bound buffer's bytes from the offset on are replaced
abbrev pub patch_buffer : ℕ → ℕ → List ℕ → BufferState → BufferState
patch_buffer target offset part s = changed_bound (patch offset part) target s

-- what the rules see of the buffer of a number
abbrev pub view_at : BufferState → ℕ → Option BufferView
view_at s number = option_map view_of (s.contents number)

-- what the rules see of the buffer that is bound to the target of a word
abbrev pub bound_view : BufferState → ℕ → Option BufferView
bound_view s target = option_and_then (view_at s) (bound_to s.bound target)
