-- The rules that refuse each call on the store, in their order, and what a call does that none refuses (OpenGL ES 2.0
-- section 2.9, WebGL 1.0 sections 5.14.5 and 6.1).
use Rattle.std.specs.Prelude.{◌≡◌, ℕ, ℤ, ◌+◌, Option, Some, None, Result, Ok, Err, List, [], ◌∷◌, length}
use Rattle.std.specs.Option.{option_map}
use Rattle.std.specs.FinMap.{remove}
use Rattle.gl_numbers.specs.declared.buffer_words.BufferTarget.{BufferTarget}
use Rattle.gl_numbers.specs.declared.buffer_words.BufferTarget.TheVariants.{Array, ElementArray}
use Rattle.gl_numbers.specs.declared.buffer_words.Usage.{Usage}
use Rattle.gl_numbers.specs.declared.errors.GlError.{GlError}
use Rattle.gl_numbers.specs.declared.errors.GlError.TheVariants.{Memory}
use Rattle.gl_numbers.specs.Refusals.{Rule, first_refusal}
use Rattle.gl_numbers.specs.BufferBindings.{binding, bind, unbind}
use Rattle.gl_numbers.specs.BufferRules.{BufferView, whole, bad_size, negative_offset, other_target, nothing_bound, past_the_end}
use Rattle.buffer_store.specs.declared.content.Content.{Content}
use Rattle.buffer_store.specs.Content.{size_of, buffer_of}
use Rattle.buffer_store.specs.StoredBuffer.{view_of, with_first, with_bytes}
use Rattle.buffer_store.specs.Stored.{Stored, changed, found}

-- a call returns the error of the first rule that applies, or runs out of memory for the bytes of an element buffer, where no rule
-- applies, and Ok else
abbrev pub JudgedOrRunsOut : BufferTarget → List Rule → Result (Unit {0}) GlError → Type 0
JudgedOrRunsOut target rules (Ok _) = first_refusal rules ≡ None
JudgedOrRunsOut target rules (Err Memory) = (first_refusal rules ≡ None) × (target ≡ ElementArray)
JudgedOrRunsOut target rules (Err error) = first_refusal rules ≡ Some error

-- what the rules see of the buffer of a handle, if one is given and there
abbrev pub view_at : Stored → Option ℕ → Option BufferView
view_at s handle = option_map view_of (found s.buffers handle)

-- what the rules see of the buffer that is bound to a target
abbrev pub bound_view : Stored → BufferTarget → Option BufferView
bound_view s target = view_at s (binding s.bound target)

-- bindBuffer: the buffer was first bound to the other target
abbrev pub bind_rules : Stored → BufferTarget → Option ℕ → List Rule
bind_rules s target handle = other_target (Some target) (view_at s handle) ∷ []

-- bindBuffer: the target has this binding, and the buffer is of this target
abbrev pub bound_to_target : Stored → BufferTarget → Option ℕ → Stored
bound_to_target s target handle = record {
  buffers = changed s.buffers handle (with_first target);
  bound = bind (Some target) handle s.bound;
}

-- bufferData: the size is too large; no buffer is bound
abbrev pub data_rules : Stored → BufferTarget → Content → List Rule
data_rules s target content = bad_size (size_of content) ∷ nothing_bound (bound_view s target) ∷ []

-- bufferData: the bound buffer has this content and usage
abbrev pub filled : Stored → BufferTarget → Content → Usage → Stored
filled s target content usage =
    record s { buffers = changed s.buffers (binding s.bound target) (λ _. buffer_of target content usage) }

-- bufferSubData: the offset is negative; no buffer is bound; the bytes end past the buffer's end
abbrev pub sub_data_rules : Stored → BufferTarget → ℤ → List ℕ → List Rule
sub_data_rules s target offset bytes =
    negative_offset offset
    ∷ nothing_bound (bound_view s target)
    ∷ past_the_end (whole offset + length bytes) (bound_view s target)
    ∷ []

-- bufferSubData: the bound buffer has these bytes from the offset on, as far as its bytes are kept
abbrev pub patched : Stored → BufferTarget → ℤ → List ℕ → Stored
patched s Array offset bytes = s
patched s ElementArray offset bytes =
    record s { buffers = changed s.buffers s.bound.element_array (with_bytes (whole offset) bytes) }

-- deleteBuffer: the buffer is gone, and bound to nothing
abbrev pub without_buffer : Stored → ℕ → Stored
without_buffer s handle = record { buffers = remove s.buffers handle; bound = unbind handle s.bound }
