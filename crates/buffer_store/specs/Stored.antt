-- All stored buffers, and what is bound (OpenGL ES 2.0 section 2.9).
use Rattle.std.specs.Prelude.{◌≡◌, ℕ, Option, Some, None, IsSomeAnd}
use Rattle.std.specs.Option.{option_and_then}
use Rattle.std.specs.Ordering.{nat_cmp}
use Rattle.std.specs.FinMap.{FinMap, empty, get, insert}
use Rattle.gl_numbers.specs.declared.buffer_words.BufferTarget.{BufferTarget}
use Rattle.gl_numbers.specs.declared.buffer_words.BufferTarget.TheVariants.{Array, ElementArray}
use Rattle.gl_numbers.specs.BufferBindings.{Bindings, no_bindings, binding}
use Rattle.buffer_store.specs.StoredBuffer.{StoredBuffer}

-- the buffers that are there, by handle
abbrev pub Shelf : Type 0
Shelf = FinMap nat_cmp StoredBuffer

-- the shelf with the buffer of a handle changed, as it was found
abbrev pub changed_at : Shelf → ℕ → (StoredBuffer → StoredBuffer) → Option StoredBuffer → Shelf
changed_at shelf handle change None = shelf
changed_at shelf handle change (Some b) = insert shelf handle (change b)

-- the shelf with the buffer of a handle changed, if a handle is given and its buffer is there
abbrev pub changed : Shelf → Option ℕ → (StoredBuffer → StoredBuffer) → Shelf
changed shelf None change = shelf
changed shelf (Some handle) change = changed_at shelf handle change (get shelf handle)

-- the buffers that are there, and the handle that is bound to each target
pub record Stored : Type 0 where
  pub buffers : Shelf
  pub bound : Bindings

-- nothing is made and nothing bound
abbrev pub nothing_stored : Stored
nothing_stored = record { buffers = empty; bound = no_bindings }

-- the buffer of a handle, if one is given and there
abbrev pub found : Shelf → Option ℕ → Option StoredBuffer
found shelf handle = option_and_then (get shelf) handle

-- the buffer that is bound to a target
abbrev pub bound_buffer : Stored → BufferTarget → Option StoredBuffer
bound_buffer s target = found s.buffers (binding s.bound target)

-- a buffer that is there and was first bound to this target
abbrev pub IsOf : BufferTarget → Option StoredBuffer → Type 0
IsOf target buffer = IsSomeAnd buffer (λ b. b.first_target ≡ Some target)

-- a handle that is bound to a target names a buffer that was first bound to it (WebGL 1.0 section 6.1)
abbrev pub IsBoundFirst : Shelf → BufferTarget → Option ℕ → Type 0
IsBoundFirst shelf target None = Unit {0}
IsBoundFirst shelf target (Some handle) = IsOf target (get shelf handle)

-- what both bindings keep true
pub record AreBoundFirst (shelf : Shelf) (bound : Bindings) : Type 0 where
  pub array : IsBoundFirst shelf Array bound.array
  pub element_array : IsBoundFirst shelf ElementArray bound.element_array

-- each buffer that was first bound to a target stays one
pub record KeepsFirst (old new : Shelf) : Type 0 where
  pub stays : (handle : ℕ) (target : BufferTarget) → IsOf target (get old handle) → IsOf target (get new handle)
