-- One buffer, as far as the store keeps it (OpenGL ES 2.0 section 2.9, WebGL 1.0 section 6.1).
use Rattle.std.specs.Prelude.{◌≡◌, ℕ, ◌+◌, ◌≤◌, Option, Some, None, List, [], ◌++◌, length, take, drop}
use Rattle.gl_numbers.specs.declared.buffer_words.BufferTarget.{BufferTarget}
use Rattle.gl_numbers.specs.declared.buffer_words.BufferTarget.TheVariants.{Array, ElementArray}
use Rattle.gl_numbers.specs.declared.buffer_words.Usage.{Usage}
use Rattle.gl_numbers.specs.declared.buffer_words.Usage.TheVariants.{StaticDraw}
use Rattle.gl_numbers.specs.Limits.{buffer_bytes_max}
use Rattle.gl_numbers.specs.BufferRules.{BufferView}

-- the target that it was first bound to, its size in bytes, its usage, and the bytes that are kept of it
pub record StoredBuffer : Type 0 where
  pub first_target : Option BufferTarget
  pub size : ℕ
  pub usage : Usage
  pub bytes : List ℕ

-- a buffer that was just made: no target, no bytes, STATIC_DRAW (OpenGL ES 2.0 section 2.9)
abbrev pub new_stored : StoredBuffer
new_stored = record { first_target = None; size = 0; usage = StaticDraw; bytes = [] }

-- what the rules see of a stored buffer
abbrev pub view_of : StoredBuffer → BufferView
view_of b = record { first_target = b.first_target; size = b.size; usage = b.usage }

-- what is kept of the bytes of a buffer of this target: the indices alone
abbrev pub kept : BufferTarget → List ℕ → List ℕ
kept Array bytes = []
kept ElementArray bytes = bytes

-- the bytes with those from an offset on replaced (bufferSubData, OpenGL ES 2.0 section 2.9)
abbrev pub put_bytes : ℕ → List ℕ → List ℕ → List ℕ
put_bytes at bytes old = take at old ++ (bytes ++ drop (at + length bytes) old)

-- the same buffer, first bound to this target
abbrev pub with_first : BufferTarget → StoredBuffer → StoredBuffer
with_first target b = record b { first_target = Some target }

-- the same buffer with these bytes from an offset on
abbrev pub with_bytes : ℕ → List ℕ → StoredBuffer → StoredBuffer
with_bytes at bytes b = record b { bytes = put_bytes at bytes b.bytes }

-- an element buffer whose bytes reach `end`
pub record IsIndexed (end : ℕ) (b : StoredBuffer) : Type 0 where
  pub first : b.first_target ≡ Some ElementArray
  pub within : end ≤ b.size

-- a buffer that was never bound has no bytes, and all bytes of an element buffer are kept
abbrev pub KeepsBytes : Option BufferTarget → ℕ → List ℕ → Type 0
KeepsBytes None size bytes = (size ≡ 0) × (bytes ≡ [])
KeepsBytes (Some Array) size bytes = bytes ≡ []
KeepsBytes (Some ElementArray) size bytes = length bytes ≡ size

-- what each stored buffer keeps true: a size within the limit, and the bytes that its target asks for
pub record IsSound (b : StoredBuffer) : Type 0 where
  pub within : b.size ≤ buffer_bytes_max
  pub kept_bytes : KeepsBytes b.first_target b.size b.bytes
