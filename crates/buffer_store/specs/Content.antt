-- What a buffer is filled with (bufferData, OpenGL ES 2.0 section 2.9).
use Rattle.std.specs.Prelude.{ℕ, ◌≤◌, Some, List, length, replicate}
use Rattle.gl_numbers.specs.declared.buffer_words.BufferTarget.{BufferTarget}
use Rattle.gl_numbers.specs.declared.buffer_words.Usage.{Usage}
use Rattle.gl_numbers.specs.Limits.{buffer_bytes_max}
use Rattle.buffer_store.specs.declared.content.Content.{Content}
use Rattle.buffer_store.specs.declared.content.Content.TheVariants.{Size, Bytes}
use Rattle.buffer_store.specs.StoredBuffer.{StoredBuffer, kept}

-- how many bytes there are
abbrev pub size_of : Content → ℕ
size_of (Size n) = n
size_of (Bytes bytes) = length bytes.now

-- the bytes themselves
abbrev pub bytes_of : Content → List ℕ
bytes_of (Size n) = replicate n 0
bytes_of (Bytes bytes) = bytes.now

-- bytes that are given are no more than a buffer holds
abbrev pub HasShortBytes : Content → Type 0
HasShortBytes (Size n) = Unit {0}
HasShortBytes (Bytes bytes) = length bytes.now ≤ buffer_bytes_max

-- a buffer of this target that bufferData gave this content and usage
abbrev pub buffer_of : BufferTarget → Content → Usage → StoredBuffer
buffer_of target content usage = record {
  first_target = Some target;
  size = size_of content;
  usage = usage;
  bytes = kept target (bytes_of content);
}
