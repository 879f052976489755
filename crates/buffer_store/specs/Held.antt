-- How a stored buffer is held in memory.
use Rattle.std.specs.Prelude.{Some, None, [], length}
use Rattle.gl_numbers.specs.declared.buffer_words.BufferTarget.TheVariants.{Array, ElementArray}
use Rattle.gl_numbers.specs.declared.buffer_words.Usage.{Usage}
use Rattle.buffer_store.specs.declared.held.Kept.{Kept}
use Rattle.buffer_store.specs.declared.held.Kept.TheVariants.{Unbound, Vertices, Indices}
use Rattle.buffer_store.specs.StoredBuffer.{StoredBuffer}

-- the stored buffer that is held so
abbrev pub shown : Kept → Usage → StoredBuffer
shown Unbound usage = record { first_target = None; size = 0; usage = usage; bytes = [] }
shown (Vertices size) usage = record { first_target = Some Array; size = size; usage = usage; bytes = [] }
shown (Indices bytes) usage = record { first_target = Some ElementArray; size = length bytes.items; usage = usage; bytes = bytes.items }
