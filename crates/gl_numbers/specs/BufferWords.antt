-- The words of buffer targets, usages and buffer parameters (OpenGL ES 2.0 sections 2.9 and 6.1.3).
use Rattle.std.specs.Prelude.{ℕ, Bool, Option, Some, None, ◌==◌, ◌||◌, if◌then◌else◌}
use Rattle.gl_numbers.specs.declared.buffer_words.BufferTarget.{BufferTarget}
use Rattle.gl_numbers.specs.declared.buffer_words.BufferTarget.TheVariants.{Array, ElementArray}
use Rattle.gl_numbers.specs.declared.buffer_words.Usage.{Usage}
use Rattle.gl_numbers.specs.declared.buffer_words.Usage.TheVariants.{StreamDraw, StaticDraw, DynamicDraw}

-- ARRAY_BUFFER, 0x8892
abbrev pub array_buffer : ℕ
array_buffer = 34962

-- ELEMENT_ARRAY_BUFFER, 0x8893
abbrev pub element_array_buffer : ℕ
element_array_buffer = 34963

-- the buffer target of a word, if it is one
abbrev pub buffer_target_of : ℕ → Option BufferTarget
buffer_target_of n =
    if n == array_buffer then Some Array
    else (if n == element_array_buffer then Some ElementArray else None)

-- the word of a usage: STREAM_DRAW 0x88E0, STATIC_DRAW 0x88E4, DYNAMIC_DRAW 0x88E8
abbrev pub usage_word : Usage → ℕ
usage_word StreamDraw = 35040
usage_word StaticDraw = 35044
usage_word DynamicDraw = 35048

-- the usage of a word, if it is one
abbrev pub usage_of : ℕ → Option Usage
usage_of n =
    if n == usage_word StreamDraw then Some StreamDraw
    else (if n == usage_word StaticDraw then Some StaticDraw
    else (if n == usage_word DynamicDraw then Some DynamicDraw else None))

-- BUFFER_SIZE, 0x8764: the parameter of a buffer that is its size in bytes
abbrev pub buffer_size : ℕ
buffer_size = 34660

-- BUFFER_USAGE, 0x8765: the parameter of a buffer that is the word of its usage
abbrev pub buffer_usage : ℕ
buffer_usage = 34661

-- whether the word is a parameter of buffers
abbrev pub is_buffer_parameter : ℕ → Bool
is_buffer_parameter word = (word == buffer_size) || (word == buffer_usage)
