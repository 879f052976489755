-- Buffer objects (OpenGL ES 2.0 section 2.9; WebGL 1.0 section 5.14.5).
use Rattle.std.specs.Prelude.{ℕ, ◌+◌, Option, None, List, [], ◌++◌, length, take, drop, unwrap_or}
use Rattle.std.specs.Option.{option_or}
use Rattle.gl_numbers.specs.BufferWords.{usage_of}
use Rattle.gl_numbers.specs.BufferRules.{BufferView}
use Rattle.gl_numbers.specs.declared.buffer_words.BufferTarget.{BufferTarget}
use Rattle.gl_numbers.specs.declared.buffer_words.Usage.{Usage}
use Rattle.gl_numbers.specs.declared.buffer_words.Usage.TheVariants.{StaticDraw}

-- a buffer: the target that it was first bound to, its usage and all its bytes
pub record Buffer : Type 0 where
  pub first_target : Option BufferTarget
  pub usage : Usage
  pub bytes : List ℕ

-- a buffer that was just made: no target, no bytes, STATIC_DRAW
abbrev pub new_buffer : Buffer
new_buffer = record { first_target = None; usage = StaticDraw; bytes = [] }

-- what the rules see of a buffer
abbrev pub view_of : Buffer → BufferView
view_of buffer = record { first_target = buffer.first_target; size = length buffer.bytes; usage = buffer.usage }

-- a buffer that is bound for the first time takes the target
abbrev pub take_target : Option BufferTarget → Buffer → Buffer
take_target target buffer = record buffer { first_target = option_or buffer.first_target target }

-- a buffer with new bytes and the usage of a word
abbrev pub take_data : ℕ → List ℕ → Buffer → Buffer
take_data usage bytes buffer = record buffer { usage = unwrap_or (usage_of usage) buffer.usage; bytes = bytes }

-- the bytes from an offset on are replaced
abbrev pub patch : ℕ → List ℕ → Buffer → Buffer
patch offset part buffer = record buffer { bytes = take offset buffer.bytes ++ (part ++ drop (offset + length part) buffer.bytes) }
