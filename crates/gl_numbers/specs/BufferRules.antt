-- The rules that refuse calls and commands on buffers, each over the least that decides it. The page, its store and the driver
-- see a buffer through one view.
use Rattle.std.specs.Prelude.{ℕ, ℤ, pos, negsuc, Bool, true, false, not, ◌&&◌, ◌||◌, Option, Some, is_some, ◌==◌, nat_lt}
use Rattle.std.specs.Option.{option_map_or}
use Rattle.gl_numbers.specs.BufferWords.{buffer_target_of, usage_of, is_buffer_parameter}
use Rattle.gl_numbers.specs.declared.buffer_words.BufferTarget.{BufferTarget}
use Rattle.gl_numbers.specs.declared.buffer_words.BufferTarget.TheVariants.{Array, ElementArray}
use Rattle.gl_numbers.specs.declared.buffer_words.Usage.{Usage}
use Rattle.gl_numbers.specs.Limits.{buffer_bytes_max}
use Rattle.gl_numbers.specs.Refusals.{Rule, when, invalid_enum, invalid_value, invalid_operation}

-- what the rules see of a buffer: the target that it was first bound to, its size in bytes and its usage
pub record BufferView : Type 0 where
  pub first_target : Option BufferTarget
  pub size : ℕ
  pub usage : Usage

-- a number with a sign is below 0
abbrev pub is_negative : ℤ → Bool
is_negative (pos n) = false
is_negative (negsuc n) = true

-- a number with a sign that isn't below 0
abbrev pub whole : ℤ → ℕ
whole (pos n) = n
whole (negsuc n) = 0

-- a buffer was first bound to the one target, and the other is wanted (WebGL 1.0 section 6.1)
abbrev pub is_other : BufferTarget → Option BufferTarget → Bool
is_other Array (Some ElementArray) = true
is_other ElementArray (Some Array) = true
is_other _ _ = false

-- the word is no buffer target (OpenGL ES 2.0 section 2.9; WebGL 1.0 section 5.14.5)
abbrev pub bad_target : ℕ → Rule
bad_target word = when (not (is_some (buffer_target_of word))) invalid_enum

-- the word is no usage (OpenGL ES 2.0 section 2.9, table 2.6)
abbrev pub bad_usage : ℕ → Rule
bad_usage word = when (not (is_some (usage_of word))) invalid_enum

-- the word is no parameter of a buffer (OpenGL ES 2.0 section 6.1.3)
abbrev pub bad_parameter : ℕ → Rule
bad_parameter word = when (not (is_buffer_parameter word)) invalid_enum

-- no buffer has so many bytes (this project's own limit)
abbrev pub bad_size : ℕ → Rule
bad_size size = when (nat_lt buffer_bytes_max size) invalid_value

-- a size that is negative, or of so many bytes that no buffer has them
abbrev pub bad_signed_size : ℤ → Rule
bad_signed_size size = when (is_negative size || nat_lt buffer_bytes_max (whole size)) invalid_value

-- an offset that is negative (OpenGL ES 2.0 section 2.9)
abbrev pub negative_offset : ℤ → Rule
negative_offset offset = when (is_negative offset) invalid_value

-- a handle or name other than 0 that names no buffer which is there (WebGL 1.0 section 5.14; OpenGL ES 2.0 section 2.9)
abbrev pub no_such_buffer : ℕ → Bool → Rule
no_such_buffer number there = when (not (number == 0) && not there) invalid_operation

-- the buffer was first bound to the other target (WebGL 1.0 section 6.1)
abbrev pub other_target : Option BufferTarget → Option BufferView → Rule
other_target target buffer =
    when (option_map_or (λ t. option_map_or (λ b. is_other t b.first_target) buffer false) target false) invalid_operation

-- no buffer is bound to the target (OpenGL ES 2.0 section 2.9)
abbrev pub nothing_bound : Option BufferView → Rule
nothing_bound buffer = when (not (is_some buffer)) invalid_operation

-- bytes end past the end of the bound buffer (OpenGL ES 2.0 section 2.9)
abbrev pub past_the_end : ℕ → Option BufferView → Rule
past_the_end end buffer = when (option_map_or (λ b. nat_lt b.size end) buffer false) invalid_value
