-- What is bound to the two buffer targets (OpenGL ES 2.0 section 2.9). A number stands for a buffer: the page's are its handles,
-- the driver's are its names.
use Rattle.std.specs.Prelude.{ℕ, Option, Some, None, ◌==◌, if◌then◌else◌}
use Rattle.std.specs.Option.{option_and_then}
use Rattle.gl_numbers.specs.BufferWords.{buffer_target_of}
use Rattle.gl_numbers.specs.declared.buffer_words.BufferTarget.{BufferTarget}
use Rattle.gl_numbers.specs.declared.buffer_words.BufferTarget.TheVariants.{Array, ElementArray}

-- the buffer that is bound to each target, if one is
pub record Bindings : Type 0 where
  pub array : Option ℕ
  pub element_array : Option ℕ

-- nothing is bound
abbrev pub no_bindings : Bindings
no_bindings = record { array = None; element_array = None }

-- what is bound to a target
abbrev pub binding : Bindings → BufferTarget → Option ℕ
binding bindings Array = bindings.array
binding bindings ElementArray = bindings.element_array

-- what is bound to the target of a word
abbrev pub bound_to : Bindings → ℕ → Option ℕ
bound_to bindings word = option_and_then (binding bindings) (buffer_target_of word)

-- a buffer, or none, is bound to a target, if there is one
abbrev pub bind : Option BufferTarget → Option ℕ → Bindings → Bindings
bind None buffer bindings = bindings
bind (Some Array) buffer bindings = record bindings { array = buffer }
bind (Some ElementArray) buffer bindings = record bindings { element_array = buffer }

-- what a binding is without one buffer
abbrev pub without : ℕ → Option ℕ → Option ℕ
without buffer None = None
without buffer (Some bound) = if bound == buffer then None else Some bound

-- a buffer is bound to neither target
abbrev pub unbind : ℕ → Bindings → Bindings
unbind buffer bindings = record {
  array = without buffer bindings.array;
  element_array = without buffer bindings.element_array;
}

-- a number, where 0 is none
abbrev pub non_zero : ℕ → Option ℕ
non_zero n = if n == 0 then None else Some n
