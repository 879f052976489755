-- The values of a program's uniforms, and what the calls on them do where nothing refuses them (OpenGL ES 2.0 section 2.10.4).
use Rattle.std.specs.Prelude.{ℕ, ◌+◌, ◌*◌, ◌/◌, min, Bool, true, false, Option, Some, None, List, [], ◌++◌, length, map, take, drop, replicate, slice_set}
use Rattle.std.specs.List.{position}
use Rattle.glsl_types.specs.Bases.{components}
use Rattle.glsl_types.specs.declared.bases.Base.{Base}
use Rattle.glsl_types.specs.declared.types.SlType.{SlType}
use Rattle.uniform_values.specs.declared.slots.Slot.{Slot}
use Rattle.uniform_values.specs.Layout.{slot_count, slots_of, width, word_count}
use Rattle.uniform_values.specs.Kinds.{kept}

-- the values of a program's uniforms: its slots, the words of all slots one after another, and which slots wait, since they were
-- set and not taken by `next_dirty` since
pub record Uniforms : Type 0 where
  pub slots : List Slot
  pub words : List ℕ
  pub waiting : List Bool

-- the values that a link leaves: all words are 0 (OpenGL ES 2.0 section 2.10.4)
abbrev pub new_uniforms : List SlType → Uniforms
new_uniforms kinds = record {
  slots = slots_of kinds;
  words = replicate (word_count kinds) 0;
  waiting = replicate (slot_count kinds) false;
}

-- the words of a slot
abbrev pub words_of_slot : Option Slot → List ℕ → List ℕ
words_of_slot (Some slot) words = take (width slot.base) (drop slot.at words)
words_of_slot None words = []

-- a list with the elements from a place on replaced
abbrev pub replaced_from : {A : Type 0} → ℕ → List A → List A → List A
replaced_from at new old = take at old ++ (new ++ drop (at + length new) old)

-- how many elements a call sets: one for each value, at most to the end of the array
abbrev pub set_count : Slot → Base → List ℕ → ℕ
set_count slot given words = min (length words / components given) slot.room

-- the words that a call sets, as the uniform keeps them
abbrev pub set_words : Slot → Base → List ℕ → List ℕ
set_words slot given words = map (kept slot.base given) (take (set_count slot given words * components given) words)

-- the values after a call on the slot of this number
abbrev pub with_values : ℕ → Option Slot → Option Base → List ℕ → Uniforms → Uniforms
with_values number (Some slot) (Some given) words u = record u {
  words = replaced_from slot.at (set_words slot given words) u.words;
  waiting = replaced_from number (replicate (set_count slot given words) true) u.waiting;
}
with_values number (Some slot) None words u = u
with_values number None given words u = u

-- the first slot that waits
abbrev pub first_waiting : Uniforms → Option ℕ
first_waiting u = position (λ waits. waits) u.waiting

-- the values after a slot was taken, which then doesn't wait
abbrev pub taken : Option ℕ → Uniforms → Uniforms
taken (Some number) u = record u { waiting = slice_set u.waiting number false }
taken None u = u
