-- The slots of a program's uniforms, and where their words lie (OpenGL ES 2.0 section 2.10.4; the layout is this project's own).
use Rattle.std.specs.Prelude.{ℕ, zero, suc, ◌+◌, ◌*◌, ◌==◌, if◌then◌else◌, not, List, [], ◌∷◌, ◌++◌}
use Rattle.glsl_types.specs.Bases.{components, is_sampler}
use Rattle.glsl_types.specs.declared.bases.Base.{Base}
use Rattle.glsl_types.specs.declared.types.SlType.{SlType}
use Rattle.uniform_values.specs.declared.slots.Slot.{Slot}

-- the elements of a uniform: those of an array, or one
abbrev pub elements : SlType → ℕ
elements kind = if kind.array == 0 then 1 else kind.array

-- the words of an element: one a component, and of a sampler the number of its texture unit (section 2.10.4, Samplers)
abbrev pub width : Base → ℕ
width base = if is_sampler base then 1 else components base

-- the slots of so many elements that end a uniform, from the word `at` on
unfoldable pub slots_to_end : SlType → ℕ → ℕ → List Slot
slots_to_end kind at zero = []
slots_to_end kind at (suc n) =
    record { base = kind.base; array = not (kind.array == 0); room = suc n; at = at } ∷ slots_to_end kind (at + width kind.base) n

-- the slots of uniforms of these types, in order, from the word `at` on
unfoldable pub slots_from : ℕ → List SlType → List Slot
slots_from at [] = []
slots_from at (kind ∷ kinds) = slots_to_end kind at (elements kind) ++ slots_from (at + elements kind * width kind.base) kinds

-- the slots of a program whose active uniforms are of these types
abbrev pub slots_of : List SlType → List Slot
slots_of kinds = slots_from 0 kinds

-- how many slots uniforms of these types have
abbrev pub slot_count : List SlType → ℕ
slot_count [] = 0
slot_count (kind ∷ kinds) = elements kind + slot_count kinds

-- how many words they have
unfoldable pub word_count : List SlType → ℕ
word_count [] = 0
word_count (kind ∷ kinds) = elements kind * width kind.base + word_count kinds

-- the most slots of a program, more than the vectors of both stages ever hold
abbrev pub slots_max : ℕ
slots_max = 65536
