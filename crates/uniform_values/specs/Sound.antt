-- What always holds of how values are kept (this project's own).
use Rattle.std.specs.Prelude.{◌≡◌, ℕ, ◌+◌, ◌*◌, ◌<◌, ◌≤◌, Bool, false, Some, List, length, slice_get, slice_index_or}
use Rattle.uniform_values.specs.declared.slots.Slot.{Slot}
use Rattle.uniform_values.specs.Layout.{slots_max, width}

-- the elements from a slot to the end of its uniform have slots and words
pub record LiesWithin (number : ℕ) (slot : Slot) (slots words : ℕ) : Type 0 where
  pub some : 0 < slot.room
  pub in_slots : number + slot.room ≤ slots
  pub in_words : slot.at + slot.room * width slot.base ≤ words

-- only slots from `first` to `end` wait
pub record WaitsWithin (waiting : List Bool) (first end : ℕ) : Type 0 where
  pub ordered : first ≤ end
  pub ended : end ≤ length waiting
  pub before : (k : ℕ) → k < first → slice_index_or waiting k false ≡ false
  pub after : (k : ℕ) → end ≤ k → slice_index_or waiting k false ≡ false

-- each slot lies within the slots and the words, and only slots from `first` to `end` wait
pub record IsSound (slots : List Slot) (words : List ℕ) (waiting : List Bool) (first end : ℕ) : Type 0 where
  pub within : (number : ℕ) → (slot : Slot) → slice_get slots number ≡ Some slot → LiesWithin number slot (length slots) (length words)
  pub few : length slots ≤ slots_max
  pub marks : length waiting ≡ length slots
  pub waits : WaitsWithin waiting first end
