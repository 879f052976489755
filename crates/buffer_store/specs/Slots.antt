-- The list of slots that the buffers stand in: the buffer of a handle has the place of that number.
use Rattle.std.specs.Prelude.{ℕ, suc, Option, Some, None, List, [], ◌∷◌}
use Rattle.std.specs.FinMap.{from_entries}
use Rattle.buffer_store.specs.StoredBuffer.{StoredBuffer}
use Rattle.buffer_store.specs.Stored.{Shelf}

-- the buffers of a list of slots, each with its place, counted from n
unfoldable pub slots_from : ℕ → List (Option StoredBuffer) → List (ℕ × StoredBuffer)
slots_from n [] = []
slots_from n (None ∷ slots) = slots_from (suc n) slots
slots_from n (Some b ∷ slots) = (n, b) ∷ slots_from (suc n) slots

-- the shelf of the buffers in a list of slots
unfoldable pub shelf_of : List (Option StoredBuffer) → Shelf
shelf_of slots = from_entries (slots_from 0 slots)
