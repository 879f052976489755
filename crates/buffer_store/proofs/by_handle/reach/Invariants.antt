-- The slots that were added are empty, and each brings the list nearer to its length.
use Rattle.std.proofs.Common.{◌≡◌, ◌-◌, vec_len}
use Rattle.buffer_store.specs.Slots.{shelf_of}
use Rattle.buffer_store.proofs.by_handle.reach.Given as goal

abbrev pub invariant-loop-slots : goal.invariant-loop-slots
invariant-loop-slots l = shelf_of l.slots.items ≡ shelf_of l.fn.slots.items

abbrev pub decreases-loop-slots : goal.decreases-loop-slots
decreases-loop-slots l = l.len - vec_len l.slots
