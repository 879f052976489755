-- What is to be placed of the varyings so far, and of those that are left.
use Rattle.std.proofs.Common.{◌≡◌, ◌++◌, drop}
use Rattle.program_link.specs.Items.{used}
use Rattle.program_link.proofs.Placing.{items_placed}
use Rattle.program_link.proofs.room.varyings_have_room.Given as goal

abbrev pub invariant-loop-item : goal.invariant-loop-item
invariant-loop-item l =
    items_placed (used l.fragment.varyings) ≡ l.items.items ++ items_placed (used (drop l.item-index l.fragment.varyings))
