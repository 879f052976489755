-- The items so far are found by their names.
use Rattle.std.proofs.Common.{take}
use Rattle.program_link.specs.Places.{FindsItems}
use Rattle.program_link.proofs.items.ByName.of.Given as goal

abbrev pub invariant-loop-place : goal.invariant-loop-place
invariant-loop-place l = FindsItems l.places.entries (take l.place l.items)
