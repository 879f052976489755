-- The locations that were bound to the attributes so far are taken, and those of the others are to be.
use Rattle.std.proofs.Common.{◌≡◌, drop}
use Rattle.program_link.specs.Items.{used}
use Rattle.program_link.specs.Locations.{none_taken, taken_by_bound}
use Rattle.program_link.proofs.locations.locate.Given as goal

abbrev pub invariant-loop-item : goal.invariant-loop-item
invariant-loop-item l =
    taken_by_bound l.bindings none_taken (used l.attributes) ≡ taken_by_bound l.bindings l.taken (used (drop l.item-index l.attributes))
