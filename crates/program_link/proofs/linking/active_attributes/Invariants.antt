-- The attributes so far have their locations, and those that are left the others.
use Rattle.std.proofs.Common.{◌≡◌, ◌++◌, drop, vec_len}
use Rattle.program_link.specs.Items.{used}
use Rattle.program_link.specs.Linked.{at_locations}
use Rattle.program_link.proofs.linking.active_attributes.Given as goal

abbrev pub invariant-loop-item : goal.invariant-loop-item
invariant-loop-item l =
    at_locations (used l.items) l.locations
    ≡ l.attributes.items ++ at_locations (used (drop l.item-index l.items)) (drop (vec_len l.attributes) l.locations)
