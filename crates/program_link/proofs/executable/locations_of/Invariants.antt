-- The attributes so far have their locations by name.
use Rattle.std.proofs.Common.{map, take}
use Rattle.program_link.specs.Places.{HasNumbers}
use Rattle.program_link.proofs.executable.locations_of.Given as goal

abbrev pub invariant-loop-attribute : goal.invariant-loop-attribute
invariant-loop-attribute l =
    HasNumbers l.locations.entries (map (λ a. (a.name, a.location)) (take l.attribute-index l.attributes))
