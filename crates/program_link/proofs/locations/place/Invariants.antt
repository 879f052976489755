-- The locations so far, and those of the attributes that are left.
use Rattle.std.proofs.Common.{◌≡◌, ◌++◌, drop}
use Rattle.std.specs.Option.{option_map}
use Rattle.program_link.specs.Items.{used}
use Rattle.program_link.specs.Locations.{located}
use Rattle.program_link.proofs.locations.place.Given as goal

abbrev pub invariant-loop-item : goal.invariant-loop-item
invariant-loop-item l =
    located l.bindings l.fn.taken (used l.attributes)
    ≡ option_map (λ rest. l.locations.items ++ rest) (located l.bindings l.taken (used (drop l.item-index l.attributes)))
