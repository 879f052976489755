-- No location so far will do.
use Rattle.std.proofs.Common.{◌≡◌, ◌-◌}
use Rattle.std.specs.List.{find, range_with_len}
use Rattle.program_link.specs.Locations.{lowest, may_stand}
use Rattle.program_link.proofs.locations.lowest.Given as goal

abbrev pub invariant-loop-location : goal.invariant-loop-location
invariant-loop-location l =
    lowest l.taken l.base ≡ find (may_stand l.taken l.base) (range_with_len l.location (16 - l.location))
