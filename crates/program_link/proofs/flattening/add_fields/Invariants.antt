-- The fields from this place on are put on top.
use Rattle.std.proofs.Common.{◌≡◌, ◌≤◌, ◌++◌, drop, length, map}
use Rattle.std.specs.Prelude.{reverse}
use Rattle.program_link.specs.Standing.{entry}
use Rattle.program_link.proofs.flattening.add_fields.Given as goal

abbrev pub invariant-loop-place : goal.invariant-loop-place
invariant-loop-place l = record {
  within : l.place ≤ length l.fields;
  members : reverse l.pending.items ≡ map (entry l.name l.seen) (drop l.place l.fields) ++ reverse l.initial.pending.items;
}

abbrev pub decreases-loop-place : goal.decreases-loop-place
decreases-loop-place l = l.place
