-- The members of the elements from this place on are put on top.
use Rattle.std.proofs.Common.{◌≡◌, ◌≤◌, ◌++◌}
use Rattle.std.specs.Prelude.{reverse}
use Rattle.program_link.proofs.Members.{from_element}
use Rattle.program_link.proofs.flattening.add_members.Given as goal

abbrev pub invariant-loop-place : goal.invariant-loop-place
invariant-loop-place l = record {
  within : l.place ≤ l.array;
  members :
      reverse l.pending.items ≡ from_element l.name l.seen l.fields l.place l.array ++ reverse l.initial.pending.items;
}

abbrev pub decreases-loop-place : goal.decreases-loop-place
decreases-loop-place l = l.place
