-- The bytes filled so far are those taken.
use Rattle.std.proofs.Common.{length, ◌-◌, ◌≡◌, ◌≤◌, take}
use Rattle.std.specs.Io.KnownBytes.{prepend_known}
use Rattle.wire_io.proofs.source.read_parts.Given as goal

abbrev pub invariant-loop-filled : goal.invariant-loop-filled
invariant-loop-filled g l = record {
  within : l.filled ≤ length l.into;
  bytes : g.S.Source.left l.fn.input ≡ prepend_known (take l.filled l.into) (g.S.Source.left l.input);
  later : g.S.Source.faults l.fn.input ≤ g.S.Source.faults l.input;
}

abbrev pub decreases-loop-filled : goal.decreases-loop-filled
decreases-loop-filled g l = length l.initial.into - l.filled
