-- What was written and what is still to write are the bytes.
use Rattle.std.proofs.Common.{length, ◌-◌, ◌≤◌, drop, []}
use Rattle.wire_io.specs.Buffers.{Passes}
use Rattle.wire_io.proofs.buffer.write_out.Given as goal

abbrev pub invariant-loop-start : goal.invariant-loop-start
invariant-loop-start g l = record {
  within : l.start ≤ length l.bytes;
  content : Passes (g.W.Write.contents l.fn.out) (g.W.Write.contents l.out) (drop l.fn.start l.bytes) [] (drop l.start l.bytes);
}

abbrev pub decreases-loop-start : goal.decreases-loop-start
decreases-loop-start g l = length l.bytes - l.start
