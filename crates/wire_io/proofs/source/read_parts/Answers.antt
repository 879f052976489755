-- One more read fills the next part of the piece.
use Rattle.std.proofs.Common.{arith}
use Rattle.std.proofs.lemmas.Grind.{common_steps}
use Rattle.wire_io.proofs.Known.{filled_more}
use Rattle.wire_io.proofs.source.read_parts.Goals as goal

pub loop-filled-preserved : goal.loop-filled-preserved
loop-filled-preserved g c = record {
  within = grind (arith, common_steps);
  bytes = filled_more _ _ _ _ _ _ _ _ c.loop-filled.invariant.within c.in_ok-n.ensures.bytes.0 c.loop-filled.invariant.bytes c.in_ok-n.ensures.bytes.1;
  later = grind (arith, common_steps);
}
