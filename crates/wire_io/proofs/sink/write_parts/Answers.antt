-- One more write sends the next part of the piece.
use Rattle.std.proofs.Common.{arith}
use Rattle.std.proofs.lemmas.Grind.{common_steps}
use Rattle.wire_io.proofs.Known.{sent_more}
use Rattle.wire_io.proofs.sink.write_parts.Goals as goal

pub loop-sent-preserved : goal.loop-sent-preserved
loop-sent-preserved g c = record {
  within = grind (arith, common_steps);
  bytes = sent_more _ _ _ _ _ _ c.loop-sent.invariant.bytes c.in_ok-sent.ensures.bytes.1;
  later = grind (arith, common_steps);
}
