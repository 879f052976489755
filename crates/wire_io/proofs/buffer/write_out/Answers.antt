-- One more write takes the next part.
use Rattle.std.proofs.Common.{arith, drop}
use Rattle.std.proofs.lemmas.Grind.{common_steps}
use Rattle.wire_io.proofs.Passed.{passes_more}
use Rattle.wire_io.proofs.buffer.write_out.Goals as goal

pub loop-start-preserved : goal.loop-start-preserved
loop-start-preserved g c = record {
  within = grind (arith, common_steps);
  content = passes_more (g.W.Write.contents c.args.out.now) (g.W.Write.contents c.loop-start.out) (g.W.Write.contents c.write.new.self) (drop c.args.start.now c.args.bytes.now) c.args.bytes.now c.loop-start.start c.in-Ok.n c.loop-start.invariant.content c.in-Ok.ensures.bytes;
}
