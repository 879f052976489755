-- One more word is written.
use Rattle.std.proofs.Common.{arith}
use Rattle.uniform_values.specs.Kinds.{kept}
use Rattle.uniform_values.proofs.Soundness.{fill-step}
use Rattle.uniform_values.proofs.values.fill.Goals as goal

pub loop-i-preserved : goal.loop-i-preserved
loop-i-preserved c =
    fill-step (kept c.args.own c.args.given) c.loop-i.part c.args.part.now c.args.from.now c.loop-i.i c.kept.result
    (omega arith) (omega arith) (cc) c.loop-i.invariant
