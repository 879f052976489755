-- The slots of one more uniform stand in the list.
use Rattle.std.proofs.Common.{arith}
use Rattle.uniform_values.proofs.Counting.{laid-done, lay-step}
use Rattle.uniform_values.proofs.slots.lay_out.Goals as goal

pub loop-kind-preserved : goal.loop-kind-preserved
loop-kind-preserved c =
    let both = lay-step _ _ _ c.args.kinds.now c.loop-kind.kind-index _ c.loop-kind.at _ _ (omega arith) (cc) c.in-Ok.ensures
    c.loop-kind.invariant.slots c.loop-kind.invariant.words in
    record { slots = both.0; words = both.1; few = c.loop-kind.invariant.few }

pub returns : goal.returns
returns c = laid-done _ _ c.args.kinds.now _ c.loop-kind.kind-index (omega arith) c.loop-kind.invariant.slots
