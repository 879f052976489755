-- One more slot stands in the list, and one fewer is left.
use Rattle.std.proofs.Common.{◌+◌, ◌*◌, arith, refl}
use Rattle.uniform_values.specs.Layout.{width}
use Rattle.uniform_values.proofs.Counting.{to_end-done, to_end-step}
use Rattle.uniform_values.proofs.slots.add_slots.Goals as goal

pub loop-i-preserved : goal.loop-i-preserved
loop-i-preserved c =
    to_end-step c.loop-i.slots.items _ _ c.args.kind (c.args.at + c.loop-i.i * width c.args.kind.base) c.elements-count.result
    c.loop-i.i _ _ _
    (omega arith) refl (cc) (omega arith) c.in-Ok.ensures.items c.loop-i.invariant

pub returns : goal.returns
returns c =
    to_end-done c.loop-i.slots.items _ c.args.kind _ c.elements-count.result c.loop-i.i (omega arith) c.loop-i.invariant
