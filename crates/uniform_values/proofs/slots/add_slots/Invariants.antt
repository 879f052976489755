-- The slots so far and those that are left are the slots of the uniform.
use Rattle.std.proofs.Common.{◌≡◌, ◌+◌, ◌*◌, ◌-◌, ◌++◌}
use Rattle.uniform_values.specs.Layout.{elements, slots_to_end, width}
use Rattle.uniform_values.proofs.slots.add_slots.Given as goal

abbrev pub invariant-loop-i : goal.invariant-loop-i
invariant-loop-i l =
    l.slots.items ++ slots_to_end l.kind (l.at + l.i * width l.kind.base) (l.count - l.i)
    ≡ l.fn.slots.items ++ slots_to_end l.kind l.at (elements l.kind)
