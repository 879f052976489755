-- The slots so far are empty, and no more than there are to be.
use Rattle.std.proofs.Common.{◌≡◌, ◌≤◌, ◌-◌, vec_len, replicate}
use Rattle.std.specs.Prelude.{None}
use Rattle.texture_levels.proofs.levels.Levels.make.Given as goal

abbrev pub invariant-loop-slots : goal.invariant-loop-slots
invariant-loop-slots l = record {
  empty : l.slots.items ≡ replicate (vec_len l.slots) None;
  within : vec_len l.slots ≤ 84;
}

abbrev pub decreases-loop-slots : goal.decreases-loop-slots
decreases-loop-slots l = 84 - vec_len l.slots
