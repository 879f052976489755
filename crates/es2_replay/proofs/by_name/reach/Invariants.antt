-- The slots that were added are empty, and each brings the list nearer to its length.
use Rattle.std.proofs.Common.{◌≡◌, ◌-◌, ◌≤◌, ℕ, vec_len}
use Rattle.std.specs.Vec.{vec_capacity}
use Rattle.es2_replay.specs.Named.{slot}
use Rattle.es2_replay.proofs.by_name.reach.Given as goal

abbrev pub invariant-loop-slots : goal.invariant-loop-slots
invariant-loop-slots l = ((q : ℕ) → slot l.slots.items q ≡ slot l.fn.slots.items q) × (l.len ≤ vec_capacity l.slots)

abbrev pub decreases-loop-slots : goal.decreases-loop-slots
decreases-loop-slots l = l.len - vec_len l.slots
