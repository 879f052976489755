-- The slots so far and those of the uniforms that are left are all the slots.
use Rattle.std.proofs.Common.{◌≡◌, ◌+◌, ◌*◌, ◌≤◌, ◌++◌, drop}
use Rattle.uniform_values.specs.Layout.{slots_from, slots_max, slots_of, word_count}
use Rattle.uniform_values.proofs.slots.lay_out.Given as goal

abbrev pub invariant-loop-kind : goal.invariant-loop-kind
invariant-loop-kind l = record {
  slots : l.slots.items ++ slots_from l.at (drop l.kind-index l.kinds) ≡ slots_of l.kinds;
  words : l.at + word_count (drop l.kind-index l.kinds) ≡ word_count l.kinds;
  few : word_count l.kinds ≤ 16 * slots_max;
}
