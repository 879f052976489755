-- The words so far and those of the uniforms that are left are all the words.
use Rattle.std.proofs.Common.{◌≡◌, ◌+◌, ◌*◌, ◌≤◌, drop}
use Rattle.uniform_values.specs.Layout.{slots_max, word_count}
use Rattle.uniform_values.proofs.slots.word_count.Given as goal

abbrev pub invariant-loop-kind : goal.invariant-loop-kind
invariant-loop-kind l = record {
  words : l.words + word_count (drop l.kind-index l.kinds) ≡ word_count l.kinds;
  few : word_count l.kinds ≤ 16 * slots_max;
}
