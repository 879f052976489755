-- The uniforms so far have their slots, and those that are left the next.
use Rattle.std.proofs.Common.{◌≡◌, ◌+◌, ◌≤◌, ◌++◌, drop}
use Rattle.program_link.specs.Flattening.{elements_of}
use Rattle.program_link.specs.Linked.{at_slots}
use Rattle.program_link.proofs.linking.active_uniforms.Given as goal

abbrev pub invariant-loop-leaf : goal.invariant-loop-leaf
invariant-loop-leaf l = record {
  within : l.first + elements_of (drop l.leaf-index l.leaves) ≤ 65536;
  slots : at_slots 0 l.leaves ≡ l.uniforms.items ++ at_slots l.first (drop l.leaf-index l.leaves);
}
