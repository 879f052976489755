-- The uniforms so far have their slots by name.
use Rattle.std.proofs.Common.{take}
use Rattle.std.specs.List.{flat_map}
use Rattle.program_link.specs.Linked.{slot_names}
use Rattle.program_link.specs.Places.{HasNumbers}
use Rattle.program_link.proofs.executable.slots_of.Given as goal

abbrev pub invariant-loop-uniform : goal.invariant-loop-uniform
invariant-loop-uniform l = HasNumbers l.slots.entries (flat_map slot_names (take l.uniform-index l.uniforms))
