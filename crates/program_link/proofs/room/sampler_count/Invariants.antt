-- The samplers so far are counted.
use Rattle.std.proofs.Common.{◌≡◌, min, take}
use Rattle.program_link.specs.Rules.{samplers_among}
use Rattle.program_link.proofs.room.sampler_count.Given as goal

abbrev pub invariant-loop-leaf : goal.invariant-loop-leaf
invariant-loop-leaf l = l.count ≡ min 65536 (samplers_among (take l.leaf-index l.leaves))
