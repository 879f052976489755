-- The structures so far are counted.
use Rattle.std.proofs.Common.{take}
use Rattle.program_link.specs.Counted.{AreCounted}
use Rattle.program_link.proofs.flattening.Structures.of.Given as goal

abbrev pub invariant-loop-structure : goal.invariant-loop-structure
invariant-loop-structure l = AreCounted (take l.structure-index l.structs) l.counts.items
