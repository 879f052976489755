-- The structures so far have the numbers of their shapes.
use Rattle.std.proofs.Common.{take}
use Rattle.program_link.specs.Shapes.{AreNumbered, Keeps, Numbering}
use Rattle.program_link.proofs.shapes.numbers.Given as goal

abbrev pub invariant-loop-structure : goal.invariant-loop-structure
invariant-loop-structure l = record {
  numbering : Numbering l.shapes.entries;
  kept : Keeps l.initial.shapes.entries l.shapes.entries;
  numbered : AreNumbered l.shapes.entries (take l.structure-index l.structs) l.numbers.items;
}
