-- The elements so far are counted.
use Rattle.std.proofs.Common.{◌≡◌, ◌+◌, ◌≤◌, drop}
use Rattle.program_link.specs.Flattening.{elements_of}
use Rattle.program_link.specs.Items.{leaves, used}
use Rattle.program_link.proofs.room.have_few_elements.Given as goal

abbrev pub invariant-loop-item : goal.invariant-loop-item
invariant-loop-item l = record {
  within : l.count ≤ l.cells;
  counted :
      elements_of (leaves l.structures (used l.items))
      ≡ l.count + elements_of (leaves l.structures (used (drop l.item-index l.items)));
}
