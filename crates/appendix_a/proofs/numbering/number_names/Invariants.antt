-- What was added, and then what is left, is all; and what is known of the structures so far.
use Rattle.std.proofs.Common.{◌≡◌, ◌+◌, ◌≤◌, ◌++◌, [], ◌∷◌, map, take, drop, length}
use Rattle.std.specs.Prelude.{None}
use Rattle.glsl_tree.specs.Types.{joined}
use Rattle.glsl_tree.specs.Statements.{item_tokens}
use Rattle.appendix_a.specs.Names.{names_from}
use Rattle.appendix_a.specs.Numbered.{names_in}
use Rattle.appendix_a.specs.Structures.{samplers_from, structures_after}
use Rattle.appendix_a.proofs.numbering.number_names.Given as goal

abbrev pub invariant-loop-n : goal.invariant-loop-n
invariant-loop-n l = record {
  names : names_in l.table ++ names_from (structures_after [] (take l.n l.items)) (drop l.n l.items) ≡ None ∷ names_from [] l.items;
  samplers : take l.n l.samplers ≡ samplers_from [] (take l.n l.items);
  next : l.table.next + length (joined (map item_tokens (drop l.n l.items))) ≤ 131073;
  count : l.n + length (joined (map item_tokens (drop l.n l.items))) ≤ 131072;
  items : l.table.items.now ≡ l.items;
}
