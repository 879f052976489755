-- What was added, and then what is left, is all.
use Rattle.std.proofs.Common.{◌≡◌, ◌+◌, ◌≤◌, ◌++◌, map, drop, length}
use Rattle.glsl_tree.specs.Types.{joined}
use Rattle.glsl_tree.specs.Declarations.{parameter_tokens}
use Rattle.appendix_a.specs.Names.{in_turn, parameter_names}
use Rattle.appendix_a.specs.Numbered.{names_in}
use Rattle.appendix_a.proofs.declared_names.each_parameter.Given as goal

abbrev pub invariant-loop-p : goal.invariant-loop-p
invariant-loop-p l = record {
  names : names_in l.table ++ in_turn (map parameter_names (drop l.p-index l.all)) ≡ names_in l.fn.table ++ in_turn (map parameter_names l.all);
  next : l.table.next + length (joined (map parameter_tokens (drop l.p-index l.all)))
      ≤ l.fn.table.next + length (joined (map parameter_tokens l.all));
  items : l.table.items.now ≡ l.fn.table.items.now;
}
