-- What was added, and then what is left, is all.
use Rattle.std.proofs.Common.{◌≡◌, ◌+◌, ◌≤◌, ◌++◌, map, drop, length}
use Rattle.glsl_tree.specs.Types.{joined}
use Rattle.glsl_tree.specs.Statements.{statement_tokens}
use Rattle.appendix_a.specs.Names.{in_turn, statement_names}
use Rattle.appendix_a.specs.Numbered.{names_in}
use Rattle.appendix_a.proofs.statement_names.+names.Given as goal

abbrev pub invariant-each_statement-loop-s : goal.invariant-each_statement-loop-s
invariant-each_statement-loop-s l = record {
  names : names_in l.table ++ in_turn (map statement_names (drop l.s-index l.all)) ≡ names_in l.fn.table ++ in_turn (map statement_names l.all);
  next : l.table.next + length (joined (map statement_tokens (drop l.s-index l.all)))
      ≤ l.fn.table.next + length (joined (map statement_tokens l.all));
  items : l.table.items.now ≡ l.fn.table.items.now;
}
