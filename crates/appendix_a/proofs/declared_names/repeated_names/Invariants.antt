-- What was added so far.
use Rattle.std.proofs.Common.{◌≡◌, ◌+◌, ◌++◌, replicate}
use Rattle.appendix_a.specs.Numbered.{names_in}
use Rattle.appendix_a.specs.Table.{of_entry}
use Rattle.appendix_a.proofs.declared_names.repeated_names.Given as goal

abbrev pub invariant-loop : goal.invariant-loop
invariant-loop l = record {
  names : names_in l.table ≡ names_in l.fn.table ++ replicate l.counter (of_entry l.fn.table.items.now l.entry);
  next : l.table.next ≡ l.fn.table.next + l.counter;
  items : l.table.items.now ≡ l.fn.table.items.now;
}
