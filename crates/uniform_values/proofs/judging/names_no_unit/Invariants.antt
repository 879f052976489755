-- Each word so far is the number of a unit.
use Rattle.std.proofs.Common.{◌≡◌, false, take}
use Rattle.std.specs.List.{list_any}
use Rattle.uniform_values.specs.Rules.{is_no_unit}
use Rattle.uniform_values.proofs.judging.names_no_unit.Given as goal

abbrev pub invariant-loop-i : goal.invariant-loop-i
invariant-loop-i l = list_any is_no_unit (take l.i l.words) ≡ false
