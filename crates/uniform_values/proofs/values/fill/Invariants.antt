-- The words so far are written.
use Rattle.std.proofs.Common.{◌≡◌, ◌++◌, map, take, drop}
use Rattle.uniform_values.specs.Kinds.{kept}
use Rattle.uniform_values.proofs.values.fill.Given as goal

abbrev pub invariant-loop-i : goal.invariant-loop-i
invariant-loop-i l = l.part ≡ map (kept l.own l.given) (take l.i l.from) ++ drop l.i l.fn.part
