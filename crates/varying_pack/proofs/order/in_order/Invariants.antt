-- The items so far are listed.
use Rattle.std.proofs.Common.{◌≡◌, ◌<◌, length, map, take}
use Rattle.std.specs.Prelude.{All}
use Rattle.std.specs.List.{enumerate_from}
use Rattle.varying_pack.specs.Sheets.{listed}
use Rattle.varying_pack.proofs.order.in_order.Given as goal

abbrev pub invariant-loop-item : goal.invariant-loop-item
invariant-loop-item l = record {
  listed : map listed l.turns.items ≡ take l.item (enumerate_from 0 l.items);
  within : All (λ turn. turn.item < length l.items) l.turns.items;
}
