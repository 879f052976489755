-- The turns are listed one by one, and sorted.
use Rattle.std.proofs.Common.{◌∙◌, ◌<◌, ap, length, map, refl, arith}
use Rattle.std.proofs.lemmas.List.Sorted.{All-permutation}
use Rattle.std.proofs.lemmas.Grind.{elements}
use Rattle.varying_pack.specs.declared.order.Turn.{Turn}
use Rattle.varying_pack.specs.Sheets.{listed}
use Rattle.varying_pack.proofs.Turns.{listed-more, ordered}
use Rattle.varying_pack.proofs.order.in_order.Goals as goal

pub loop-item-preserved : goal.loop-item-preserved
loop-item-preserved c = record {
  listed =
      ap (map listed) c.in_ok-push.ensures.items
      ∙ listed-more c.args.items.now c.loop-item.turns.items c.loop-item.item _ _ c.loop-item.invariant.listed (omega arith) refl;
  within = grind (arith, elements);
}

pub returns-clause-order : goal.returns-clause-order
returns-clause-order c =
    ordered c.args.items.now c.loop-item.item c.loop-item.turns.items c.sort_unstable.new.self.items c.loop-item.invariant.listed
    (omega arith)
    c.sort_unstable.ensures.permutation c.sort_unstable.ensures.sorted

pub returns-clause-within : goal.returns-clause-within
returns-clause-within c =
    All-permutation (λ (turn : Turn). turn.item < length c.args.items.now) c.loop-item.turns.items c.sort_unstable.new.self.items
    c.sort_unstable.ensures.permutation c.loop-item.invariant.within
