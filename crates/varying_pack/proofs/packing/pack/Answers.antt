-- The loop over the turns.
use Rattle.std.proofs.Common.{sym}
use Rattle.varying_pack.proofs.Placed.{turns-done, turns-start, turns-step, turns-stuck, zero_pair}
use Rattle.varying_pack.proofs.packing.pack.Goals as goal

pub loop-turn-init : goal.loop-turn-init
loop-turn-init c =
    turns-start c.args.rows c.args.items.now c.in-Ok.turns.items c.deref-turn-items.result.now c.new-sheet.result c.in-Ok-vec.places.items
    c.deref-turn-items.ensures.value c.in-Ok.ensures.order c.new-sheet.ensures
    (c.in-Ok-vec.ensures.items_if_clones_equal (λ y same. zero_pair y same.0 same.1))

pub returns-in_default-place : goal.returns-in_default-place
returns-in_default-place c =
    turns-stuck c.args.rows c.args.items.now c.deref-turn-items.result.now c.loop-turn.turn-index _ c.loop-turn.sheet
    c.loop-turn.places.items
    c.loop-turn-test.true c.loop-turn.invariant (sym c.in_default-place.ensures.spot)

pub loop-turn-preserved : goal.loop-turn-preserved
loop-turn-preserved c =
    turns-step c.args.rows c.args.items.now c.in-Ok.turns.items c.deref-turn-items.result.now c.loop-turn.turn-index _ c.loop-turn.sheet
    c.place.new.sheet c.loop-turn.places.items c.in-Some.found c.deref-turn-items.ensures.value c.in-Ok.ensures.within c.loop-turn-test.true
    c.loop-turn.invariant c.in-Some.ensures.spot c.in-Some.ensures.after

pub returns : goal.returns
returns c =
    turns-done c.args.rows c.args.items.now c.deref-turn-items.result.now c.loop-turn.turn-index c.loop-turn.sheet c.loop-turn.places.items
    c.loop-turn-test.false c.loop-turn.invariant
