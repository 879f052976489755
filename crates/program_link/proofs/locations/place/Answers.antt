-- An attribute finds its location, or none, or isn't used.
use Rattle.std.proofs.Common.{◌∙◌, Vec, ℕ, ap, sym}
use Rattle.std.specs.declared.alloc.Global.{Global}
use Rattle.std.specs.FinMap.{get}
use Rattle.program_link.proofs.Locating.{item-none, item-past, item-step, place-end}
use Rattle.program_link.proofs.locations.place.Goals.{then-item+in-Some+in_ok-push, else-item}
use Rattle.program_link.proofs.locations.place.Goals as goal

pub returns-in_default : goal.returns-in_default
returns-in_default c =
    sym (item-none c.args.bindings.now c.loop-item.taken c.args.attributes.now c.loop-item.item-index c.item-item.result
    c.get-bound.result c.loop-item.locations.items _ c.loop-item-test.true c.item-item.is c.if-item.true
    (c.get-bound.ensures ∙ ap (get c.args.bindings.now) c.as_slice.ensures)
    (sym c.location_by.ensures.location ∙ c.in_default.is) c.loop-item.invariant)

pub loop-item-preserved : goal.loop-item-preserved
loop-item-preserved c =
    elim c.if-item.branch [
      | then-item+in-Some+in_ok-push w ↦
          item-step c.args.bindings.now c.loop-item.taken c.if-item.taken c.args.attributes.now c.loop-item.item-index c.item-item.result
          w.get-bound.result c.loop-item.locations.items c.if-item.locations.items w.in-Some.location _ c.loop-item-test.true
          c.item-item.is w.if-item.true (w.get-bound.ensures ∙ ap (get c.args.bindings.now) w.as_slice.ensures)
          (sym w.location_by.ensures.location ∙ w.in-Some.is) (w.taken-is ∙ w.location_by.ensures.taken)
          (ap (λ (v : Vec ℕ Global). v.items) w.locations-is ∙ w.in_ok-push.ensures.items) c.loop-item.invariant
      | else-item w ↦
          item-past c.args.bindings.now c.loop-item.taken c.if-item.taken c.args.attributes.now c.loop-item.item-index c.item-item.result
          c.loop-item.locations.items c.if-item.locations.items _ c.loop-item-test.true c.item-item.is w.if-item.false w.taken-is
          (ap (λ (v : Vec ℕ Global). v.items) w.locations-is) c.loop-item.invariant
    ]

pub returns : goal.returns
returns c =
    sym (place-end c.args.bindings.now c.loop-item.taken c.args.attributes.now c.loop-item.item-index c.loop-item.locations.items _
    c.loop-item-test.false c.loop-item.invariant)
