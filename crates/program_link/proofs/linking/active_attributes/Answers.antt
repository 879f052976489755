-- One more attribute has its location, or there is none for it, or it isn't used.
use Rattle.std.proofs.Common.{◌∙◌, ◌+◌, ◌++◌, Vec, ap, drop, refl, sym, vec_len}
use Rattle.std.specs.declared.alloc.Global.{Global}
use Rattle.glsl_types.specs.declared.interface.Item.{Item}
use Rattle.program_link.specs.declared.active.Attribute.{Attribute}
use Rattle.program_link.specs.Items.{used}
use Rattle.program_link.specs.Linked.{at_locations}
use Rattle.program_link.proofs.Attributes.{attribute-end, attribute-more, attribute-past, attribute-without, past-locations}
use Rattle.program_link.proofs.linking.active_attributes.Goals.{then-item+in-Some+in_ok-name+in_ok-push, then-item+in_default, else-item}
use Rattle.program_link.proofs.linking.active_attributes.Goals as goal

pub loop-item-preserved : goal.loop-item-preserved
loop-item-preserved c =
    elim c.if-item.branch [
      | then-item+in-Some+in_ok-name+in_ok-push w ↦
          attribute-more c.args.items.now c.loop-item.item-index c.item-item.result c.args.locations.now
          (vec_len c.loop-item.attributes) w.len.result (vec_len c.if-item.attributes) w.in-Some.location.now
          (let a : Attribute = record {
            name = w.in_ok-name.name;
            base = c.item-item.result.kind.base;
            location = w.in-Some.location.now;
          } in a)
          c.loop-item.attributes.items c.if-item.attributes.items _ c.loop-item-test.true c.item-item.is w.if-item.true w.len.ensures
          w.in-Some.ensures.lookup.0 w.in-Some.ensures.lookup.1 (w.in_ok-name.ensures ∙ w.as_slice.ensures) refl refl
          (ap (λ (v : Vec Attribute Global). vec_len v) w.attributes-is ∙ w.in_ok-push.ensures.len)
          (ap (λ (v : Vec Attribute Global). v.items) w.attributes-is ∙ w.in_ok-push.ensures.items) c.loop-item.invariant
      | then-item+in_default w ↦
          attribute-without c.args.items.now c.loop-item.item-index (c.loop-item.item-index + 1) c.args.locations.now
          (vec_len c.loop-item.attributes) c.loop-item.attributes.items _
          (past-locations c.args.locations.now w.len.result (vec_len c.loop-item.attributes) w.len.ensures w.in_default.ensures.lookup.0)
          c.loop-item.invariant
          ∙ (λ j. (sym w.attributes-is j).items ++ at_locations (used (drop (c.loop-item.item-index + 1) c.args.items.now))
          (drop (vec_len (sym w.attributes-is j)) c.args.locations.now))
      | else-item w ↦
          attribute-past c.args.items.now c.loop-item.item-index c.item-item.result c.args.locations.now
          (vec_len c.loop-item.attributes) c.loop-item.attributes.items _ c.loop-item-test.true
          (ap (λ (t : Item). t.used) (sym c.item-item.is) ∙ w.if-item.false) c.loop-item.invariant
          ∙ (λ j. (sym w.attributes-is j).items ++ at_locations (used (drop (c.loop-item.item-index + 1) c.args.items.now))
          (drop (vec_len (sym w.attributes-is j)) c.args.locations.now))
    ]

pub returns : goal.returns
returns c =
    sym (attribute-end c.args.items.now c.loop-item.item-index c.args.locations.now _ c.loop-item.attributes.items _
    c.loop-item-test.false c.loop-item.invariant)
