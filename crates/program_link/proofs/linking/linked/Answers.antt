-- What is made, once no rule is broken.
use Rattle.std.proofs.Common.{◌∙◌, Ok, ap, subst, sym}
use Rattle.std.specs.Option.{option_map}
use Rattle.program_link.specs.Answers.{FoundActive}
use Rattle.program_link.specs.Items.{used}
use Rattle.program_link.specs.Kept.{items_of}
use Rattle.program_link.specs.Linked.{Linked, at_locations, at_slots}
use Rattle.program_link.specs.Locations.{locations}
use Rattle.program_link.specs.Rules.{names_too_long, varyings_lack_room}
use Rattle.program_link.proofs.Broken.{has-room, linked-made, linked-none}
use Rattle.program_link.proofs.linking.linked.Goals as goal

pub returns : goal.returns
returns c =
    let active : FoundActive c.args.vertex.now c.args.fragment.now (Ok c.in-Ok.active) =
    subst (FoundActive c.args.vertex.now c.args.fragment.now) c.in-Ok.is c.in_ok-active.ensures in
    let some = ap (option_map items_of) (sym c.in-Some-2.is) ∙ c.in_ok-locations.ensures
    ∙ ap (λ l. locations c.args.bindings.now (used l)) c.as_slice-attributes.ensures in
    let short = (λ i. names_too_long (used (sym c.as_slice-attributes.ensures i)) (sym c.deref.ensures.value i))
    ∙ sym c.has_long_name.ensures ∙ c.if-has_long_name.false in (
      linked-none c.args.vertex.now c.args.fragment.now c.args.bindings.now c.in-Some-2.locations.items c.in-Ok.active.items
          (sym c.in_default.is ∙ c.in_ok-number.ensures) some
          (has-room c.in_ok-varyings_have_room.field-0 (varyings_lack_room c.args.fragment.now) c.in_ok-varyings_have_room.ensures
          c.if-not-branch.false)
          active.0 active.1 short,
      c.in_ok-made.ensures
          ∙ (λ i. (let made : Linked = record {
            attributes = at_locations (used (c.as_slice-attributes.ensures i)) (c.deref-2.ensures.value i);
            uniforms = at_slots 0 (c.deref-3.ensures.value i);
          } in made))
          ∙ linked-made c.args.vertex.now c.args.fragment.now c.args.bindings.now c.in-Some-2.locations.items c.in-Ok.active.items some
          active.1 short,
    )
