-- One more item is found by its name.
use Rattle.std.proofs.Common.{◌∙◌, ap}
use Rattle.glsl_types.specs.declared.interface.Item.{Item}
use Rattle.program_link.specs.Places.{place_after}
use Rattle.program_link.proofs.ByBytes.{finds-step}
use Rattle.program_link.proofs.items.ByName.of.Goals as goal

pub loop-place-preserved : goal.loop-place-preserved
loop-place-preserved c =
    finds-step c.loop-place.places.entries c.add_name.new.places.entries c.args.items.now c.loop-place.place
    c.index-items-place.result c.loop-place-test.true
    (λ q. c.in_ok-add_name.ensures q
    ∙ ap (λ n. place_after c.loop-place.places.entries n c.loop-place.place q)
    (c.as_slice.ensures ∙ ap (λ (t : Item). t.name) c.index-items-place.is))
    c.loop-place.invariant
