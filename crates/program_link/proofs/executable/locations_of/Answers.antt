-- One more attribute has its location by name.
use Rattle.std.proofs.Common.{◌∙◌, ap}
use Rattle.program_link.specs.Places.{place_after}
use Rattle.program_link.proofs.ByBytes.{location-end, location-step, numbers-start}
use Rattle.program_link.proofs.executable.locations_of.Goals as goal

pub loop-attribute-init : goal.loop-attribute-init
loop-attribute-init c = numbers-start c.new-locations.result.entries c.new-locations.ensures.empty

pub loop-attribute-preserved : goal.loop-attribute-preserved
loop-attribute-preserved c =
    location-step c.loop-attribute.locations.entries c.add_name.new.places.entries c.args.attributes.now
    c.loop-attribute.attribute-index c.attribute-item.result c.loop-attribute-test.true c.attribute-item.is
    (λ q. c.in_ok-add_name.ensures q
    ∙ ap (λ n. place_after c.loop-attribute.locations.entries n c.attribute-item.result.location q) c.as_slice-name.ensures)
    c.loop-attribute.invariant

pub returns : goal.returns
returns c =
    location-end c.loop-attribute.locations.entries c.args.attributes.now c.loop-attribute.attribute-index c.loop-attribute-test.false
    c.loop-attribute.invariant
