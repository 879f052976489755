-- The attribute of this turn is without the buffer too.
use Rattle.std.proofs.Common.{◌<◌, length, arith}
use Rattle.std.proofs.lemmas.List.{get_or_default}
use Rattle.std.proofs.lemmas.List.Edits.{map_over_more}
use Rattle.attrib_state.specs.Effects.{out_of}
use Rattle.attrib_state.proofs.attribs.release.Goals as goal

pub loop-attribute-preserved : goal.loop-attribute-preserved
loop-attribute-preserved c =
    let within = c.loop-attribute-test.true in
    let here : c.loop-attribute.attribute-index < length c.loop-attribute.attributes = omega (arith, within, c.loop-attribute.auto.attributes) in
    rw c.without_buffer-attribute.ensures (map_over_more (out_of c.args.h) _ _ _ _ within c.loop-attribute.invariant
    (get_or_default c.loop-attribute.attributes c.loop-attribute.attribute-index _ _ here))
