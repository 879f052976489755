-- The attribute has the pointer that was judged.
use Rattle.std.proofs.Common.{◌<◌, ◌∙◌, ap, length, rules, w32, w64}
use Rattle.std.proofs.lemmas.Int.{to_z-of_z}
use Rattle.attrib_state.specs.Rules.{element_count_of, stride_of, offset_of}
use Rattle.attrib_state.proofs.Changing.{pointed}
use Rattle.attrib_state.proofs.attribs.Attribs.pointer.Goals as goal

pub returns-clause-ok : goal.returns-clause-ok
returns-clause-ok c =
    let within : c.args.index < length c.self.inside.attributes = search rules in
    rw (← c.self.view_is) (pointed c.self.inside.attributes c.args.index c.args.bound c.args.pointer _ _ _ _ _ within
    (c.in-Some.ensures ∙ ap element_count_of (to_z-of_z w32 c.args.pointer.size (search rules)))
    c.in-Some-from_u32.ensures
    (c.in-Some-Some.ensures ∙ ap stride_of (to_z-of_z w32 c.args.pointer.stride (search rules)))
    (c.in-Some-Some.ensures' ∙ ap offset_of (to_z-of_z w64 c.args.pointer.offset (search rules))))
