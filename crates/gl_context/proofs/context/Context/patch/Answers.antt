-- The store patches what the page patches.
use Rattle.std.proofs.Common.{refl, sym, ap, ◌∙◌, w64}
use Rattle.std.proofs.lemmas.Int.{to_z-of_z}
use Rattle.gl_numbers.specs.BufferRules.{whole}
use Rattle.gl_context.specs.BufferRows.{part_sent}
use Rattle.gl_context.proofs.Acting.{acts-sub_data, unrefused-part}
use Rattle.gl_context.proofs.Tying.{tied-patched}
use Rattle.gl_context.proofs.context.Context.patch.Goals as goal

pub invariant_of-self-2 : goal.invariant_of-self-2
invariant_of-self-2 c = rw (c.in_default-sub_data.ensures.ok) (tied-patched c.self.inside.names c.self.inside.buffers c.in-Some.to _ c.args.bytes.now c.self.invariant)

pub returns-clause-acts : goal.returns-clause-acts
returns-clause-acts c w k sound =
    let again = to_z-of_z w64 c.args.offset c.ranges.offset in
    let acts = acts-sub_data _ w c.in-Some.to c.args.target c.args.offset c.args.bytes.now c.sub_data.new.self (rw (← c.self.view_is) at k) sound
    (sym c.in-Some.ensures) (rw again at c.in_default-sub_data.ensures.judged) (rw again at c.in_default-sub_data.ensures.ok) in
    (unrefused-part w c.in-Some.to c.args.target c.args.offset c.args.bytes (sym c.in-Some.ensures) acts.0, acts.1, refl, ap (λ n. part_sent c.args.target n c.args.bytes) (c.offset_word.ensures ∙ ap whole again))
