-- The values of a new executable.
use Rattle.std.proofs.Common.{◌≡◌, ap, false, length, replicate, rules, ◌∙◌}
use Rattle.uniform_values.specs.Layout.{slot_count, word_count}
use Rattle.uniform_values.proofs.Soundness.{length-slots_from, new-sound}
use Rattle.uniform_values.proofs.values.Values.make.Goals as goal

pub invariant_of-result : goal.invariant_of-result
invariant_of-result c =
    let zeros : c.in-Ok-vec.words.items ≡ replicate (word_count c.args.kinds.now) 0 = search rules in
    let unmarked : c.in-Ok-vec-2.waiting.items ≡ replicate (length c.in-Ok.slots.items) false = search rules in
    new-sound c.args.kinds.now _ _ _ c.requires c.in-Ok.ensures zeros unmarked

pub returns : goal.returns
returns c =
    let zeros : c.in-Ok-vec.words.items ≡ replicate (word_count c.args.kinds.now) 0 = search rules in
    let unmarked : c.in-Ok-vec-2.waiting.items ≡ replicate (length c.in-Ok.slots.items) false = search rules in
    let count : length c.in-Ok.slots.items ≡ slot_count c.args.kinds.now =
    ap length c.in-Ok.ensures ∙ length-slots_from c.args.kinds.now 0 in
    let laid = c.in-Ok.ensures in cc
