-- The slots from one on were set.
use Rattle.std.proofs.Common.{◌≡◌, ◌≤◌, ◌+◌, ◌++◌, arith, drop, length, max, min, replicate, rules, take, true}
use Rattle.uniform_values.specs.Uniforms.{replaced_from}
use Rattle.uniform_values.specs.Sound.{LiesWithin}
use Rattle.uniform_values.proofs.Soundness.{all-written, set-sound}
use Rattle.uniform_values.proofs.values.Values.set.Goals as goal

pub invariant_of-self : goal.invariant_of-self
invariant_of-self c =
    let words : length c.write.new.words ≡ length c.self.inside.words.items = search rules in
    let marks : length c.mark.new.waiting ≡ length c.self.inside.waiting.items = search rules in
    let all_words : take c.self.inside.words.len (c.write.new.words ++ drop (length c.write.new.words) c.self.inside.words.items) ≡
    c.write.new.words =
    all-written _ _ _ (search rules) words in
    let all_marks : take c.self.inside.waiting.len (c.mark.new.waiting ++ drop (length c.mark.new.waiting) c.self.inside.waiting.items)
    ≡ c.mark.new.waiting =
    all-written _ _ _ (search rules) marks in
    let lies : LiesWithin c.args.number c.slot_at-slot.result (length c.self.inside.slots.items) (length c.self.inside.words.items) =
    rw (← c.self.view_is) at c.slot_at-slot.ensures.within in
    let count : c.min-count.result ≤ c.slot_at-slot.result.room = search rules in
    let low : c.min-self-inside.result ≡ min c.self.inside.first c.args.number = search rules in
    let high : c.max-self-inside.result ≡ max c.self.inside.end (c.args.number + c.min-count.result) = search rules in
    let marked : c.mark.new.waiting ≡ replaced_from c.args.number (replicate c.min-count.result true) c.self.inside.waiting.items =
    cc (c.mark.ensures, c.deref_mut-2.ensures.value) in
    rw (all_words, all_marks)
    (set-sound c.self.inside.slots.items c.self.inside.words.items _ c.self.inside.waiting.items _ c.self.inside.first c.self.inside.end
    c.args.number c.min-count.result _ _ c.self.invariant words (omega (arith, lies.in_slots, count)) marked low high)
