-- How values are kept stays sound.
use Rattle.std.proofs.Common.{◌≡◌, ℕ, ◌+◌, ◌*◌, ◌<◌, ◌≤◌, suc, zero, min, max, Bool, true, false, Some, None, List, [], ◌∷◌, ◌++◌, length, map, take, drop, set, get_or, add-one, replicate, refl, sym, ap, subst, ◌∙◌, inl, inr, arith}
use Rattle.std.specs.Prelude.{nat_lt, slice_get}
use Rattle.std.specs.List.{position, position_or_len}
use Rattle.std.proofs.lemmas.List.{append-nil, drop_all, length-replicate, take_all}
use Rattle.std.proofs.lemmas.List.Sums.{position_or_len_is}
use Rattle.std.proofs.lemmas.Bool.{cases_lt}
use Rattle.std.proofs.lemmas.Grind.{common_steps}
use Rattle.std.proofs.lemmas.Option.{same_Some}
use Rattle.glsl_types.specs.declared.types.SlType.{SlType}
use Rattle.uniform_values.specs.declared.slots.Slot.{Slot}
use Rattle.uniform_values.specs.Layout.{elements, slot_count, slots_from, slots_max, slots_of, slots_to_end, width, word_count}
use Rattle.uniform_values.specs.Uniforms.{replaced_from}
use Rattle.uniform_values.specs.Sound.{IsSound, LiesWithin, WaitsWithin}

-- the slots of one uniform lie within, where those after it do
lies_in_one : (kind : SlType) (at n : ℕ) (rest : List Slot) (number : ℕ) (slot : Slot) (before slots words place : ℕ)
    → before + n ≤ slots → at + n * width kind.base ≤ words
    → ((j place : ℕ) (slot : Slot) → place ≡ before + n + j → slice_get rest j ≡ Some slot → LiesWithin place slot slots words)
    → place ≡ before + number → slice_get (slots_to_end kind at n ++ rest) number ≡ Some slot → LiesWithin place slot slots words
unfolding slots_to_end
lies_in_one kind at zero rest number slot before slots words place in_slots in_words after here found =
    after number place slot (omega (arith, here)) found
lies_in_one kind at (suc n) rest zero slot before slots words place in_slots in_words after here found =
    let P : Slot → Type 0 = λ s. LiesWithin place s slots words in
    subst P (same_Some _ _ found) (record { some = omega arith; in_slots = omega (arith, here, in_slots); in_words = in_words })
lies_in_one kind at (suc n) rest (suc number) slot before slots words place in_slots in_words after here found =
    lies_in_one kind (at + width kind.base) n rest number slot (before + 1) slots words place (omega (arith, in_slots))
    (omega (arith, in_words))
    (λ j p s e g. after j p s (omega (arith, e)) g) (omega (arith, here)) found

-- each slot of uniforms lies within
pub lies_in_all : (kinds : List SlType) (at number : ℕ) (slot : Slot) (before slots words place : ℕ) → before + slot_count kinds ≤ slots
    → at + word_count kinds ≤ words → place ≡ before + number → slice_get (slots_from at kinds) number ≡ Some slot
    → LiesWithin place slot slots words
unfolding slots_from slot_count word_count
lies_in_all [] at number slot before slots words place in_slots in_words here found = absurd cc
lies_in_all (kind ∷ kinds) at number slot before slots words place in_slots in_words here found =
    lies_in_one kind at (elements kind) (slots_from (at + elements kind * width kind.base) kinds) number slot before slots words place
    (omega (arith, in_slots)) (omega (arith, in_words))
    (λ j p s e g. lies_in_all kinds (at + elements kind * width kind.base) j s (before + elements kind) slots words p
    (omega (arith, in_slots)) (omega (arith, in_words)) (omega (arith, e)) g)
    here found

length-one : (kind : SlType) (at n : ℕ) (rest : List Slot) → length (slots_to_end kind at n ++ rest) ≡ n + length rest
unfolding slots_to_end
length-one kind at zero rest = omega arith
length-one kind at (suc n) rest = omega (arith, length-one kind (at + width kind.base) n rest)

-- there is one slot for each element
pub length-slots_from : (kinds : List SlType) (at : ℕ) → length (slots_from at kinds) ≡ slot_count kinds
unfolding slots_from slot_count
length-slots_from [] at = refl
length-slots_from (kind ∷ kinds) at =
    omega (
      arith,
      length-one kind at (elements kind) (slots_from (at + elements kind * width kind.base) kinds),
      length-slots_from kinds (at + elements kind * width kind.base),
    )

-- nothing waits among values that are all false
none-waits : (n k : ℕ) → get_or (replicate n false) k false ≡ false
none-waits zero k = refl
none-waits (suc n) zero = refl
none-waits (suc n) (suc k) = none-waits n k

-- new values are sound
pub new-sound : (kinds : List SlType) (slots : List Slot) (words : List ℕ) (waiting : List Bool) → slot_count kinds ≤ slots_max
    → slots ≡ slots_of kinds → words ≡ replicate (word_count kinds) 0 → waiting ≡ replicate (length slots) false
    → IsSound slots words waiting 0 0
new-sound kinds slots words waiting few laid zeros unmarked =
    let count : length slots ≡ slot_count kinds = ap length laid ∙ length-slots_from kinds 0 in
    let all : length words ≡ word_count kinds = ap length zeros ∙ length-replicate (word_count kinds) 0 in
    let marks : length waiting ≡ length slots = ap length unmarked ∙ length-replicate (length slots) false in
    record {
      within = λ number slot found. lies_in_all kinds 0 number slot 0 (length slots) (length words) number (omega (arith, count))
          (omega (arith, all)) (omega arith)
          (ap (λ s. slice_get s number) (sym laid) ∙ found);
      few = omega (arith, count, few);
      marks = marks;
      waits = record {
        ordered = omega arith;
        ended = omega arith;
        before = λ k less. absurd (omega (arith, less));
        after = λ k past. ap (λ w. get_or w k false) unmarked ∙ none-waits (length slots) k;
      };
    }

-- outside of the part that was replaced all is as it was
outside-before : (at k : ℕ) (new old : List Bool) → k < at → at ≤ length old
    → get_or (replaced_from at new old) k false ≡ get_or old k false
outside-before at k new old below within = grind (arith, common_steps)

outside-after : (at k : ℕ) (new old : List Bool) → at + length new ≤ k → at ≤ length old
    → get_or (replaced_from at new old) k false ≡ get_or old k false
outside-after at k new old past within = grind (arith, common_steps)

length-replaced_from : {A : Type 0} (at : ℕ) (new old : List A) → at + length new ≤ length old
    → length (replaced_from at new old) ≡ length old
length-replaced_from at new old within = grind (arith, common_steps)

-- what a write to all of a vector leaves
pub all-written : {A : Type 0} (n : ℕ) (new old : List A) → n ≡ length old → length new ≡ length old
    → take n (new ++ drop (length new) old) ≡ new
all-written n new old counted same =
    let none : drop (length new) old ≡ [] = drop_all (length new) old (omega (arith, same)) in
    rw (none, append-nil new) (take_all n new (omega (arith, counted, same)))

-- the slots from one on were set
pub set-sound : (slots : List Slot) (words written : List ℕ) (waiting marked : List Bool) (first end number count low high : ℕ)
    → IsSound slots words waiting first end → length written ≡ length words → number + count ≤ length slots
    → marked ≡ replaced_from number (replicate count true) waiting → low ≡ min first number → high ≡ max end (number + count)
    → IsSound slots written marked low high
set-sound slots words written waiting marked first end number count low high sound same within mark lower higher =
    let n : length (replicate count true) ≡ count = length-replicate count true in
    let all : length marked ≡ length waiting =
    ap length mark ∙ length-replaced_from number (replicate count true) waiting (omega (arith, n, within, sound.marks)) in
    let get : (k : ℕ) → get_or marked k false ≡ get_or (replaced_from number (replicate count true) waiting) k false =
    λ k. ap (λ w. get_or w k false) mark in
    record {
      within = λ k slot found. rw same (sound.within k slot found);
      few = sound.few;
      marks = all ∙ sound.marks;
      waits = record {
        ordered = omega (arith, lower, higher, sound.waits.ordered);
        ended = omega (arith, all, higher, within, sound.marks, sound.waits.ended);
        before = λ k below. get k ∙ outside-before number k _ waiting (omega (arith, below, lower)) (omega (arith, within, sound.marks))
            ∙ sound.waits.before k (omega (arith, below, lower));
        after = λ k past. get k ∙ outside-after number k _ waiting (omega (arith, past, higher, n)) (omega (arith, within, sound.marks))
            ∙ sound.waits.after k (omega (arith, past, higher));
      };
    }

-- the first slot that waits
pub first-found : (waiting : List Bool) (number : ℕ) → number < length waiting → ((k : ℕ) → k < number → get_or waiting k false ≡ false)
    → get_or waiting number false ≡ true → Some number ≡ position (λ waits. waits) waiting
first-found waiting number within before here =
    let p : position_or_len (λ waits. waits) waiting ≡ number = position_or_len_is (λ waits. waits) waiting number false
    (omega (arith, within)) before (λ less. here) in
    let less : nat_lt number (length waiting) ≡ true = grind (arith, common_steps) in
    rw (p, less) refl

-- no slot waits
pub none-found : (waiting : List Bool) → ((k : ℕ) → get_or waiting k false ≡ false) → None ≡ position (λ waits. waits) waiting
none-found waiting none =
    let p : position_or_len (λ waits. waits) waiting ≡ length waiting =
    position_or_len_is (λ waits. waits) waiting (length waiting) false (omega arith) (λ k less. none k)
    (λ less. absurd (omega (arith, less))) in
    let past : nat_lt (length waiting) (length waiting) ≡ false = grind (arith, common_steps) in
    rw (p, past) refl

-- no slot waits, where none does below a number from the end on
pub nothing-waits : (waiting : List Bool) (first end number : ℕ) → WaitsWithin waiting first end → end ≤ number
    → ((k : ℕ) → k < number → get_or waiting k false ≡ false) → (k : ℕ) → get_or waiting k false ≡ false
nothing-waits waiting first end number waits past below k =
    elim (cases_lt k number) [ inl less ↦ below k less | inr more ↦ waits.after k (omega (arith, past, more)) ]

-- one more word is written
fill-more : (f : ℕ → ℕ) (old from : List ℕ) (i : ℕ) → i < length old → i < length from
    → set (map f (take i from) ++ drop i old) i (f (get_or from i 0)) ≡ map f (take (suc i) from) ++ drop (suc i) old
fill-more f [] from i within enough = absurd (omega (arith, within))
fill-more f (o ∷ old) [] i within enough = absurd (omega (arith, enough))
fill-more f (o ∷ old) (x ∷ from) zero within enough = refl
fill-more f (o ∷ old) (x ∷ from) (suc i) within enough =
    ap (λ l. f x ∷ l) (fill-more f old from i (omega (arith, within)) (omega (arith, enough)))

pub fill-step : (f : ℕ → ℕ) (part old from : List ℕ) (i value : ℕ) → i < length old → i < length from → value ≡ f (get_or from i 0)
    → part ≡ map f (take i from) ++ drop i old → set part i value ≡ map f (take (i + 1) from) ++ drop (i + 1) old
fill-step f part old from i value within enough kept so_far = rw (so_far, kept, add-one) (fill-more f old from i within enough)
