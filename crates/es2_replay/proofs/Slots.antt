-- Objects by name that stand in slots or in a tree: what a change in one place is to both.
use Rattle.std.proofs.Common.{◌≡◌, ◌<◌, ℕ, zero, suc, Bool, cond, List, [], ◌∷◌, ◌++◌, length, set, refl, sym, ap, ◌∙◌, true, false, get_or-set_same, get_or-set_other}
use Rattle.std.specs.Prelude.{Option, Some, None, is_some, ◌==◌}
use Rattle.std.specs.Option.{option_map, option_or}
use Rattle.std.proofs.lemmas.Bool.{eqb-true, eqb-false}
use Rattle.es2_replay.specs.Named.{slot, either, placed, changed}

module _ {A : Type 0} where
  -- one more empty slot holds no object
  pub slot-more : (slots : List (Option A)) (q : ℕ) → slot (slots ++ None ∷ []) q ≡ slot slots q
  slot-more [] zero = refl
  slot-more [] (suc q) = refl
  slot-more (x ∷ slots) zero = refl
  slot-more (x ∷ slots) (suc q) = slot-more slots q

  slot-written_if : (slots : List (Option A)) (i q : ℕ) (x : Option A) → i < length slots → (b : Bool) → (q == i) ≡ b
      → slot (set slots i x) q ≡ cond b x (slot slots q)
  slot-written_if slots i q x l true e = ap (λ k. slot (set slots i x) k) (eqb-true q i e) ∙ get_or-set_same slots i x None l
  slot-written_if slots i q x l false e = get_or-set_other slots i q x None (eqb-false q i e)

  -- what stands in a slot where one was written
  pub slot-written : (slots : List (Option A)) (i q : ℕ) (x : Option A) → i < length slots
      → slot (set slots i x) q ≡ placed x i (slot slots) q
  slot-written slots i q x l = slot-written_if slots i q x l (q == i) refl

  -- a slot that is written has that object, and the others have theirs
  pub slots-written : (slots : List (Option A)) (i : ℕ) (x : Option A) → i < length slots
      → ◌≡◌ {A = ℕ → Option A} (slot (set slots i x)) (placed x i (slot slots))
  slots-written slots i x l = λ j q. slot-written slots i q x l j

  absent_if : (change : A → A) (objects : ℕ → Option A) (i q : ℕ) → objects i ≡ None → (b : Bool) → (q == i) ≡ b
      → objects q ≡ cond b (option_map change (objects i)) (objects q)
  absent_if change objects i q none true e = ap objects (eqb-true q i e) ∙ none ∙ sym (ap (option_map change) none)
  absent_if change objects i q none false e = refl

  -- a change of what isn't there is none
  pub changed-absent : (change : A → A) (objects : ℕ → Option A) (i : ℕ) → objects i ≡ None → objects ≡ changed change i objects
  changed-absent change objects i none = λ j q. absent_if change objects i q none (q == i) refl j

module _ {A : Type 0} where
  slot_if : (change : A → A) (at mine other : Option A) (other_at : Option A) → is_some at ≡ true → (b : Bool)
      → option_or (cond b (option_map change at) mine) other ≡ cond b (option_map change (option_or at other_at)) (option_or mine other)
  slot_if change None mine other other_at is b = absurd cc
  slot_if change (Some x) mine other other_at is true = refl
  slot_if change (Some x) mine other other_at is false = refl

  -- the object in a slot was changed
  pub changed-slot : (change : A → A) (i : ℕ) (mine after others : ℕ → Option A) → is_some (mine i) ≡ true → after ≡ changed change i mine
      → either after others ≡ changed change i (either mine others)
  changed-slot change i mine after others is e =
      ap (λ f. either f others) e ∙ (λ j q. slot_if change (mine i) (mine q) (others q) (others i) is (q == i) j)

  other_if : (change : A → A) (i q : ℕ) (mine others : ℕ → Option A) → mine i ≡ None → (b : Bool) → (q == i) ≡ b
      → option_or (mine q) (cond b (option_map change (others i)) (others q))
      ≡ cond b (option_map change (option_or (mine i) (others i))) (option_or (mine q) (others q))
  other_if change i q mine others none true e =
      ap (λ k. option_or (mine k) (option_map change (others i))) (eqb-true q i e)
      ∙ (rw none refl)
  other_if change i q mine others none false e = refl

  -- the object of a name without a slot was changed
  pub changed-other : (change : A → A) (i : ℕ) (mine others after : ℕ → Option A) → mine i ≡ None → after ≡ changed change i others
      → either mine after ≡ changed change i (either mine others)
  changed-other change i mine others after none e =
      ap (λ f. either mine f) e ∙ (λ j q. other_if change i q mine others none (q == i) refl j)

  placed_if : (b : Bool) (x : A) (mine other : Option A) → option_or (cond b (Some x) mine) other ≡ cond b (Some x) (option_or mine other)
  placed_if true x mine other = refl
  placed_if false x mine other = refl

  -- an object was put into a slot
  pub placed-slot : (x : A) (i : ℕ) (mine after others : ℕ → Option A) → after ≡ placed (Some x) i mine
      → either after others ≡ placed (Some x) i (either mine others)
  placed-slot x i mine after others e = ap (λ f. either f others) e ∙ (λ j q. placed_if (q == i) x (mine q) (others q) j)

  cleared_if : (b : Bool) (mine other : Option A) → option_or (cond b None mine) (cond b None other) ≡ cond b None (option_or mine other)
  cleared_if true mine other = refl
  cleared_if false mine other = refl

  -- a name was taken out of both places
  pub placed-none : (i : ℕ) (mine after others left : ℕ → Option A) → after ≡ placed None i mine → left ≡ placed None i others
      → either after left ≡ placed None i (either mine others)
  placed-none i mine after others left e f =
      (λ j. either (e j) (f j)) ∙ (λ j q. cleared_if (q == i) (mine q) (others q) j)

pub ruleset of_slots = (slot-more, slot-written, slots-written, changed-absent)
