-- What the list of the slots says of the shelf that it is seen as.
use Rattle.std.proofs.Common.{◌≡◌, ◌<◌, ◌≤◌, ◌+◌, ℕ, zero, suc, Bool, cond, List, [], ◌∷◌, ◌++◌, length, get_or, set, refl, sym, ap, ◌∙◌, true, false, arith, eq-eqb, get_or-set_same, get_or-set_other}
use Rattle.std.specs.Prelude.{Option, Some, None, IsSome, ◌==◌}
use Rattle.std.specs.Option.{option_map}
use Rattle.std.proofs.lemmas.Bool.{eqb-true, eqb-false, cond-true, cond-false}
use Rattle.std.proofs.lemmas.List.{get_or_past}
use Rattle.std.specs.Ordering.{nat_cmp, is_eq}
use Rattle.std.specs.declared.cmp.Ordering.{Ordering}
use Rattle.std.specs.declared.cmp.Ordering.TheVariants.{Less, Equal, Greater}
use Rattle.std.specs.Cmp.{nat_cmp_total, unsigned_tied}
use Rattle.std.specs.FinMap.{FinMap, empty, get, insert, remove, find, get-empty, get-from_entries, get-insert, get-remove, same_map, nat_cmp-IsAntisymmetric}
use Rattle.buffer_store.specs.StoredBuffer.{StoredBuffer}
use Rattle.buffer_store.specs.Stored.{Shelf, changed_at}
use Rattle.buffer_store.specs.Slots.{slots_from, shelf_of}

module _ {X : Type 0} where
  same_at : (m : FinMap nat_cmp X) (k : ℕ) (v : X) → get m k ≡ Some v → (q : ℕ) (o : Ordering) → nat_cmp q k ≡ o
      → cond (is_eq o) (Some v) (get m q) ≡ get m q
  same_at m k v e q Less t = refl
  same_at m k v e q Equal t = sym e ∙ ap (get m) (sym (nat_cmp-IsAntisymmetric q k t))
  same_at m k v e q Greater t = refl

  -- to put a value where it stands changes nothing
  pub insert_same : (m : FinMap nat_cmp X) (k : ℕ) (v : X) → get m k ≡ Some v → insert m k v ≡ m
  insert_same m k v e =
      same_map nat_cmp_total nat_cmp-IsAntisymmetric _ _ (λ q. get-insert nat_cmp_total m k v q ∙ same_at m k v e q (nat_cmp q k) refl)

-- what stands at a handle after each change, by the test whether it is the handle that changed
module _ {X : Type 0} where
  pub get-inserted : (m : FinMap nat_cmp X) (k : ℕ) (v : X) (q : ℕ) → get (insert m k v) q ≡ cond (q == k) (Some v) (get m q)
  get-inserted m k v q = get-insert nat_cmp_total m k v q ∙ ap (λ b. cond b (Some v) (get m q)) (unsigned_tied q k)

  pub get-removed : (m : FinMap nat_cmp X) (k q : ℕ) → get (remove m k) q ≡ cond (q == k) None (get m q)
  get-removed m k q = get-remove nat_cmp_total m k q ∙ ap (λ b. cond b None (get m q)) (unsigned_tied q k)

-- the handle of a buffer that was put there
pub is_there : {X : Type 0} (m : FinMap nat_cmp X) (k q : ℕ) (v : X) → Some k ≡ Some q → IsSome (get (insert m k v) q)
is_there m k q v e = let same : q ≡ k = cc in rw (get-inserted, eq-eqb q k same) refl

unchanged_at : (shelf : Shelf) (h q : ℕ) → get shelf h ≡ None → (b : Bool) → (q == h) ≡ b → get shelf q ≡ cond b None (get shelf q)
unchanged_at shelf h q at true e = ap (get shelf) (eqb-true q h e) ∙ at
unchanged_at shelf h q at false e = refl

pub get-changed_at : (shelf : Shelf) (h : ℕ) (f : StoredBuffer → StoredBuffer) (o : Option StoredBuffer) (q : ℕ) → get shelf h ≡ o
    → get (changed_at shelf h f o) q ≡ cond (q == h) (option_map f o) (get shelf q)
get-changed_at shelf h f None q at = unchanged_at shelf h q at (q == h) refl
get-changed_at shelf h f (Some b) q at = get-inserted shelf h (f b) q

-- whether two numbers are tied, where they differ
tied_apart : (q n : ℕ) → (q ≡ n → ⊥) → (b : Bool) → (q == n) ≡ b → is_eq (nat_cmp q n) ≡ false
tied_apart q n apart true e = absurd (apart (eqb-true q n e))
tied_apart q n apart false e = unsigned_tied q n ∙ e

-- no slot from n on has a place below n
find_below : (q n : ℕ) (slots : List (Option StoredBuffer)) → q < n → find nat_cmp q (slots_from n slots) ≡ None
unfolding slots_from
find_below q n [] l = refl
find_below q n (None ∷ slots) l = find_below q (suc n) slots (omega arith)
find_below q n (Some b ∷ slots) l =
    cond-false _ _ _ (tied_apart q n (λ e. omega (arith, e)) (q == n) refl) ∙ find_below q (suc n) slots (omega arith)

-- what is found at a place is what the slot has
find_slot : (q i n : ℕ) (slots : List (Option StoredBuffer)) → q ≡ n + i → find nat_cmp q (slots_from n slots) ≡ get_or slots i None
unfolding slots_from
find_slot q i n [] e = refl
find_slot q zero n (None ∷ slots) e = find_below q (suc n) slots (omega arith)
find_slot q zero n (Some b ∷ slots) e = cond-true _ _ _ (unsigned_tied q n ∙ eq-eqb q n (omega arith))
find_slot q (suc i) n (None ∷ slots) e = find_slot q i (suc n) slots (omega arith)
find_slot q (suc i) n (Some b ∷ slots) e =
    cond-false _ _ _ (tied_apart q n (λ f. omega (arith, f)) (q == n) refl) ∙ find_slot q i (suc n) slots (omega arith)

-- what the shelf has at a handle
pub get-shelf : (slots : List (Option StoredBuffer)) (q : ℕ) → get (shelf_of slots) q ≡ get_or slots q None
unfolding shelf_of
get-shelf slots q = get-from_entries nat_cmp_total (slots_from 0 slots) q ∙ find_slot q q 0 slots (omega arith)

same_shelf : (s t : Shelf) → ((q : ℕ) → get s q ≡ get t q) → s ≡ t
same_shelf s t e = same_map nat_cmp_total nat_cmp-IsAntisymmetric s t e

-- no slot, no buffer
pub shelf-none : shelf_of [] ≡ empty
shelf-none = same_shelf _ _ (λ q. get-shelf [] q ∙ sym (get-empty nat_cmp q))

-- what a slot has where one was set
get_or-written : {X : Type 0} (xs : List X) (i q : ℕ) (x d : X) → i < length xs → (b : Bool) → (q == i) ≡ b
    → get_or (set xs i x) q d ≡ cond b x (get_or xs q d)
get_or-written xs i q x d l true e = ap (λ k. get_or (set xs i x) k d) (eqb-true q i e) ∙ get_or-set_same xs i x d l
get_or-written xs i q x d l false e = get_or-set_other xs i q x d (eqb-false q i e)

-- a buffer put into a slot is one inserted into the shelf
pub shelf-put : (slots : List (Option StoredBuffer)) (h : ℕ) (b : StoredBuffer) → h < length slots
    → shelf_of (set slots h (Some b)) ≡ insert (shelf_of slots) h b
shelf-put slots h b l = same_shelf _ _
    (λ q. get-shelf (set slots h (Some b)) q ∙ get_or-written slots h q (Some b) None l (q == h) refl
    ∙ ap (cond (q == h) (Some b)) (sym (get-shelf slots q)) ∙ sym (get-inserted (shelf_of slots) h b q))

-- a cleared slot is a buffer removed from the shelf
pub shelf-cleared : (slots : List (Option StoredBuffer)) (h : ℕ) → h < length slots
    → shelf_of (set slots h None) ≡ remove (shelf_of slots) h
shelf-cleared slots h l = same_shelf _ _
    (λ q. get-shelf (set slots h None) q ∙ get_or-written slots h q None None l (q == h) refl
    ∙ ap (cond (q == h) None) (sym (get-shelf slots q)) ∙ sym (get-removed (shelf_of slots) h q))

absent_at : (slots : List (Option StoredBuffer)) (h q : ℕ) → length slots ≤ h → (b : Bool) → (q == h) ≡ b
    → get_or slots q None ≡ cond b None (get_or slots q None)
absent_at slots h q l true e = get_or_past slots q None (let same : q ≡ h = eqb-true q h e in omega arith)
absent_at slots h q l false e = refl

-- nothing is removed where there is no slot
pub shelf-absent : (slots : List (Option StoredBuffer)) (h : ℕ) → length slots ≤ h → remove (shelf_of slots) h ≡ shelf_of slots
shelf-absent slots h l = same_shelf _ _
    (λ q. get-removed (shelf_of slots) h q ∙ ap (cond (q == h) None) (get-shelf slots q)
    ∙ sym (absent_at slots h q l (q == h) refl) ∙ sym (get-shelf slots q))

get_or-more : (slots : List (Option StoredBuffer)) (q : ℕ) → get_or (slots ++ None ∷ []) q None ≡ get_or slots q None
get_or-more [] zero = refl
get_or-more [] (suc q) = refl
get_or-more (x ∷ slots) zero = refl
get_or-more (x ∷ slots) (suc q) = get_or-more slots q

-- one more empty slot changes nothing
pub shelf-more : (slots : List (Option StoredBuffer)) → shelf_of (slots ++ None ∷ []) ≡ shelf_of slots
shelf-more slots = same_shelf _ _ (λ q. get-shelf (slots ++ None ∷ []) q ∙ get_or-more slots q ∙ sym (get-shelf slots q))

-- what stands at a handle
pub ruleset gets_at = (get-inserted, get-removed, get-changed_at)

-- what the methods of the shelf need
pub ruleset of_shelf = (get-shelf, get-inserted, shelf-none, shelf-put, shelf-cleared, shelf-absent, shelf-more)
