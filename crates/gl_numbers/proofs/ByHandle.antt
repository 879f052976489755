-- What stands at a handle after an object is made or changed.
use Rattle.std.proofs.Common.{◌≡◌, ℕ, zero, suc, ◌+◌, ◌-◌, ◌<◌, Bool, true, false, cond, List, [], ◌∷◌, ◌++◌, length, refl, ap, ◌∙◌, arith, eq-eqb}
use Rattle.std.specs.Prelude.{Option, Some, None, ◌==◌, slice_get, slice_set}
use Rattle.std.specs.Option.{option_map}
use Rattle.std.proofs.lemmas.Bool.{eqb-true}
use Rattle.gl_numbers.specs.ByHandle.{object_at, changed, changed_at}
use Rattle.gl_numbers.proofs.Places.{Placed, placed, positive_of}

module _ {X : Type 0} where
  slice_get-last : (xs : List X) (y : X) → slice_get (xs ++ y ∷ []) (length xs) ≡ Some y
  slice_get-last [] y = refl
  slice_get-last (x ∷ xs) y = slice_get-last xs y

  slice_get-before : (xs : List X) (y : X) (k : ℕ) → (k ≡ length xs → ⊥) → slice_get (xs ++ y ∷ []) k ≡ slice_get xs k
  slice_get-before [] y zero other = absurd (other refl)
  slice_get-before [] y (suc k) other = refl
  slice_get-before (x ∷ xs) y zero other = refl
  slice_get-before (x ∷ xs) y (suc k) other = slice_get-before xs y k (λ e. other (ap suc e))

  slice_get-set_same : (xs : List X) (i : ℕ) (v : X) → i < length xs → slice_get (slice_set xs i v) i ≡ Some v
  slice_get-set_same [] i v within = absurd (omega arith)
  slice_get-set_same (x ∷ xs) zero v within = refl
  slice_get-set_same (x ∷ xs) (suc i) v within = slice_get-set_same xs i v (omega arith)

  slice_get-set_other : (xs : List X) (i : ℕ) (v : X) (k : ℕ) → (k ≡ i → ⊥) → slice_get (slice_set xs i v) k ≡ slice_get xs k
  slice_get-set_other [] i v k other = refl
  slice_get-set_other (x ∷ xs) zero v zero other = absurd (other refl)
  slice_get-set_other (x ∷ xs) zero v (suc k) other = refl
  slice_get-set_other (x ∷ xs) (suc i) v zero other = refl
  slice_get-set_other (x ∷ xs) (suc i) v (suc k) other = slice_get-set_other xs i v k (λ e. other (ap suc e))

is_not : (a b : ℕ) → (a == b) ≡ false → a ≡ b → ⊥
is_not a b apart e = let tied : (a == b) ≡ true = eq-eqb a b e in absurd cc

made_by : {A : Type 0} (objects : List A) (o : A) (q : ℕ) (a : Bool) → (q == length objects + 1) ≡ a → (z : Bool) → (q == 0) ≡ z
    → cond z None (slice_get (objects ++ o ∷ []) (q - 1)) ≡ cond a (Some o) (cond z None (slice_get objects (q - 1)))
made_by objects o q true a true z = absurd (omega (arith, eqb-true q (length objects + 1) a, eqb-true q 0 z))
made_by objects o q true a false z =
    let last : q - 1 ≡ length objects = omega (arith, eqb-true q (length objects + 1) a) in
    rw last (slice_get-last objects o)
made_by objects o q false a true z = refl
made_by objects o q false a false z =
    slice_get-before objects o (q - 1) (λ e. is_not q (length objects + 1) a (omega (arith, positive_of q (λ t. absurd cc))))

-- the object that was made has the next handle, and the others keep theirs
pub object_at-made : {A : Type 0} (objects : List A) (o : A) (q : ℕ) → object_at (objects ++ o ∷ []) q ≡ cond (q == length objects + 1) (Some o) (object_at objects q)
object_at-made objects o q = made_by objects o q (q == length objects + 1) refl (q == 0) refl

other_place : (h q : ℕ) → 0 < h → (q == h) ≡ false → (q == 0) ≡ false → q - 1 ≡ h - 1 → ⊥
other_place h q above apart z e = is_not q h apart (omega (arith, positive_of q (λ t. absurd cc)))

changed_elsewhere : {A : Type 0} (objects : List A) (h : ℕ) (v : A) (q : ℕ) → 0 < h → (q == h) ≡ false → (z : Bool) → (q == 0) ≡ z
    → cond z None (slice_get (slice_set objects (h - 1) v) (q - 1)) ≡ cond z None (slice_get objects (q - 1))
changed_elsewhere objects h v q above apart true z = refl
changed_elsewhere objects h v q above apart false z = slice_get-set_other objects (h - 1) v (q - 1) (other_place h q above apart z)

changed_here : {A : Type 0} (objects : List A) (h : ℕ) (v : A) → 0 < h → h - 1 < length objects → (z : Bool) → (h == 0) ≡ z
    → cond z None (slice_get (slice_set objects (h - 1) v) (h - 1)) ≡ Some v
changed_here objects h v above within true z = absurd (omega (arith, eqb-true h 0 z))
changed_here objects h v above within false z = slice_get-set_same objects (h - 1) v within

changed_by : {A : Type 0} (objects : List A) (h : ℕ) (f : A → A) (x : Option A) → object_at objects h ≡ x → (q : ℕ) (a : Bool) → (q == h) ≡ a
    → object_at (changed_at objects h f x) q ≡ cond a (option_map f x) (object_at objects q)
changed_by objects h f None at q true a = ap (object_at objects) (eqb-true q h a) ∙ at
changed_by objects h f None at q false a = refl
changed_by objects h f (Some o) at q true a =
    let p : Placed objects h o = placed objects h o at in
    ap (object_at (slice_set objects (h - 1) (f o))) (eqb-true q h a) ∙ changed_here objects h (f o) p.positive p.within (h == 0) refl
changed_by objects h f (Some o) at q false a =
    let p : Placed objects h o = placed objects h o at in changed_elsewhere objects h (f o) q p.positive a (q == 0) refl

-- the object of the handle is changed, and apart other
pub object_at-changed : {A : Type 0} (objects : List A) (h : ℕ) (f : A → A) (q : ℕ)
    → object_at (changed objects h f) q ≡ cond (q == h) (option_map f (object_at objects h)) (object_at objects q)
object_at-changed objects h f q = changed_by objects h f (object_at objects h) refl q (q == h) refl

-- what stands at a handle
pub ruleset of_objects = (object_at-made, object_at-changed)
