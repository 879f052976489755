-- Where the object of a handle stands.
use Rattle.std.proofs.Common.{◌≡◌, ℕ, zero, suc, ◌-◌, ◌<◌, Bool, true, false, cond, List, length, refl, arith}
use Rattle.std.specs.Prelude.{Some, None, ◌==◌, slice_get}
use Rattle.std.proofs.lemmas.Option.{slice_get_within}
use Rattle.gl_numbers.specs.ByHandle.{object_at}

-- the object of a handle that was given
pub record Placed {A : Type 0} (objects : List A) (h : ℕ) (o : A) : Type 0 where
  pub positive : 0 < h
  pub within : h - 1 < length objects
  pub is : slice_get objects (h - 1) ≡ Some o

pub positive_of : (h : ℕ) → ((h == 0) ≡ true → ⊥) → 0 < h
positive_of zero apart = absurd (apart refl)
positive_of (suc n) apart = omega arith

placed_by : {A : Type 0} (objects : List A) (h : ℕ) (o : A) (b : Bool) → (h == 0) ≡ b → cond b None (slice_get objects (h - 1)) ≡ Some o → Placed objects h o
placed_by objects h o true e is = absurd cc
placed_by objects h o false e is = record {
  positive = positive_of h (λ t. absurd cc);
  within = slice_get_within objects (h - 1) o is;
  is = is;
}

pub placed : {A : Type 0} (objects : List A) (h : ℕ) (o : A) → object_at objects h ≡ Some o → Placed objects h o
placed objects h o is = placed_by objects h o (h == 0) refl is
