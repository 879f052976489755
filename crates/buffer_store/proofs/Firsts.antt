-- A buffer stays with its first target, and so the bindings name buffers of their targets.
use Rattle.std.proofs.Common.{◌≡◌, ℕ, Bool, true, false, cond, refl, sym, ap, subst, ◌∙◌}
use Rattle.std.specs.Prelude.{Option, Some, None, ◌==◌}
use Rattle.std.specs.Cmp.{nat_cmp_total, unsigned_tied}
use Rattle.std.specs.FinMap.{get, remove, get-remove}
use Rattle.gl_numbers.specs.declared.buffer_words.BufferTarget.{BufferTarget}
use Rattle.gl_numbers.specs.declared.buffer_words.BufferTarget.TheVariants.{Array, ElementArray}
use Rattle.gl_numbers.specs.BufferBindings.{Bindings, unbind, without}
use Rattle.buffer_store.specs.StoredBuffer.{StoredBuffer, with_first}
use Rattle.buffer_store.specs.Stored.{Shelf, IsOf, IsBoundFirst, AreBoundFirst, changed_at}
use Rattle.buffer_store.proofs.Shelf.{insert_same}

-- a buffer of its target stays as it is
pub claimed_same : (shelf : Shelf) (k : ℕ) (t : BufferTarget) (b : StoredBuffer) → get shelf k ≡ Some b → b.first_target ≡ Some t
    → shelf ≡ changed_at shelf k (with_first t) (get shelf k)
claimed_same shelf k t b at is =
    rw at (sym (insert_same shelf k (with_first t b) (at ∙ ap (λ x. Some (record b { first_target = x })) is)))

-- a buffer that is bound still, after another was removed
without_at : (shelf : Shelf) (k : ℕ) (t : BufferTarget) (q : ℕ) → IsOf t (get shelf q) → (b : Bool) → (q == k) ≡ b
    → IsBoundFirst (remove shelf k) t (cond b None (Some q))
without_at shelf k t q has true e = tt
without_at shelf k t q has false e =
    let same : get (remove shelf k) q ≡ get shelf q = get-remove nat_cmp_total shelf k q ∙ ap (λ b. cond b None (get shelf q)) (unsigned_tied q k ∙ e) in
    subst (λ (o : Option StoredBuffer). IsOf t o) (sym same) has

-- a binding that is no longer of the buffer that is gone
pub IsBoundFirst-without : (shelf : Shelf) (k : ℕ) (t : BufferTarget) (h : Option ℕ) → IsBoundFirst shelf t h
    → IsBoundFirst (remove shelf k) t (without k h)
IsBoundFirst-without shelf k t None is = tt
IsBoundFirst-without shelf k t (Some q) is = without_at shelf k t q is (q == k) refl

-- both bindings, where neither is of the buffer that is gone
pub AreBoundFirst-unbind : (shelf : Shelf) (k : ℕ) (bound : Bindings) → AreBoundFirst shelf bound
    → AreBoundFirst (remove shelf k) (unbind k bound)
AreBoundFirst-unbind shelf k bound are = record {
  array = IsBoundFirst-without shelf k Array bound.array are.array;
  element_array = IsBoundFirst-without shelf k ElementArray bound.element_array are.element_array;
}
