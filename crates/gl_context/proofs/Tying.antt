-- The names and the stored buffers stay tied: a buffer is stored for each live object that is one.
use Rattle.std.proofs.Common.{◌≡◌, ℕ, ℤ, ◌+◌, Bool, false, cond, not, Option, Some, None, List, [], ◌∷◌, ◌++◌, length, refl, sym, ap, ◌∙◌, inl, inr}
use Rattle.std.specs.Prelude.{is_some, ◌&&◌}
use Rattle.std.specs.Option.{option_map, option_map_or}
use Rattle.std.specs.FinMap.{get, insert, get-empty}
use Rattle.std.specs.Ordering.{nat_cmp}
use Rattle.std.proofs.lemmas.Bool.Decides.{eqb_tells}
use Rattle.std.proofs.Math.Bool.{and-false}
use Rattle.gl_numbers.specs.BufferBindings.{Bindings}
use Rattle.gl_numbers.specs.BufferRules.{whole}
use Rattle.gl_numbers.specs.declared.buffer_words.BufferTarget.{BufferTarget}
use Rattle.gl_numbers.specs.declared.buffer_words.BufferTarget.TheVariants.{Array, ElementArray}
use Rattle.gl_numbers.specs.ByHandle.{object_at, changed as changed_object}
use Rattle.gl_numbers.proofs.ByHandle.{object_at-made, object_at-changed}
use Rattle.gl_numbers.specs.declared.kinds.Kind.{Kind}
use Rattle.gl_numbers.specs.declared.kinds.Kind.TheVariants as kind
use Rattle.object_names.specs.Objects as Names
use Rattle.buffer_store.specs.StoredBuffer.{StoredBuffer, new_stored, with_bytes}
use Rattle.buffer_store.specs.Stored.{Shelf, Stored, nothing_stored, changed}
use Rattle.buffer_store.specs.Rules.{without_buffer, patched}
use Rattle.buffer_store.proofs.Shelf.{get-inserted, get-removed, get-changed_at}
use Rattle.gl_model.specs.PageState.{same_kind}
use Rattle.gl_context.specs.Tied.{AreTied}

-- nothing is named and nothing stored
pub tied-first : AreTied Names.no_names nothing_stored
tied-first h = ap is_some (get-empty nat_cmp h) ∙ elim (eqb_tells h 0) [ inl null ↦ rw null.0 refl | inr given ↦ rw given.0 refl ]

-- whether a name is live
live : Option Names.Object → Bool
live o = option_map_or (λ o. same_kind kind.Buffer o.kind && not o.marked) o false

-- a new buffer
pub tied-create : (names : Names.Given) (stored : Stored) (room : Option Kind) → AreTied names stored
    → AreTied (record { objects = names.objects ++ Names.new_object kind.Buffer ∷ []; room = room })
    (record stored { buffers = insert stored.buffers (Names.next_handle names) new_stored })
unfolding live
tied-create names stored room tied h =
    ap is_some (get-inserted stored.buffers (Names.next_handle names) new_stored h)
    ∙ elim (eqb_tells h (length names.objects + 1)) [
      | inl same ↦ rw same.0 (sym (ap live (object_at-made names.objects (Names.new_object kind.Buffer) h ∙ ap (λ b. cond b (Some (Names.new_object kind.Buffer)) (object_at names.objects h)) same.0)))
      | inr other ↦ rw other.0 (tied h ∙ sym (ap live (object_at-made names.objects (Names.new_object kind.Buffer) h ∙ ap (λ b. cond b (Some (Names.new_object kind.Buffer)) (object_at names.objects h)) other.0)))
    ]

-- a name that was marked isn't live
live-marked : (o : Option Names.Object) → live (option_map Names.marked o) ≡ false
unfolding live
live-marked None = refl
live-marked (Some o) = and-false (same_kind kind.Buffer o.kind)

-- a buffer that was deleted
pub tied-delete : (names : Names.Given) (stored : Stored) (room : Option Kind) (handle : ℕ) → AreTied names stored
    → AreTied (record { objects = changed_object names.objects handle Names.marked; room = room }) (without_buffer stored handle)
unfolding live
tied-delete names stored room handle tied h =
    ap is_some (get-removed stored.buffers handle h)
    ∙ elim (eqb_tells h handle) [
      | inl same ↦ rw same.0 (sym (ap live (object_at-changed names.objects handle Names.marked h ∙ ap (λ b. cond b (option_map Names.marked (object_at names.objects handle)) (object_at names.objects h)) same.0)
          ∙ live-marked (object_at names.objects handle)))
      | inr other ↦ rw other.0 (tied h ∙ sym (ap live (object_at-changed names.objects handle Names.marked h ∙ ap (λ b. cond b (option_map Names.marked (object_at names.objects handle)) (object_at names.objects h)) other.0)))
    ]

-- a change leaves whether there is a buffer
some-map : (f : StoredBuffer → StoredBuffer) (b : Option StoredBuffer) → is_some (option_map f b) ≡ is_some b
some-map f None = refl
some-map f (Some b) = refl

some-changed_at : (shelf : Shelf) (handle : ℕ) (f : StoredBuffer → StoredBuffer) (h : ℕ) → is_some (get (changed shelf (Some handle) f) h) ≡ is_some (get shelf h)
some-changed_at shelf handle f h =
    ap is_some (get-changed_at shelf handle f (get shelf handle) h refl)
    ∙ elim (eqb_tells h handle) [
      | inl same ↦ rw same.0 (some-map f (get shelf handle) ∙ ap (λ n. is_some (get shelf n)) (sym same.1))
      | inr other ↦ rw other.0 refl
    ]

pub some-changed : (shelf : Shelf) (handle : Option ℕ) (f : StoredBuffer → StoredBuffer) (h : ℕ) → is_some (get (changed shelf handle f) h) ≡ is_some (get shelf h)
some-changed shelf None f h = refl
some-changed shelf (Some handle) f h = some-changed_at shelf handle f h

-- a buffer that was changed
pub tied-changed : (names : Names.Given) (stored : Stored) (bound : Bindings) (handle : Option ℕ) (f : StoredBuffer → StoredBuffer) → AreTied names stored
    → AreTied names (record { buffers = changed stored.buffers handle f; bound = bound })
tied-changed names stored bound handle f tied h = some-changed stored.buffers handle f h ∙ tied h

-- a buffer of which bytes were replaced
pub tied-patched : (names : Names.Given) (stored : Stored) (t : BufferTarget) (offset : ℤ) (part : List ℕ) → AreTied names stored
    → AreTied names (patched stored t offset part)
tied-patched names stored Array offset part tied = tied
tied-patched names stored ElementArray offset part tied = tied-changed names stored stored.bound stored.bound.element_array (with_bytes (whole offset) part) tied
