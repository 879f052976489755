-- What the context keeps after a call, and the page's state after its row.
use Rattle.std.proofs.Common.{◌≡◌, ℕ, ◌+◌, ◌-◌, true, false, cond, Option, Some, None, IfSome, List, [], ◌∷◌, ◌++◌, length, refl, sym, ap, ◌∙◌, arith, inl, inr, length-append}
use Rattle.std.specs.Prelude.{◌==◌}
use Rattle.std.specs.Option.{option_map, option_and_then}
use Rattle.std.specs.FinMap.{get, insert, remove}
use Rattle.std.proofs.lemmas.Bool.Decides.{eqb_tells}
use Rattle.std.proofs.lemmas.List.{length-set}
use Rattle.gl_numbers.specs.BufferBindings.{Bindings, binding, bound_to}
use Rattle.gl_numbers.specs.BufferWords.{buffer_target_of}
use Rattle.gl_numbers.specs.ByHandle.{object_at, changed as changed_object, changed_at as changed_object_at}
use Rattle.gl_numbers.proofs.ByHandle.{object_at-made, object_at-changed}
use Rattle.gl_numbers.specs.declared.buffer_words.BufferTarget.{BufferTarget}
use Rattle.gl_numbers.specs.declared.kinds.Kind.{Kind}
use Rattle.object_names.specs.Objects as Names
use Rattle.buffer_store.specs.StoredBuffer.{StoredBuffer, new_stored}
use Rattle.buffer_store.specs.StoredBuffer as Store
use Rattle.buffer_store.specs.Stored.{Shelf, Stored, changed, found}
use Rattle.buffer_store.specs.Rules as store
use Rattle.buffer_store.proofs.Shelf.{get-inserted, get-removed, get-changed_at}
use Rattle.gl_model.specs.Buffers.{Buffer, view_of}
use Rattle.gl_model.specs.BufferState.{BufferState, with_buffer, changed_buffer, changed_if_bound, changed_bound, make_buffer, view_at, bound_view}
use Rattle.gl_model.specs.PageState.{Object, mark}
use Rattle.gl_context.specs.Stands.{named, KeepsNames, stored_buffer, KeepsBuffers}

-- the stored buffers are those of the page
abbrev pub Stores : Shelf → (ℕ → Option Buffer) → Type 0
Stores shelf contents = (handle : ℕ) → get shelf handle ≡ option_map stored_buffer (contents handle)

-- a new buffer
pub stores-make : (shelf : Shelf) (s : BufferState) (handle : ℕ) → Stores shelf s.contents → Stores (insert shelf handle new_stored) (make_buffer handle s).contents
stores-make shelf s handle stores k =
    get-inserted shelf handle new_stored k ∙ elim (eqb_tells k handle) [
      | inl same ↦ rw same.0 refl
      | inr other ↦ rw other.0 (stores k)
    ]

-- a buffer that is gone
pub stores-drop : (shelf : Shelf) (s : BufferState) (handle : ℕ) → Stores shelf s.contents → Stores (remove shelf handle) (with_buffer handle None s).contents
stores-drop shelf s handle stores k =
    get-removed shelf handle k ∙ elim (eqb_tells k handle) [
      | inl same ↦ rw same.0 refl
      | inr other ↦ rw other.0 (stores k)
    ]

-- a change of a buffer, and of how it is stored
map-both : (f : StoredBuffer → StoredBuffer) (change : Buffer → Buffer) (b : Option Buffer) → IfSome b (λ b. f (stored_buffer b) ≡ stored_buffer (change b))
    → option_map f (option_map stored_buffer b) ≡ option_map stored_buffer (option_map change b)
map-both f change None e = refl
map-both f change (Some b) e = ap Some e

-- a buffer that was changed
pub stores-changed : (shelf : Shelf) (s : BufferState) (handle : ℕ) (f : StoredBuffer → StoredBuffer) (change : Buffer → Buffer) → Stores shelf s.contents
    → IfSome (s.contents handle) (λ b. f (stored_buffer b) ≡ stored_buffer (change b))
    → Stores (changed shelf (Some handle) f) (changed_buffer change handle s).contents
stores-changed shelf s handle f change stores e k =
    get-changed_at shelf handle f (get shelf handle) k refl ∙ elim (eqb_tells k handle) [
      | inl same ↦ rw same.0 (ap (option_map f) (stores handle) ∙ map-both f change (s.contents handle) e)
      | inr other ↦ rw other.0 (stores k)
    ]

-- a buffer that was changed in what isn't kept of it
map-same : (change : Buffer → Buffer) (b : Option Buffer) → IfSome b (λ b. stored_buffer b ≡ stored_buffer (change b))
    → option_map stored_buffer b ≡ option_map stored_buffer (option_map change b)
map-same change None e = refl
map-same change (Some b) e = ap Some e

pub stores-same : (shelf : Shelf) (s : BufferState) (handle : ℕ) (change : Buffer → Buffer) → Stores shelf s.contents
    → IfSome (s.contents handle) (λ b. stored_buffer b ≡ stored_buffer (change b)) → Stores shelf (changed_buffer change handle s).contents
stores-same shelf s handle change stores e k =
    elim (eqb_tells k handle) [
      | inl same ↦ rw same.0 (ap (get shelf) same.1 ∙ stores handle ∙ map-same change (s.contents handle) e)
      | inr other ↦ rw other.0 (stores k)
    ]

-- the same of what is bound, which may be nothing
pub stores-if_bound : (shelf : Shelf) (s : BufferState) (bound : Option ℕ) (f : StoredBuffer → StoredBuffer) (change : Buffer → Buffer) → Stores shelf s.contents
    → IfSome (option_and_then s.contents bound) (λ b. f (stored_buffer b) ≡ stored_buffer (change b))
    → Stores (changed shelf bound f) (changed_if_bound change bound s).contents
stores-if_bound shelf s None f change stores e = stores
stores-if_bound shelf s (Some handle) f change stores e = stores-changed shelf s handle f change stores e

pub stores-same_bound : (shelf : Shelf) (s : BufferState) (bound : Option ℕ) (change : Buffer → Buffer) → Stores shelf s.contents
    → IfSome (option_and_then s.contents bound) (λ b. stored_buffer b ≡ stored_buffer (change b)) → Stores shelf (changed_if_bound change bound s).contents
stores-same_bound shelf s None change stores e = stores
stores-same_bound shelf s (Some handle) change stores e = stores-same shelf s handle change stores e

-- a change of what is bound changes no binding
bound-if_bound : (change : Buffer → Buffer) (bound : Option ℕ) (s : BufferState) → (changed_if_bound change bound s).bound ≡ s.bound
bound-if_bound change None s = refl
bound-if_bound change (Some handle) s = refl

pub bound-changed_bound : (change : Buffer → Buffer) (target : ℕ) (s : BufferState) → (changed_bound change target s).bound ≡ s.bound
bound-changed_bound change target s = bound-if_bound change (bound_to s.bound target) s

-- the rules see the same of a buffer that is stored
view-map : (b : Option Buffer) → option_map Store.view_of (option_map stored_buffer b) ≡ option_map view_of b
view-map None = refl
view-map (Some b) = refl

pub view-stored : (stored : Stored) (s : BufferState) (handle : ℕ) → KeepsBuffers stored s → option_map Store.view_of (get stored.buffers handle) ≡ view_at s handle
view-stored stored s handle k = ap (option_map Store.view_of) (k.each handle) ∙ view-map (s.contents handle)

view-found : (stored : Stored) (s : BufferState) (bound : Option ℕ) → KeepsBuffers stored s
    → option_map Store.view_of (found stored.buffers bound) ≡ option_and_then (view_at s) bound
view-found stored s None k = refl
view-found stored s (Some handle) k = view-stored stored s handle k

-- the rules see the same of what is bound
pub bound_view-stored : (stored : Stored) (s : BufferState) (t : BufferTarget) (target : ℕ) → KeepsBuffers stored s → buffer_target_of target ≡ Some t
    → store.bound_view stored t ≡ bound_view s target
bound_view-stored stored s t target k is =
    rw is (ap (λ (b : Bindings). option_map Store.view_of (found stored.buffers (binding b t))) k.bound ∙ view-found stored s (binding s.bound t) k)

-- an object that was marked, as it is named
map-marked : (held : ℕ) (o : Option Object) → option_map Names.marked (option_map (named held) o) ≡ option_map (named held) (option_map mark o)
map-marked held None = refl
map-marked held (Some o) = refl

-- the names after one more object was made, which nothing holds
pub names-made : (names : Names.Given) (objects : List Object) (held : ℕ → ℕ) (o : Object) (room : Option Kind) → KeepsNames names objects held
    → held (length objects + 1) ≡ 0 → KeepsNames (record { objects = names.objects ++ named 0 o ∷ []; room = room }) (objects ++ o ∷ []) held
names-made names objects held o room k free =
    let count = k.count in
    record {
      count = omega (arith, count, length-append names.objects (named 0 o ∷ []), length-append objects (o ∷ []));
      each = λ h. object_at-made names.objects (named 0 o) h ∙ elim (eqb_tells h (length names.objects + 1)) [
        | inl same ↦
            let here : (h == length objects + 1) ≡ true = ap (λ n. h == n + 1) (sym count) ∙ same.0 in
            let none : held h ≡ 0 = ap held (same.1 ∙ ap (λ n. n + 1) count) ∙ free in
            rw same.0 (sym (ap (option_map (named (held h))) (object_at-made objects o h ∙ ap (λ b. cond b (Some o) (object_at objects h)) here)
            ∙ ap (λ n. Some (named n o)) none))
        | inr other ↦
            let elsewhere : (h == length objects + 1) ≡ false = ap (λ n. h == n + 1) (sym count) ∙ other.0 in
            rw other.0 (k.each h ∙ sym (ap (option_map (named (held h))) (object_at-made objects o h ∙ ap (λ b. cond b (Some o) (object_at objects h)) elsewhere)))
      ];
    }

-- a change of objects leaves how many there are
length-changed_at : {A : Type 0} (objects : List A) (h : ℕ) (f : A → A) (o : Option A) → length (changed_object_at objects h f o) ≡ length objects
length-changed_at objects h f None = refl
length-changed_at objects h f (Some o) = length-set objects (h - 1) (f o)

pub length-changed : {A : Type 0} (objects : List A) (h : ℕ) (f : A → A) → length (changed_object objects h f) ≡ length objects
length-changed objects h f = length-changed_at objects h f (object_at objects h)

-- the names after one was marked
pub names-marked : (names : Names.Given) (objects : List Object) (held : ℕ → ℕ) (handle : ℕ) (room : Option Kind) → KeepsNames names objects held
    → KeepsNames (record { objects = changed_object names.objects handle Names.marked; room = room }) (changed_object objects handle mark) held
names-marked names objects held handle room k = record {
  count = length-changed names.objects handle Names.marked ∙ k.count ∙ sym (length-changed objects handle mark);
  each = λ h. object_at-changed names.objects handle Names.marked h ∙ elim (eqb_tells h handle) [
    | inl same ↦ rw same.0 (ap (option_map Names.marked) (k.each handle) ∙ map-marked (held handle) (object_at objects handle)
        ∙ ap (λ n. option_map (named (held n)) (option_map mark (object_at objects handle))) (sym same.1)
        ∙ sym (ap (option_map (named (held h))) (object_at-changed objects handle mark h ∙ ap (λ b. cond b (option_map mark (object_at objects handle)) (object_at objects h)) same.0)))
    | inr other ↦ rw other.0 (k.each h
        ∙ sym (ap (option_map (named (held h))) (object_at-changed objects handle mark h ∙ ap (λ b. cond b (option_map mark (object_at objects handle)) (object_at objects h)) other.0)))
  ];
}
