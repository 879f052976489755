-- What a call did to the stores is what its row says: nothing refused it, and what is kept stands for the row's next state.
use Rattle.std.proofs.Common.{◌≡◌, ℕ, ℤ, ◌+◌, ◌≤◌, true, false, not, Option, Some, None, IfSome, List, [], ◌∷◌, ◌++◌, length, refl, sym, ap, subst, ◌∙◌, arith, inl, inr}
use Rattle.std.specs.Prelude.{nat_lt, is_some}
use Rattle.std.specs.Option.{option_map, option_and_then, option_map_or}
use Rattle.std.specs.Borrow.{Bor}
use Rattle.std.specs.FinMap.{insert}
use Rattle.std.proofs.lemmas.Bool.{ltb-false}
use Rattle.std.proofs.lemmas.Bool.Decides.{eqb_tells, leb_tells}
use Rattle.std.proofs.lemmas.List.{length-replicate}
use Rattle.gl_numbers.specs.BufferBindings.{Bindings, binding, bound_to, bind, unbind, non_zero}
use Rattle.gl_numbers.specs.ByHandle.{changed as changed_object}
use Rattle.gl_numbers.specs.BufferRules.{BufferView, is_other, is_negative, whole, no_such_buffer}
use Rattle.gl_numbers.specs.BufferWords.{buffer_target_of, usage_of}
use Rattle.gl_numbers.specs.Refusals.{first_refusal}
use Rattle.gl_numbers.proofs.Refusing.{passes, passed}
use Rattle.gl_numbers.specs.declared.buffer_words.BufferTarget.{BufferTarget}
use Rattle.gl_numbers.specs.declared.buffer_words.BufferTarget.TheVariants.{Array, ElementArray}
use Rattle.gl_numbers.specs.declared.buffer_words.Usage.{Usage}
use Rattle.gl_numbers.specs.declared.kinds.Kind.{Kind}
use Rattle.gl_numbers.specs.declared.kinds.Kind.TheVariants as kind
use Rattle.object_names.specs.Objects as Names
use Rattle.buffer_store.specs.declared.content.Content as Contents
use Rattle.buffer_store.specs.Content.{size_of, bytes_of, buffer_of}
use Rattle.buffer_store.specs.StoredBuffer.{new_stored, with_first, with_bytes}
use Rattle.buffer_store.specs.Stored.{Shelf, Stored, changed}
use Rattle.buffer_store.specs.Rules as store
use Rattle.attrib_state.specs.Attributes.{Attributes}
use Rattle.attrib_state.specs.Effects as attribs
use Rattle.call_records.specs.declared.buffer_calls.Fill.{Fill}
use Rattle.call_records.specs.declared.buffer_calls.Fill.TheVariants.{Size, Bytes}
use Rattle.gl_model.specs.Buffers.{Buffer, view_of, take_target, take_data, patch}
use Rattle.gl_model.specs.BufferState.{BufferState, changed_buffer, make_buffer, drop_buffer, fill_buffer, patch_buffer, view_at, bound_view}
use Rattle.gl_model.specs.PageState.{PageState, is_live, new_object, holders}
use Rattle.gl_context.specs.Row.{refusal_of}
use Rattle.gl_context.specs.ObjectRows.{create_row, delete_row, next_handle}
use Rattle.call_records.specs.declared.object_calls.ObjectKind.TheVariants as object
use Rattle.gl_context.specs.BufferRows.{bind_row, data_row, sub_data_row, fill_rules, content_of}
use Rattle.gl_context.specs.Filled.{Fills}
use Rattle.gl_context.specs.Stands.{Kept, Keeps, KeepsBuffers, stored_buffer, IsSoundBuffer, AreSoundBuffers, IsSound}
use Rattle.gl_context.proofs.Keeping.{Stores, stores-make, stores-drop, stores-changed, stores-same, stores-if_bound, stores-same_bound, bound-changed_bound, view-stored, bound_view-stored, names-made, names-marked}
use Rattle.gl_context.proofs.Parts.{keeps-attributes, keeps-buffers, keeps-objects}
use Rattle.gl_context.proofs.Sounding.{first-some, length-patch}

-- what isn't there is none
none-of : (b : Option Buffer) → is_some b ≡ false → b ≡ None
none-of None e = refl
none-of (Some b) e = absurd cc

-- null has no buffer
pub contents-null : (w : PageState) → IsSound w → w.buffers.contents 0 ≡ None
contents-null w sound = none-of (w.buffers.contents 0) (sound.objects.buffers 0)

-- the rules see the same of what a handle binds
view-bound : (stored : Stored) (s : BufferState) (handle : ℕ) → KeepsBuffers stored s → s.contents 0 ≡ None
    → store.view_at stored (non_zero handle) ≡ view_at s handle
view-bound stored s handle k none =
    elim (eqb_tells handle 0) [
      | inl null ↦ rw null.0 (sym (ap (option_map view_of) (ap s.contents null.1 ∙ none)))
      | inr given ↦ rw given.0 (view-stored stored s handle k)
    ]

-- how a buffer that takes its target is stored
stored-first : (t : BufferTarget) (first : Option BufferTarget) (usage : Usage) (bytes : List ℕ) → (first ≡ None → bytes ≡ []) → is_other t first ≡ false
    → with_first t (stored_buffer (record { first_target = first; usage = usage; bytes = bytes })) ≡ stored_buffer (take_target (Some t) (record { first_target = first; usage = usage; bytes = bytes }))
stored-first Array None usage bytes none other = refl
stored-first ElementArray None usage bytes none other = let no : bytes ≡ [] = none refl in rw no refl
stored-first Array (Some Array) usage bytes none other = refl
stored-first Array (Some ElementArray) usage bytes none other = absurd cc
stored-first ElementArray (Some Array) usage bytes none other = absurd cc
stored-first ElementArray (Some ElementArray) usage bytes none other = refl

stored-taken : (t : BufferTarget) (b : Option Buffer) → IfSome b IsSoundBuffer → option_map_or (λ v. is_other t v.first_target) (option_map view_of b) false ≡ false
    → IfSome b (λ b. with_first t (stored_buffer b) ≡ stored_buffer (take_target (Some t) b))
stored-taken t None sound other = tt
stored-taken t (Some b) sound other = stored-first t b.first_target b.usage b.bytes sound.unbound other

-- the stored buffers after one was bound
stores-bind : (shelf : Shelf) (s : BufferState) (t : BufferTarget) (handle : ℕ) → Stores shelf s.contents → s.contents 0 ≡ None
    → IfSome (s.contents handle) (λ b. with_first t (stored_buffer b) ≡ stored_buffer (take_target (Some t) b))
    → Stores (changed shelf (non_zero handle) (with_first t)) (changed_buffer (take_target (Some t)) handle s).contents
stores-bind shelf s t handle stores none taken =
    elim (eqb_tells handle 0) [
      | inl null ↦
          let no : IfSome (s.contents handle) (λ b. stored_buffer b ≡ stored_buffer (take_target (Some t) b)) = rw (null.1, none) tt in
          rw null.0 (stores-same shelf s handle (take_target (Some t)) stores no)
      | inr given ↦ rw given.0 (stores-changed shelf s handle (with_first t) (take_target (Some t)) stores taken)
    ]

-- bindBuffer
pub acts-bind : (kept : Kept) (w : PageState) (t : BufferTarget) (target handle : ℕ) (bound : Option ℕ) (new : Stored) → Keeps kept w → IsSound w
    → buffer_target_of target ≡ Some t → (no_such_buffer handle (is_some (w.buffers.contents handle))).applies ≡ false → bound ≡ non_zero handle
    → first_refusal (store.bind_rules kept.buffers t bound) ≡ None → new ≡ store.bound_to_target kept.buffers t bound
    → (refusal_of (bind_row w target handle) ≡ None) × Keeps (record kept { buffers = new }) (bind_row w target handle).next
acts-bind kept w t target handle bound new k sound is there named judged after =
    let none = contents-null w sound in
    let judged' : first_refusal (store.bind_rules kept.buffers t (non_zero handle)) ≡ None = subst (λ (b : Option ℕ). first_refusal (store.bind_rules kept.buffers t b) ≡ None) named judged in
    let apart : option_map_or (λ v. is_other t v.first_target) (store.view_at kept.buffers (non_zero handle)) false ≡ false = (passed (store.bind_rules kept.buffers t (non_zero handle)) judged').0 in
    let other : option_map_or (λ v. is_other t v.first_target) (view_at w.buffers handle) false ≡ false =
    ap (λ (v : Option BufferView). option_map_or (λ v. is_other t v.first_target) v false) (sym (view-bound kept.buffers w.buffers handle k.buffers none)) ∙ apart in
    let taken = stored-taken t (w.buffers.contents handle) (sound.buffers.each handle) other in
    let after' : new ≡ store.bound_to_target kept.buffers t (non_zero handle) = after ∙ ap (store.bound_to_target kept.buffers t) named in (
      rw is (rw there (rw other refl)),
      rw after' (rw is (keeps-buffers kept w _ _ k (record {
        each = stores-bind kept.buffers.buffers w.buffers t handle k.buffers.each none taken;
        bound = ap (bind (Some t) (non_zero handle)) k.buffers.bound;
      }))),
    )

-- what is bound has a first target
bound-first : (s : BufferState) (target : ℕ) (t : BufferTarget) (bound : Option ℕ) → bound_to s.bound target ≡ bound → buffer_target_of target ≡ Some t → AreSoundBuffers s
    → IfSome (option_and_then s.contents bound) (λ b. b.first_target ≡ Some t)
bound-first s target t bound here is sound =
    if_some (option_and_then s.contents bound) (λ one found. first-some s target t is sound one (ap (option_and_then s.contents) here ∙ found))
  where
    if_some : {t : BufferTarget} (b : Option Buffer) → ((one : Buffer) → b ≡ Some one → one.first_target ≡ Some t) → IfSome b (λ b. b.first_target ≡ Some t)
    if_some None all = tt
    if_some (Some b) all = all b refl

-- the size of what fills a buffer, and its bytes
filling-bytes : (fill : Fill) (filling : Contents.Content) → Fills fill (Some filling) → bytes_of filling ≡ content_of fill
filling-bytes (Size size) filling fills = ap bytes_of fills.1
filling-bytes (Bytes bytes) filling fills = ap bytes_of fills

filling-size : (fill : Fill) (filling : Contents.Content) → Fills fill (Some filling) → size_of filling ≡ length (content_of fill)
filling-size (Size size) filling fills = ap size_of fills.1 ∙ sym (length-replicate (whole size) 0)
filling-size (Bytes bytes) filling fills = ap size_of fills

-- how a buffer with new bytes is stored
stored-filled : (t : BufferTarget) (u : Usage) (usage : ℕ) (fill : Fill) (filling : Contents.Content) (b : Option Buffer) → IfSome b (λ b. b.first_target ≡ Some t)
    → usage_of usage ≡ Some u → Fills fill (Some filling) → IfSome b (λ b. buffer_of t filling u ≡ stored_buffer (take_data usage (content_of fill) b))
stored-filled t u usage fill filling None first is fills = tt
stored-filled Array u usage fill filling (Some b) first is fills = rw (first, is, filling-size fill filling fills) refl
stored-filled ElementArray u usage fill filling (Some b) first is fills = rw (first, is, filling-size fill filling fills, filling-bytes fill filling fills) refl

-- nothing refuses bufferData where the store refuses nothing
unrefused-data : (w : PageState) (stored : Stored) (t : BufferTarget) (u : Usage) (target usage : ℕ) (fill : Fill) (filling : Contents.Content) → KeepsBuffers stored w.buffers
    → buffer_target_of target ≡ Some t → usage_of usage ≡ Some u → Fills fill (Some filling) → first_refusal (store.data_rules stored t filling) ≡ None
    → first_refusal (fill_rules w.buffers target usage fill) ≡ None
unrefused-data w stored t u target usage (Size size) filling k is used fills judged =
    let bound : not (is_some (store.bound_view stored t)) ≡ false = (passed (store.data_rules stored t filling) judged).1.0 in
    let here : not (is_some (bound_view w.buffers target)) ≡ false = ap (λ (v : Option BufferView). not (is_some v)) (sym (bound_view-stored stored w.buffers t target k is)) ∙ bound in
    passes (fill_rules w.buffers target usage (Size size)) (ap (λ (o : Option BufferTarget). not (is_some o)) is, (ap (λ (o : Option Usage). not (is_some o)) used, (fills.0, (here, tt))))
unrefused-data w stored t u target usage (Bytes bytes) filling k is used fills judged =
    let bound : not (is_some (store.bound_view stored t)) ≡ false = (passed (store.data_rules stored t filling) judged).1.0 in
    let here : not (is_some (bound_view w.buffers target)) ≡ false = ap (λ (v : Option BufferView). not (is_some v)) (sym (bound_view-stored stored w.buffers t target k is)) ∙ bound in
    passes (fill_rules w.buffers target usage (Bytes bytes)) (ap (λ (o : Option BufferTarget). not (is_some o)) is, (ap (λ (o : Option Usage). not (is_some o)) used, (here, tt)))

-- bufferData
pub acts-data : (kept : Kept) (w : PageState) (t : BufferTarget) (u : Usage) (target usage : ℕ) (fill : Fill) (filling : Contents.Content) (new : Stored) → Keeps kept w → IsSound w
    → buffer_target_of target ≡ Some t → usage_of usage ≡ Some u → Fills fill (Some filling) → first_refusal (store.data_rules kept.buffers t filling) ≡ None
    → new ≡ store.filled kept.buffers t filling u
    → (refusal_of (data_row w target usage fill) ≡ None) × Keeps (record kept { buffers = new }) (data_row w target usage fill).next
acts-data kept w t u target usage fill filling new k sound is used fills judged after =
    let here : bound_to w.buffers.bound target ≡ binding w.buffers.bound t = ap (option_and_then (binding w.buffers.bound)) is in
    let bound : binding kept.buffers.bound t ≡ binding w.buffers.bound t = ap (λ (b : Bindings). binding b t) k.buffers.bound in
    let filled = stored-filled t u usage fill filling (option_and_then w.buffers.contents (binding w.buffers.bound t)) (bound-first w.buffers target t (binding w.buffers.bound t) here is sound.buffers) used fills in
    let stores = stores-if_bound kept.buffers.buffers w.buffers (binding w.buffers.bound t) (λ _. buffer_of t filling u) (take_data usage (content_of fill)) k.buffers.each filled in (
      unrefused-data w kept.buffers t u target usage fill filling k.buffers is used fills judged,
      rw after (keeps-buffers kept w (store.filled kept.buffers t filling u) (fill_buffer target usage (content_of fill) w.buffers) k (record {
        each = rw (bound, here) stores;
        bound = k.buffers.bound ∙ sym (bound-changed_bound (take_data usage (content_of fill)) target w.buffers);
      })),
    )

-- how a buffer of which some bytes were replaced is stored
stored-patched_array : (at : ℕ) (part : List ℕ) (b : Option Buffer) → IfSome b (λ b. b.first_target ≡ Some Array) → IfSome b (λ b. at + length part ≤ length b.bytes)
    → IfSome b (λ b. stored_buffer b ≡ stored_buffer (patch at part b))
stored-patched_array at part None first within = tt
stored-patched_array at part (Some b) first within = rw (first, length-patch at part b within) refl

stored-patched_element : (at : ℕ) (part : List ℕ) (b : Option Buffer) → IfSome b (λ b. b.first_target ≡ Some ElementArray) → IfSome b (λ b. at + length part ≤ length b.bytes)
    → IfSome b (λ b. with_bytes at part (stored_buffer b) ≡ stored_buffer (patch at part b))
stored-patched_element at part None first within = tt
stored-patched_element at part (Some b) first within = rw (first, length-patch at part b within) refl

-- bytes that don't end past the end are within
within-some : (end : ℕ) (b : Option Buffer) → option_map_or (λ v. nat_lt v.size end) (option_map view_of b) false ≡ false → IfSome b (λ b. end ≤ length b.bytes)
within-some end None e = tt
within-some end (Some b) e = ltb-false (length b.bytes) end e

view-and_then : (s : BufferState) (bound : Option ℕ) → option_and_then (view_at s) bound ≡ option_map view_of (option_and_then s.contents bound)
view-and_then s None = refl
view-and_then s (Some h) = refl

-- the bytes of a bufferSubData that nothing refuses are within what is bound
pub within-bound : (s : BufferState) (target end : ℕ) → option_map_or (λ v. nat_lt v.size end) (bound_view s target) false ≡ false
    → IfSome (option_and_then s.contents (bound_to s.bound target)) (λ b. end ≤ length b.bytes)
within-bound s target end e =
    within-some end (option_and_then s.contents (bound_to s.bound target))
    (ap (λ (v : Option BufferView). option_map_or (λ v. nat_lt v.size end) v false) (sym (view-and_then s (bound_to s.bound target))) ∙ e)

-- the rules of bufferSubData, none of which applies
pub record PartRules (s : BufferState) (t : BufferTarget) (target : ℕ) (offset : ℤ) (part : List ℕ) : Type 0 where
  pub positive : is_negative offset ≡ false
  pub bound : not (is_some (bound_view s target)) ≡ false
  pub within : option_map_or (λ v. nat_lt v.size (whole offset + length part)) (bound_view s target) false ≡ false

part-rules : (stored : Stored) (s : BufferState) (t : BufferTarget) (target : ℕ) (offset : ℤ) (part : List ℕ) → KeepsBuffers stored s → buffer_target_of target ≡ Some t
    → first_refusal (store.sub_data_rules stored t offset part) ≡ None → PartRules s t target offset part
part-rules stored s t target offset part k is judged =
    let none = passed (store.sub_data_rules stored t offset part) judged in
    let same = sym (bound_view-stored stored s t target k is) in
    record {
      positive = none.0;
      bound = ap (λ (v : Option BufferView). not (is_some v)) same ∙ none.1.0;
      within = ap (λ (v : Option BufferView). option_map_or (λ v. nat_lt v.size (whole offset + length part)) v false) same ∙ none.1.1.0;
    }

-- the stored buffers after bytes were replaced
keeps-patch : (kept : Kept) (w : PageState) (t : BufferTarget) (target : ℕ) (offset : ℤ) (part : List ℕ) → Keeps kept w → IsSound w → buffer_target_of target ≡ Some t
    → PartRules w.buffers t target offset part
    → KeepsBuffers (store.patched kept.buffers t offset part) (patch_buffer target (whole offset) part w.buffers)
keeps-patch kept w Array target offset part k sound is rules =
    let here : bound_to w.buffers.bound target ≡ w.buffers.bound.array = ap (option_and_then (binding w.buffers.bound)) is in
    let within = within-bound w.buffers target (whole offset + length part) rules.within in
    let same = stored-patched_array (whole offset) part (option_and_then w.buffers.contents (bound_to w.buffers.bound target)) (bound-first w.buffers target Array (bound_to w.buffers.bound target) refl is sound.buffers) within in
    record {
      each = stores-same_bound kept.buffers.buffers w.buffers (bound_to w.buffers.bound target) (patch (whole offset) part) k.buffers.each same;
      bound = k.buffers.bound ∙ sym (bound-changed_bound (patch (whole offset) part) target w.buffers);
    }
keeps-patch kept w ElementArray target offset part k sound is rules =
    let here : bound_to w.buffers.bound target ≡ w.buffers.bound.element_array = ap (option_and_then (binding w.buffers.bound)) is in
    let bound : kept.buffers.bound.element_array ≡ w.buffers.bound.element_array = ap (λ (b : Bindings). b.element_array) k.buffers.bound in
    let within = within-bound w.buffers target (whole offset + length part) rules.within in
    let same = stored-patched_element (whole offset) part (option_and_then w.buffers.contents (bound_to w.buffers.bound target)) (bound-first w.buffers target ElementArray (bound_to w.buffers.bound target) refl is sound.buffers) within in
    let stores = stores-if_bound kept.buffers.buffers w.buffers (bound_to w.buffers.bound target) (with_bytes (whole offset) part) (patch (whole offset) part) k.buffers.each same in
    let named : kept.buffers.bound.element_array ≡ bound_to w.buffers.bound target = bound ∙ sym here in
    record {
      each = rw named stores;
      bound = k.buffers.bound ∙ sym (bound-changed_bound (patch (whole offset) part) target w.buffers);
    }

-- nothing refuses bufferSubData where none of its rules applies
pub unrefused-part : (w : PageState) (t : BufferTarget) (target : ℕ) (offset : ℤ) (part : Bor (List ℕ)) → buffer_target_of target ≡ Some t
    → PartRules w.buffers t target offset part.now → refusal_of (sub_data_row w target offset part) ≡ None
unrefused-part w t target offset part is rules =
    passes (sub_data_row w target offset part).rules (ap (λ (o : Option BufferTarget). not (is_some o)) is, (rules.positive, (rules.bound, (rules.within, tt))))

-- bufferSubData
pub acts-sub_data : (kept : Kept) (w : PageState) (t : BufferTarget) (target : ℕ) (offset : ℤ) (part : List ℕ) (new : Stored) → Keeps kept w → IsSound w
    → buffer_target_of target ≡ Some t → first_refusal (store.sub_data_rules kept.buffers t offset part) ≡ None
    → new ≡ store.patched kept.buffers t offset part
    → PartRules w.buffers t target offset part × Keeps (record kept { buffers = new }) (record w { buffers = patch_buffer target (whole offset) part w.buffers })
acts-sub_data kept w t target offset part new k sound is judged after =
    let rules = part-rules kept.buffers w.buffers t target offset part k.buffers is judged in (
      rules,
      rw after (keeps-buffers kept w _ _ k (keeps-patch kept w t target offset part k sound is rules)),
    )

-- createBuffer
pub acts-create : (kept : Kept) (w : PageState) (room : Option Kind) → Keeps kept w → IsSound w → (length kept.names.objects ≡ 1048576 → ⊥)
    → (refusal_of (create_row w) ≡ None) × Keeps (record kept {
      names = record { objects = kept.names.objects ++ Names.new_object kind.Buffer ∷ []; room = room };
      buffers = record kept.buffers { buffers = insert kept.buffers.buffers (Names.next_handle kept.names) new_stored };
    }) (create_row w).next
acts-create kept w room k sound unspent =
    let count = k.names.count in
    let few = sound.objects.count in
    let next : Names.next_handle kept.names ≡ next_handle w = ap (λ n. n + 1) count in
    let stored : Stored = record kept.buffers { buffers = insert kept.buffers.buffers (Names.next_handle kept.names) new_stored } in
    let bufs : KeepsBuffers stored (make_buffer (next_handle w) w.buffers) = record {
      each = rw next (stores-make kept.buffers.buffers w.buffers (next_handle w) k.buffers.each);
      bound = k.buffers.bound;
    } in (
      elim (leb_tells 1048576 (length w.objects)) [
        | inl all ↦ absurd (unspent (omega (arith, few, count, all.1)))
        | inr left ↦ rw left.0 refl
      ],
      keeps-objects kept w _ stored _ _ k (names-made kept.names w.objects (holders w) (new_object kind.Buffer) room k.names refl) bufs,
    )

-- deleteBuffer of a live buffer
pub acts-delete : (kept : Kept) (w : PageState) (room : Option Kind) (handle : ℕ) → Keeps kept w → is_live w kind.Buffer handle ≡ true
    → Keeps (record kept {
      names = record { objects = changed_object kept.names.objects handle Names.marked; room = room };
      buffers = store.without_buffer kept.buffers handle;
      attributes = attribs.without_buffer kept.attributes handle;
    }) (delete_row w object.Buffer handle).next
acts-delete kept w room handle k live =
    let bufs : KeepsBuffers (store.without_buffer kept.buffers handle) (drop_buffer handle w.buffers) = record {
      each = stores-drop kept.buffers.buffers w.buffers handle k.buffers.each;
      bound = ap (unbind handle) k.buffers.bound;
    } in
    let named = names-marked kept.names w.objects (holders w) handle room k.names in
    let objects = keeps-objects kept w _ (store.without_buffer kept.buffers handle) _ _ k named bufs in
    rw live (keeps-attributes _ _ _ _ objects (ap (λ (a : Attributes). attribs.without_buffer a handle) k.attributes))
