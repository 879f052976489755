-- The driver follows each row that acts, the page stays sound, and the commands fit.
use Rattle.std.proofs.Common.{◌≡◌, ℕ, ℤ, zero, suc, cond, ◌+◌, ◌-◌, ◌≤◌, ◌<◌, ◌^◌, Bool, true, false, not, Option, Some, None, IfSome, List, [], ◌∷◌, ◌++◌, length, take, drop, replicate, refl, sym, ap, subst, ◌∙◌, arith, inl, inr, lit<, append-nil, length-append}
use Rattle.std.specs.Prelude.{nat_eq, nat_lt, is_some, if◌then◌else◌, ◌==◌, ◌&&◌, All}
use Rattle.std.specs.Borrow.{Bor}
use Rattle.std.specs.Option.{option_map, option_and_then, option_map_or, option_to_list}
use Rattle.std.proofs.lemmas.Bool.{ne_eqb, ltb-false, le-ltb, leb-false, or_parts}
use Rattle.std.proofs.lemmas.Bool.Decides.{eqb_tells}
use Rattle.std.proofs.lemmas.List.{length-replicate, drop_all, take-append-drop}
use Rattle.std.proofs.lemmas.Option.{slice_get_past}
use Rattle.std.proofs.lemmas.List.Elements.{All-nil}
use Rattle.std.proofs.Math.Bool.{and-false}
use Rattle.gl_numbers.specs.BufferBindings.{Bindings, bound_to}
use Rattle.gl_numbers.specs.BufferRules.{BufferView, is_other, is_negative, whole}
use Rattle.gl_numbers.specs.BufferWords.{buffer_target_of, usage_of}
use Rattle.gl_numbers.specs.ByHandle.{object_at, changed}
use Rattle.gl_numbers.specs.Refusals.{first_refusal}
use Rattle.gl_numbers.proofs.ByHandle.{object_at-made, object_at-changed}
use Rattle.gl_numbers.proofs.Places.{placed}
use Rattle.gl_numbers.proofs.Refusing.{passes, passed}
use Rattle.gl_numbers.specs.declared.buffer_words.BufferTarget.{BufferTarget}
use Rattle.gl_numbers.specs.declared.kinds.Kind.TheVariants as kind
use Rattle.call_records.specs.declared.calls.Call.TheVariants as call
use Rattle.call_records.specs.declared.buffer_calls.BufferCall.TheVariants as buffer
use Rattle.call_records.specs.declared.buffer_calls.Fill.{Fill}
use Rattle.call_records.specs.declared.buffer_calls.Fill.TheVariants.{Size, Bytes}
use Rattle.call_records.specs.declared.object_calls.ObjectKind.{ObjectKind}
use Rattle.call_records.specs.declared.object_calls.ObjectKind.TheVariants as object
use Rattle.call_records.specs.Records.{Fits}
use Rattle.command_stream.specs.declared.command.Command.{Command}
use Rattle.command_stream.specs.declared.command.Command.TheVariants as command
use Rattle.command_stream.specs.declared.object_commands.ObjectCommand.TheVariants.{MakeBuffer, DropBuffer}
use Rattle.command_stream.specs.declared.buffer_commands.BufferCommand.TheVariants.{BindBuffer, BufferSize, BufferBytes}
use Rattle.command_stream.specs.Commands as Stream
use Rattle.gl_model.specs.Buffers.{Buffer, new_buffer, view_of, take_target, take_data, patch}
use Rattle.gl_model.specs.BufferState.{BufferState, changed_buffer, changed_if_bound, changed_bound, make_buffer, drop_buffer, bind_buffer, fill_buffer, patch_buffer, view_at, bound_view}
use Rattle.gl_model.specs.BufferRefusals.{bind_rules, size_rules, part_rules}
use Rattle.gl_model.specs.PageState.{PageState, Object, mark, same_kind, is_live, new_object}
use Rattle.gl_model.specs.DriverState.{DriverState}
use Rattle.gl_model.specs.DriverStep as Driver
use Rattle.gl_model.specs.Replay.{clean}
use Rattle.gl_model.proofs.Replaying.{replay-none, replay-one, replay-two, fault-none}
use Rattle.gl_context.specs.Row.{Row, refusal_of}
use Rattle.gl_context.specs.ObjectRows.{create_row, delete_row, drops, deleted, next_handle}
use Rattle.gl_context.specs.BufferRows.{bind_row, data_row, sub_data_row, fill_rules, bound_name}
use Rattle.gl_context.specs.Follows.{Follows, IsGood}
use Rattle.gl_context.specs.Stands.{IsSound, AreSoundObjects, IsSoundBuffer, Agrees, AgreesOnBuffers, buffer_name}
use Rattle.gl_context.proofs.Parts.{sound-objects, agrees-buffers}
use Rattle.gl_context.proofs.Agreeing.{agrees-with, agrees-drop, agrees-bind, agrees-bound, named, name-zero, bound_view-agrees}
use Rattle.gl_context.proofs.Sounding.{sound-make, sound-drop, sound-bind, sound-fill, sound-patch}
use Rattle.gl_context.proofs.Keeping.{length-changed, bound-changed_bound}
use Rattle.gl_context.proofs.Acting.{contents-null, within-bound}
use Rattle.gl_context.proofs.SentBytes.{fits_make, fits_drop, fits_bind, fits_size, fits_bytes, bytes_fit, part_fit, data_words, part_words}

-- one command, and one before others
all-cons : (c : Command) (cs : List Command) → Stream.Fits c → All Stream.Fits cs → All Stream.Fits (c ∷ cs)
all-cons c cs one rest zero d within = one
all-cons c cs one rest (suc k) d within = rest k d (omega arith)

all-one : (c : Command) → Stream.Fits c → All Stream.Fits (c ∷ [])
all-one c one = all-cons c [] one (All-nil Stream.Fits)

-- a call that sends nothing and makes nothing, where the page's next state is sound and agrees with the driver's as it is
pub good-quiet : (g : DriverState) (row : Row) → IsSound row.next → Agrees row.next g → row.commands ≡ [] → row.made ≡ None → IsGood g row
good-quiet g row sound agrees silent none = record {
  sound = sound;
  fit = rw silent (All-nil Stream.Fits);
  follows = rw (silent, none) (record { driver = g; replayed = replay-none g; agrees = agrees });
}

-- one command that isn't refused, and that makes nothing
follows-one : (g : DriverState) (c : Command) (w : PageState) → Driver.refusal g c ≡ None → Driver.outside g c ≡ false → Driver.shot g c ≡ None
    → Agrees w (Driver.effect g c) → Follows g (c ∷ []) [] w
follows-one g c w e inside none agrees = record {
  driver = Driver.effect g c;
  replayed = replay-one g c (fault-none g c e inside) ∙ (λ i. clean (Driver.effect g c) (option_to_list (none i)) (c ∷ []));
  agrees = agrees;
}

-- two commands that aren't refused, and that make nothing
follows-two : (g : DriverState) (first second : Command) (w : PageState) → Driver.refusal g first ≡ None → Driver.outside g first ≡ false → Driver.shot g first ≡ None
    → Driver.refusal (Driver.effect g first) second ≡ None → Driver.outside (Driver.effect g first) second ≡ false → Driver.shot (Driver.effect g first) second ≡ None
    → Agrees w (Driver.effect (Driver.effect g first) second) → Follows g (first ∷ second ∷ []) [] w
follows-two g first second w e inside none e' inside' none' agrees = record {
  driver = Driver.effect (Driver.effect g first) second;
  replayed = replay-two g first second (fault-none g first e inside) (fault-none (Driver.effect g first) second e' inside')
      ∙ (λ i. clean (Driver.effect (Driver.effect g first) second) (option_to_list (none i) ++ option_to_list (none' i)) (first ∷ second ∷ []));
  agrees = agrees;
}

-- the next handle has no object yet
next-absent : (objects : List Object) → object_at objects (length objects + 1) ≡ None
next-absent objects =
    let given : nat_eq (length objects + 1) 0 ≡ false = ne_eqb _ _ (λ e. omega arith) in
    let place : length objects + 1 - 1 ≡ length objects = omega arith in
    rw (given, place) (slice_get_past objects (length objects) (omega arith))

-- what isn't there is none
none-of : (b : Option Buffer) → is_some b ≡ false → b ≡ None
none-of None e = refl
none-of (Some b) e = absurd cc

next-free : (w : PageState) → IsSound w → w.buffers.contents (next_handle w) ≡ None
next-free w sound =
    none-of (w.buffers.contents (next_handle w)) (sound.objects.buffers (next_handle w)
    ∙ ap (λ (o : Option Object). option_map_or (λ o. same_kind kind.Buffer o.kind && not o.marked) o false) (next-absent w.objects))

-- whether an object is a live buffer
live : Option Object → Bool
live o = option_map_or (λ o. same_kind kind.Buffer o.kind && not o.marked) o false

-- createBuffer
pub good-create : (w : PageState) (g : DriverState) → IsSound w → Agrees w g → refusal_of (create_row w) ≡ None → IsGood g (create_row w)
unfolding live
good-create w g sound agrees unrefused =
    let left = leb-false 1048576 (length w.objects) (passed (create_row w).rules unrefused).0 in
    let free = next-free w sound in
    let name = buffer_name (next_handle w) in
    let apart : nat_eq name 0 ≡ false = ne_eqb name 0 (λ e. omega arith) in
    let unused : g.buffers.contents name ≡ None = agrees.buffers.made (next_handle w) ∙ free in
    let objects : AreSoundObjects (w.objects ++ new_object kind.Buffer ∷ []) (make_buffer (next_handle w) w.buffers) = record {
      count = omega (arith, left, length-append w.objects (new_object kind.Buffer ∷ []));
      buffers = λ h. elim (eqb_tells h (next_handle w)) [
        | inl same ↦ rw same.0 (sym (ap live (object_at-made w.objects (new_object kind.Buffer) h ∙ ap (λ b. cond b (Some (new_object kind.Buffer)) (object_at w.objects h)) same.0)))
        | inr other ↦ rw other.0 (sound.objects.buffers h ∙ sym (ap live (object_at-made w.objects (new_object kind.Buffer) h ∙ ap (λ b. cond b (Some (new_object kind.Buffer)) (object_at w.objects h)) other.0)))
      ];
    } in
    record {
      sound = sound-objects w _ _ sound objects (sound-make (next_handle w) w.buffers free sound.buffers);
      fit = all-one _ (fits_make name (omega (arith, left)));
      follows = follows-one g (command.Object (MakeBuffer name)) (create_row w).next (rw (apart, unused) refl) refl refl
          (agrees-buffers w g _ _ agrees (agrees-with (next_handle w) (Some new_buffer) w.buffers g.buffers agrees.buffers));
    }

-- an object that was marked is no live buffer
live-marked : (o : Option Object) → live (option_map mark o) ≡ false
unfolding live
live-marked None = refl
live-marked (Some o) = and-false (same_kind kind.Buffer o.kind)

-- the object of a handle that is live
record IsOne (w : PageState) (handle : ℕ) : Type 0 where
  one : Object
  is : object_at w.objects handle ≡ Some one

live-one : (w : PageState) (handle : ℕ) → is_live w kind.Buffer handle ≡ true → IsOne w handle
live-one w handle e =
    elim (object_at w.objects handle) as (λ (o : Option Object). object_at w.objects handle ≡ o → option_map_or (λ o. same_kind kind.Buffer o.kind && not o.marked) o false ≡ true → IsOne w handle) [
      | None ↦ λ at no. absurd cc
      | Some o ↦ λ at is. record { one = o; is = at }
    ] refl e

-- a handle that is live is small
live-small : (w : PageState) (handle : ℕ) → IsSound w → is_live w kind.Buffer handle ≡ true → handle ≤ 1048576
live-small w handle sound e =
    let one = live-one w handle e in
    let place = placed w.objects handle one.one one.is in
    omega (arith, place.within, place.positive, sound.objects.count)

-- deleteBuffer of a live buffer
good-deleted : (w : PageState) (g : DriverState) (handle : ℕ) → IsSound w → Agrees w g → is_live w kind.Buffer handle ≡ true
    → IsSound (deleted object.Buffer handle (record w { objects = changed w.objects handle mark }))
    × All Stream.Fits (drops object.Buffer handle)
    × Follows g (drops object.Buffer handle) [] (deleted object.Buffer handle (record w { objects = changed w.objects handle mark }))
unfolding live
good-deleted w g handle sound agrees e =
    let small = live-small w handle sound e in
    let there : is_some (g.buffers.contents (buffer_name handle)) ≡ true = ap is_some (agrees.buffers.made handle) ∙ sound.objects.buffers handle ∙ e in
    let count = length-changed w.objects handle mark in
    let few = sound.objects.count in
    let objects : AreSoundObjects (changed w.objects handle mark) (drop_buffer handle w.buffers) = record {
      count = omega (arith, count, few);
      buffers = λ h. elim (eqb_tells h handle) [
        | inl same ↦ rw same.0 (sym (ap live (object_at-changed w.objects handle mark h ∙ ap (λ b. cond b (option_map mark (object_at w.objects handle)) (object_at w.objects h)) same.0) ∙ live-marked (object_at w.objects handle)))
        | inr other ↦ rw other.0 (sound.objects.buffers h ∙ sym (ap live (object_at-changed w.objects handle mark h ∙ ap (λ b. cond b (option_map mark (object_at w.objects handle)) (object_at w.objects h)) other.0)))
      ];
    } in (
      sound-objects w _ _ sound objects (sound-drop handle w.buffers sound.buffers),
      all-one _ (fits_drop (buffer_name handle) (omega (arith, small))),
      follows-one g (command.Object (DropBuffer (buffer_name handle))) _ (rw there refl) refl refl
          (agrees-buffers w g _ _ agrees (agrees-drop handle w.buffers g.buffers agrees.buffers)),
    )

-- deleteBuffer
pub good-delete : (w : PageState) (g : DriverState) (kind' : ObjectKind) (handle : ℕ) → IsSound w → Agrees w g → IsGood g (delete_row w kind' handle)
good-delete w g object.Buffer handle sound agrees =
    elim (is_live w kind.Buffer handle) as (λ (b : Bool). is_live w kind.Buffer handle ≡ b → IsGood g (delete_row w object.Buffer handle)) [
      | true ↦ λ e. let good = good-deleted w g handle sound agrees e in record { sound = rw e good.0; fit = rw e good.1; follows = rw e good.2 }
      | false ↦ λ e. record { sound = rw e sound; fit = rw e (All-nil Stream.Fits); follows = rw e (record { driver = g; replayed = replay-none g; agrees = agrees }) }
    ] refl

-- bindBuffer is refused by the driver where the page refuses it
bind-refusals : (w : PageState) (g : DriverState) (target handle : ℕ) → IsSound w → Agrees w g
    → first_refusal (bind_rules g.buffers target (bound_name handle)) ≡ first_refusal (bind_rules w.buffers target handle)
bind-refusals w g target handle sound agrees =
    rw (name-zero handle, named w.buffers g.buffers agrees.buffers (contents-null w sound) handle) refl

-- the name of a handle that may be bound is a word
bind-small : (w : PageState) (handle : ℕ) → IsSound w → (not (handle == 0) && not (is_some (w.buffers.contents handle))) ≡ false → bound_name handle < 2 ^ 32
bind-small w handle sound there =
    elim (eqb_tells handle 0) [
      | inl null ↦ rw null.0 (lit< tt)
      | inr given ↦
          let small = live-small w handle sound (sym (sound.objects.buffers handle) ∙ second-false (handle == 0) (is_some (w.buffers.contents handle)) there given.0) in
          rw given.0 (omega (arith, small))
    ]
  where
    second-false : (x y : Bool) → (not x && not y) ≡ false → x ≡ false → y ≡ true
    second-false true y e f = absurd cc
    second-false false true e f = refl
    second-false false false e f = absurd cc

-- the target of a word that is one
record IsTarget (target : ℕ) : Type 0 where
  one : BufferTarget
  is : buffer_target_of target ≡ Some one

target-one : (target : ℕ) → not (is_some (buffer_target_of target)) ≡ false → IsTarget target
target-one target e =
    elim (buffer_target_of target) as (λ (t : Option BufferTarget). buffer_target_of target ≡ t → not (is_some t) ≡ false → IsTarget target) [
      | None ↦ λ at no. absurd cc
      | Some t ↦ λ at is. record { one = t; is = at }
    ] refl e

-- changes of buffers leave which of them are there, and so which objects are buffers
some-map : (change : Buffer → Buffer) (b : Option Buffer) → is_some (option_map change b) ≡ is_some b
some-map change None = refl
some-map change (Some b) = refl

some-changed : (change : Buffer → Buffer) (handle : ℕ) (s : BufferState) (h : ℕ) → is_some ((changed_buffer change handle s).contents h) ≡ is_some (s.contents h)
some-changed change handle s h =
    elim (eqb_tells h handle) [
      | inl same ↦ rw same.0 (some-map change (s.contents handle) ∙ ap (λ n. is_some (s.contents n)) (sym same.1))
      | inr other ↦ rw other.0 refl
    ]

some-if_bound : (change : Buffer → Buffer) (bound : Option ℕ) (s : BufferState) (h : ℕ) → is_some ((changed_if_bound change bound s).contents h) ≡ is_some (s.contents h)
some-if_bound change None s h = refl
some-if_bound change (Some handle) s h = some-changed change handle s h

objects-bound : (change : Buffer → Buffer) (target : ℕ) (given : List Object) (s : BufferState) → AreSoundObjects given s
    → AreSoundObjects given (changed_bound change target s)
objects-bound change target given s objects =
    record { count = objects.count; buffers = λ h. some-if_bound change (bound_to s.bound target) s h ∙ objects.buffers h }

-- bindBuffer
pub good-bind : (w : PageState) (g : DriverState) (target handle : ℕ) → IsSound w → Agrees w g → target < 2 ^ 32 → refusal_of (bind_row w target handle) ≡ None
    → IsGood g (bind_row w target handle)
good-bind w g target handle sound agrees word unrefused =
    let none = passed (bind_rules w.buffers target handle) unrefused in
    let t = target-one target none.0 in
    let other : option_map_or (λ v. is_other t.one v.first_target) (view_at w.buffers handle) false ≡ false =
    subst (λ (o : Option BufferTarget). option_map_or (λ t. option_map_or (λ v. is_other t v.first_target) (view_at w.buffers handle) false) o false ≡ false) t.is none.1.1.0 in
    let objects : AreSoundObjects w.objects (bind_buffer target handle w.buffers) =
    record { count = sound.objects.count; buffers = λ h. some-changed (take_target (buffer_target_of target)) handle w.buffers h ∙ sound.objects.buffers h } in
    record {
      sound = sound-objects w _ _ sound objects (sound-bind target handle t.one w.buffers t.is none.1.0 other sound.buffers);
      fit = all-one _ (fits_bind target (bound_name handle) word (bind-small w handle sound none.1.0));
      follows = follows-one g (command.Buffer (BindBuffer target (bound_name handle))) (bind_row w target handle).next
          (bind-refusals w g target handle sound agrees ∙ unrefused) refl refl
          (agrees-buffers w g _ _ agrees (agrees-bind target handle w.buffers g.buffers agrees.buffers (contents-null w sound)));
    }

-- the buffers after two changes of what is bound are those after one
twice : (f g h : Buffer → Buffer) → ((b : Buffer) → g (f b) ≡ h b) → (bound : Option ℕ) (s : BufferState) (k : ℕ)
    → (changed_if_bound g bound (changed_if_bound f bound s)).contents k ≡ (changed_if_bound h bound s).contents k
twice f g h e None s k = refl
twice f g h e (Some handle) s k =
    elim (eqb_tells k handle) [
      | inl same ↦ rw same.0 (rw (own-number handle) (map-twice f g h e (s.contents handle)))
      | inr other ↦ rw other.0 refl
    ]
  where
    own-number : (n : ℕ) → nat_eq n n ≡ true
    own-number n = elim (eqb_tells n n) [ inl same ↦ same.0 | inr other ↦ absurd (other.1 refl) ]

    map-twice : (f g h : Buffer → Buffer) → ((b : Buffer) → g (f b) ≡ h b) → (b : Option Buffer) → option_map g (option_map f b) ≡ option_map h b
    map-twice f g h e None = refl
    map-twice f g h e (Some b) = ap Some (e b)

-- a change that changes nothing
unchanged : (f : Buffer → Buffer) → ((b : Buffer) → f b ≡ b) → (bound : Option ℕ) (s : BufferState) (k : ℕ) → (changed_if_bound f bound s).contents k ≡ s.contents k
unchanged f e None s k = refl
unchanged f e (Some handle) s k =
    elim (eqb_tells k handle) [
      | inl same ↦ rw same.0 (map-same f e (s.contents handle) ∙ ap s.contents (sym same.1))
      | inr other ↦ rw other.0 refl
    ]
  where
    map-same : (f : Buffer → Buffer) → ((b : Buffer) → f b ≡ b) → (b : Option Buffer) → option_map f b ≡ b
    map-same f e None = refl
    map-same f e (Some b) = ap Some (e b)

-- buffers that are alike agree with the same
agrees-alike : (page page' driver : BufferState) → ((k : ℕ) → page'.contents k ≡ page.contents k) → page'.bound ≡ page.bound → AgreesOnBuffers page driver
    → AgreesOnBuffers page' driver
agrees-alike page page' driver same bound a = record {
  made = λ k. a.made k ∙ sym (same k);
  others = a.others;
  array = a.array ∙ ap (λ (b : Bindings). option_map buffer_name b.array) (sym bound);
  element_array = a.element_array ∙ ap (λ (b : Bindings). option_map buffer_name b.element_array) (sym bound);
}

-- zero bytes that are all replaced
patch-all : (usage : ℕ) (bytes : List ℕ) (b : Buffer) → patch 0 bytes (take_data usage (replicate (length bytes) 0) b) ≡ take_data usage bytes b
patch-all usage bytes b =
    let zeros : List ℕ = replicate (length bytes) 0 in
    let whole : length zeros ≡ length bytes = length-replicate (length bytes) 0 in
    let past : drop (0 + length bytes) zeros ≡ [] = drop_all (0 + length bytes) zeros (omega (arith, whole)) in
    let all : bytes ++ drop (0 + length bytes) zeros ≡ bytes = rw past (append-nil bytes) in
    ap (λ (l : List ℕ). record (take_data usage bytes b) { bytes = l }) all

-- no byte that is replaced
patch-none : (offset : ℕ) (part : List ℕ) (b : Buffer) → length part ≡ 0 → patch offset part b ≡ b
patch-none offset [] b none =
    let same : offset + 0 ≡ offset = omega arith in
    ap (λ (l : List ℕ). record b { bytes = l }) (ap (λ (i : ℕ). take offset b.bytes ++ drop i b.bytes) same ∙ take-append-drop offset b.bytes)
patch-none offset (x ∷ part) b none = absurd (omega arith)

-- what the rules see of what is bound after it was filled: something that has these bytes
filled-view : (usage : ℕ) (bytes : List ℕ) (bound : Option ℕ) (s : BufferState) → not (is_some (option_and_then (view_at s) bound)) ≡ false
    → (not (is_some (option_and_then (view_at (changed_if_bound (take_data usage bytes) bound s)) bound)) ≡ false)
    × (option_map_or (λ v. nat_lt v.size (length bytes)) (option_and_then (view_at (changed_if_bound (take_data usage bytes) bound s)) bound) false ≡ false)
filled-view usage bytes None s some = absurd cc
filled-view usage bytes (Some handle) s some = rw (own-number handle) (one (s.contents handle) some)
  where
    own-number : (n : ℕ) → nat_eq n n ≡ true
    own-number n = elim (eqb_tells n n) [ inl same ↦ same.0 | inr other ↦ absurd (other.1 refl) ]

    one : (b : Option Buffer) → not (is_some (option_map view_of b)) ≡ false
        → (not (is_some (option_map view_of (option_map (take_data usage bytes) b))) ≡ false)
        × (option_map_or (λ v. nat_lt v.size (length bytes)) (option_map view_of (option_map (take_data usage bytes) b)) false ≡ false)
    one None some = absurd cc
    one (Some b) some = (refl, le-ltb (length bytes) (length bytes) (omega arith))

-- no byte is as many zeros
zeros-none : (bytes : List ℕ) → length bytes ≡ 0 → replicate (length bytes) 0 ≡ bytes
zeros-none [] e = refl
zeros-none (b ∷ bytes) e = absurd (omega arith)

-- the bound buffer was changed on both sides, and its objects and buffers are sound
sound-filled : (w : PageState) (target usage : ℕ) (t : BufferTarget) (bytes : List ℕ) → buffer_target_of target ≡ Some t → length bytes ≤ 67108864 → IsSound w
    → IsSound (record w { buffers = fill_buffer target usage bytes w.buffers })
sound-filled w target usage t bytes is small sound =
    sound-objects w _ _ sound (objects-bound (take_data usage bytes) target w.objects w.buffers sound.objects) (sound-fill target usage t bytes w.buffers is small sound.buffers)

-- the driver takes the size of a bufferData that the page takes
size-unrefused : (w : PageState) (g : DriverState) (target usage size : ℕ) → Agrees w g → not (is_some (buffer_target_of target)) ≡ false
    → not (is_some (usage_of usage)) ≡ false → size ≤ 67108864 → not (is_some (bound_view w.buffers target)) ≡ false
    → first_refusal (size_rules g.buffers target usage size) ≡ None
size-unrefused w g target usage size agrees word used small bound =
    let bound' : not (is_some (bound_view g.buffers target)) ≡ false = ap (λ (v : Option BufferView). not (is_some v)) (bound_view-agrees target w.buffers g.buffers agrees.buffers) ∙ bound in
    passes (size_rules g.buffers target usage size) (word, (used, (le-ltb _ _ small, (bound', tt))))

-- bufferData with a size
good-size : (w : PageState) (g : DriverState) (target usage : ℕ) (size : ℤ) → IsSound w → Agrees w g → target < 2 ^ 32 → usage < 2 ^ 32
    → refusal_of (data_row w target usage (Size size)) ≡ None → IsGood g (data_row w target usage (Size size))
good-size w g target usage size sound agrees word word' unrefused =
    let none = passed (fill_rules w.buffers target usage (Size size)) unrefused in
    let t = target-one target none.0 in
    let parts = or_parts (is_negative size) _ none.1.1.0 in
    let small : whole size ≤ 67108864 = ltb-false 67108864 (whole size) parts.1 in
    let zeros : List ℕ = replicate (whole size) 0 in
    let counted : length zeros ≡ whole size = length-replicate (whole size) 0 in
    record {
      sound = sound-filled w target usage t.one zeros t.is (omega (arith, small, counted)) sound;
      fit = all-one _ (fits_size target usage (whole size) word word' (omega (arith, small)));
      follows = follows-one g (command.Buffer (BufferSize target usage (whole size))) (data_row w target usage (Size size)).next
          (size-unrefused w g target usage (whole size) agrees none.0 none.1.0 small none.1.1.1.0) refl refl
          (agrees-buffers w g _ _ agrees (agrees-bound (take_data usage zeros) target w.buffers g.buffers agrees.buffers));
    }

-- bufferData with bytes, and what follows it
good-bytes : (w : PageState) (g : DriverState) (target usage : ℕ) (bytes : Bor (List ℕ)) → IsSound w → Agrees w g → target < 2 ^ 32 → usage < 2 ^ 32
    → 8 + length bytes.now ≤ 16777280 → refusal_of (data_row w target usage (Bytes bytes)) ≡ None → IsGood g (data_row w target usage (Bytes bytes))
good-bytes w g target usage bytes sound agrees word word' short unrefused =
    let none = passed (fill_rules w.buffers target usage (Bytes bytes)) unrefused in
    let t = target-one target none.0 in
    let small : length bytes.now ≤ 67108864 = omega (arith, short) in
    let zeros : List ℕ = replicate (length bytes.now) 0 in
    let counted : length zeros ≡ length bytes.now = length-replicate (length bytes.now) 0 in
    let size = command.Buffer (BufferSize target usage (length bytes.now)) in
    let part = command.Buffer (BufferBytes target 0 bytes) in
    let unrefused-size = size-unrefused w g target usage (length bytes.now) agrees none.0 none.1.0 small none.1.1.0 in
    let sized = agrees-bound (take_data usage zeros) target w.buffers g.buffers agrees.buffers in
    let fits_one = fits_size target usage (length bytes.now) word word' (omega (arith, short)) in
    let sound' = sound-filled w target usage t.one bytes.now t.is small sound in
    let sends : Bool → List Command = λ empty. size ∷ (if empty then [] else part ∷ []) in
    let next : PageState = record w { buffers = fill_buffer target usage bytes.now w.buffers } in
    elim (eqb_tells (length bytes.now) 0) [
      | inl empty ↦ record {
        sound = sound';
        fit = subst (λ (b : Bool). All Stream.Fits (sends b)) (sym empty.0) (all-one size fits_one);
        follows = subst (λ (b : Bool). Follows g (sends b) [] next) (sym empty.0) (follows-one g size next unrefused-size refl refl
            (agrees-buffers w g _ _ agrees (subst (λ (l : List ℕ). AgreesOnBuffers (fill_buffer target usage l w.buffers) (fill_buffer target usage zeros g.buffers)) (zeros-none bytes.now empty.1) sized)));
      }
      | inr some ↦
          let g1 : BufferState = fill_buffer target usage zeros g.buffers in
          let w1 : BufferState = fill_buffer target usage zeros w.buffers in
          let bound1 : w1.bound ≡ w.buffers.bound = bound-changed_bound (take_data usage zeros) target w.buffers in
          let here : bound_to w1.bound target ≡ bound_to w.buffers.bound target = ap (λ (b : Bindings). bound_to b target) bound1 in
          let seen = filled-view usage zeros (bound_to w.buffers.bound target) w.buffers none.1.1.0 in
          let view : bound_view g1 target ≡ option_and_then (view_at w1) (bound_to w.buffers.bound target) =
          bound_view-agrees target w1 g1 sized ∙ ap (option_and_then (view_at w1)) here in
          let bound2 : not (is_some (bound_view g1 target)) ≡ false = ap (λ (v : Option BufferView). not (is_some v)) view ∙ seen.0 in
          let past2 : option_map_or (λ v. nat_lt v.size (0 + length bytes.now)) (bound_view g1 target) false ≡ false =
          ap (λ (v : Option BufferView). option_map_or (λ v. nat_lt v.size (0 + length bytes.now)) v false) view
          ∙ subst (λ (n : ℕ). option_map_or (λ v. nat_lt v.size n) (option_and_then (view_at w1) (bound_to w.buffers.bound target)) false ≡ false) (let same : length zeros ≡ 0 + length bytes.now = omega (arith, counted) in same) seen.1 in
          let patched = agrees-bound (patch 0 bytes.now) target w1 g1 sized in
          let alike : (k : ℕ) → (fill_buffer target usage bytes.now w.buffers).contents k ≡ (patch_buffer target 0 bytes.now w1).contents k =
          λ k. sym (ap (λ (b : Option ℕ). (changed_if_bound (patch 0 bytes.now) b w1).contents k) here
          ∙ twice (take_data usage zeros) (patch 0 bytes.now) (take_data usage bytes.now) (patch-all usage bytes.now) (bound_to w.buffers.bound target) w.buffers k) in
          let bound3 : (fill_buffer target usage bytes.now w.buffers).bound ≡ (patch_buffer target 0 bytes.now w1).bound =
          bound-changed_bound (take_data usage bytes.now) target w.buffers ∙ sym bound1 ∙ sym (bound-changed_bound (patch 0 bytes.now) target w1) in
          record {
            sound = sound';
            fit = subst (λ (b : Bool). All Stream.Fits (sends b)) (sym some.0) (all-cons size (part ∷ []) fits_one (all-one part (fits_bytes target 0 bytes word (lit< tt) short)));
            follows = subst (λ (b : Bool). Follows g (sends b) [] next) (sym some.0) (follows-two g size part next unrefused-size refl refl
                (passes (part_rules g1 target 0 bytes.now) (none.0, (bound2, (past2, tt)))) refl refl
                (agrees-buffers w g _ _ agrees (agrees-alike (patch_buffer target 0 bytes.now w1) (fill_buffer target usage bytes.now w.buffers) _ alike bound3 patched)));
          }
    ]

-- bufferData
pub good-data : (w : PageState) (g : DriverState) (target usage : ℕ) (fill : Fill) → IsSound w → Agrees w g → Fits (call.Buffer (buffer.BufferData target usage fill))
    → refusal_of (data_row w target usage fill) ≡ None → IsGood g (data_row w target usage fill)
good-data w g target usage (Size size) sound agrees fits unrefused =
    let words = data_words target usage (Size size) fits in good-size w g target usage size sound agrees words.0 words.1 unrefused
good-data w g target usage (Bytes bytes) sound agrees fits unrefused =
    let words = data_words target usage (Bytes bytes) fits in good-bytes w g target usage bytes sound agrees words.0 words.1 (bytes_fit target usage bytes fits) unrefused

-- what is bound has no more bytes than a buffer may
bound-small : (s : BufferState) (bound : Option ℕ) (end : ℕ) → IfSome (option_and_then s.contents bound) IsSoundBuffer → IfSome (option_and_then s.contents bound) (λ b. end ≤ length b.bytes)
    → not (is_some (option_and_then (view_at s) bound)) ≡ false → end ≤ 67108864
bound-small s None end sound within some = absurd cc
bound-small s (Some handle) end sound within some = one (s.contents handle) sound within some
  where
    one : (b : Option Buffer) → IfSome b IsSoundBuffer → IfSome b (λ b. end ≤ length b.bytes) → not (is_some (option_map view_of b)) ≡ false → end ≤ 67108864
    one None sound within some = absurd cc
    one (Some b) sound within some = let most = sound.size in omega (arith, within, most)

sound-bound : (s : BufferState) (bound : Option ℕ) → ((n : ℕ) → IfSome (s.contents n) IsSoundBuffer) → IfSome (option_and_then s.contents bound) IsSoundBuffer
sound-bound s None sound = tt
sound-bound s (Some handle) sound = sound handle

-- a fact of what is there, of one that is
if-one : (P : Buffer → Type 0) (b : Option Buffer) → IfSome b P → (one : Buffer) → b ≡ Some one → P one
if-one P b all one is = subst (λ (o : Option Buffer). IfSome o P) is all

-- bufferSubData
pub good-sub_data : (w : PageState) (g : DriverState) (target : ℕ) (offset : ℤ) (part : Bor (List ℕ)) → IsSound w → Agrees w g
    → Fits (call.Buffer (buffer.BufferSubData target offset part)) → refusal_of (sub_data_row w target offset part) ≡ None → IsGood g (sub_data_row w target offset part)
good-sub_data w g target offset part sound agrees fits unrefused =
    let none = passed (sub_data_row w target offset part).rules unrefused in
    let t = target-one target none.0 in
    let bound = bound_to w.buffers.bound target in
    let within = within-bound w.buffers target (whole offset + length part.now) none.1.1.1.0 in
    let small = bound-small w.buffers bound (whole offset + length part.now) (sound-bound w.buffers bound sound.buffers.each) within none.1.1.0 in
    let sound' : IsSound (sub_data_row w target offset part).next =
    sound-objects w w.objects (patch_buffer target (whole offset) part.now w.buffers) sound
    (objects-bound (patch (whole offset) part.now) target w.objects w.buffers sound.objects)
    (sound-patch target t.one (whole offset) part.now w.buffers t.is (if-one (λ b. whole offset + length part.now ≤ length b.bytes) (option_and_then w.buffers.contents bound) within) sound.buffers) in
    elim (eqb_tells (length part.now) 0) [
      | inl empty ↦ record {
        sound = sound';
        fit = rw empty.0 (All-nil Stream.Fits);
        follows = rw empty.0 (record {
          driver = g;
          replayed = replay-none g;
          agrees = agrees-buffers w g (patch_buffer target (whole offset) part.now w.buffers) g.buffers agrees
              (agrees-alike w.buffers (patch_buffer target (whole offset) part.now w.buffers) g.buffers
              (unchanged (patch (whole offset) part.now) (λ b. patch-none (whole offset) part.now b empty.1) bound w.buffers)
              (bound-changed_bound (patch (whole offset) part.now) target w.buffers) agrees.buffers);
        });
      }
      | inr some ↦
          let same = bound_view-agrees target w.buffers g.buffers agrees.buffers in
          let bound' : not (is_some (bound_view g.buffers target)) ≡ false = ap (λ (v : Option BufferView). not (is_some v)) same ∙ none.1.1.0 in
          let past' : option_map_or (λ v. nat_lt v.size (whole offset + length part.now)) (bound_view g.buffers target) false ≡ false =
          ap (λ (v : Option BufferView). option_map_or (λ v. nat_lt v.size (whole offset + length part.now)) v false) same ∙ none.1.1.1.0 in
          record {
            sound = sound';
            fit = rw some.0 (all-one _ (fits_bytes target (whole offset) part (part_words target offset part fits) (omega (arith, small)) (part_fit target offset part fits)));
            follows = rw some.0 (follows-one g (command.Buffer (BufferBytes target (whole offset) part)) (sub_data_row w target offset part).next
                (passes (part_rules g.buffers target (whole offset) part.now) (none.0, (bound', (past', tt)))) refl refl
                (agrees-buffers w g _ _ agrees (agrees-bound (patch (whole offset) part.now) target w.buffers g.buffers agrees.buffers)));
          }
    ]
