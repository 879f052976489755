-- The buffers stay sound at each change of them.
use Rattle.std.proofs.Common.{◌≡◌, ℕ, ◌+◌, ◌-◌, ◌≤◌, Bool, true, false, not, Option, Some, None, IfSome, List, ◌++◌, length, take, drop, refl, sym, ap, subst, ◌∙◌, arith, inl, inr, length-append}
use Rattle.std.specs.Prelude.{nat_eq, is_some, ◌==◌, ◌&&◌}
use Rattle.std.specs.Option.{option_map, option_and_then, option_map_or, option_or}
use Rattle.std.proofs.lemmas.Bool.Decides.{eqb_tells}
use Rattle.std.proofs.lemmas.List.{length-take-le, length-drop}
use Rattle.gl_numbers.specs.BufferBindings.{binding, bound_to, bind, unbind, without, non_zero}
use Rattle.gl_numbers.specs.BufferRules.{is_other}
use Rattle.gl_numbers.specs.BufferWords.{buffer_target_of}
use Rattle.gl_numbers.specs.declared.buffer_words.BufferTarget.{BufferTarget}
use Rattle.gl_numbers.specs.declared.buffer_words.BufferTarget.TheVariants.{Array, ElementArray}
use Rattle.gl_model.specs.Buffers.{Buffer, new_buffer, view_of, take_target, take_data, patch}
use Rattle.gl_model.specs.BufferState.{BufferState, with_buffer, changed_buffer, changed_if_bound, make_buffer, drop_buffer, bind_buffer, fill_buffer, patch_buffer, view_at}
use Rattle.gl_context.specs.Stands.{IsSoundBuffer, IsBoundTo, AreSoundBuffers}

-- a buffer that was changed is sound
sound-one : (change : Buffer → Buffer) (b : Option Buffer) → ((one : Buffer) → b ≡ Some one → IsSoundBuffer one → IsSoundBuffer (change one))
    → IfSome b IsSoundBuffer → IfSome (option_map change b) IsSoundBuffer
sound-one change None keeps sound = tt
sound-one change (Some b) keeps sound = keeps b refl sound

-- the first target of a buffer that was changed
first-changed : (change : Buffer → Buffer) (target : BufferTarget) (b : Option Buffer)
    → ((one : Buffer) → one.first_target ≡ Some target → (change one).first_target ≡ Some target)
    → option_and_then (λ (b : Buffer). b.first_target) b ≡ Some target → option_and_then (λ (b : Buffer). b.first_target) (option_map change b) ≡ Some target
first-changed change target None keeps is = absurd cc
first-changed change target (Some b) keeps is = keeps b is

-- what is bound, where the buffer of one number was changed
bound-changed : (change : Buffer → Buffer) (number : ℕ) (s : BufferState) (target : BufferTarget) (bound : Option ℕ)
    → ((one : Buffer) → one.first_target ≡ Some target → (change one).first_target ≡ Some target)
    → IsBoundTo s target bound → IsBoundTo (changed_buffer change number s) target bound
bound-changed change number s target None keeps is = tt
bound-changed change number s target (Some k) keeps is =
    elim (eqb_tells k number) [
      | inl same ↦ rw same.0 (first-changed change target (s.contents number) keeps (subst (λ n. option_and_then (λ (b : Buffer). b.first_target) (s.contents n) ≡ Some target) same.1 is))
      | inr other ↦ rw other.0 is
    ]

-- the buffer of a number was changed, and its first target stayed where it had one
pub sound-changed : (change : Buffer → Buffer) (number : ℕ) (s : BufferState)
    → ((one : Buffer) → s.contents number ≡ Some one → IsSoundBuffer one → IsSoundBuffer (change one))
    → ((one : Buffer) (target : BufferTarget) → one.first_target ≡ Some target → (change one).first_target ≡ Some target)
    → AreSoundBuffers s → AreSoundBuffers (changed_buffer change number s)
sound-changed change number s keeps stays sound = record {
  each = λ k. elim (eqb_tells k number) [
    | inl same ↦ rw same.0 (sound-one change (s.contents number) keeps (sound.each number))
    | inr other ↦ rw other.0 (sound.each k)
  ];
  bound = λ target. bound-changed change number s target (binding s.bound target) (λ one. stays one target) (sound.bound target);
}

-- a change of what is bound
pub sound-if_bound : (change : Buffer → Buffer) (bound : Option ℕ) (s : BufferState)
    → ((one : Buffer) → option_and_then s.contents bound ≡ Some one → IsSoundBuffer one → IsSoundBuffer (change one))
    → ((one : Buffer) (target : BufferTarget) → one.first_target ≡ Some target → (change one).first_target ≡ Some target)
    → AreSoundBuffers s → AreSoundBuffers (changed_if_bound change bound s)
sound-if_bound change None s keeps stays sound = sound
sound-if_bound change (Some number) s keeps stays sound = sound-changed change number s keeps stays sound

-- what is bound to the target of a word has that first target
first-bound : (s : BufferState) (target : BufferTarget) (bound : Option ℕ) → IsBoundTo s target bound
    → (one : Buffer) → option_and_then s.contents bound ≡ Some one → one.first_target ≡ Some target
first-bound s target None is one found = absurd cc
first-bound s target (Some number) is one found = ap (option_and_then (λ (b : Buffer). b.first_target)) (sym found) ∙ is

pub first-bound_to : (s : BufferState) (target : ℕ) → AreSoundBuffers s
    → (one : Buffer) → option_and_then s.contents (bound_to s.bound target) ≡ Some one → one.first_target ≡ buffer_target_of target
first-bound_to s target sound =
    elim (buffer_target_of target) as (λ t. (one : Buffer) → option_and_then s.contents (option_and_then (binding s.bound) t) ≡ Some one → one.first_target ≡ t) [
      | None ↦ λ one found. absurd cc
      | Some t ↦ first-bound s t (binding s.bound t) (sound.bound t)
    ]

-- a number has another buffer, or none, and nothing was bound to it
sound-with : (number : ℕ) (x : Option Buffer) (s : BufferState) → s.contents number ≡ None → IfSome x IsSoundBuffer → AreSoundBuffers s
    → AreSoundBuffers (with_buffer number x s)
sound-with number x s free new sound = record {
  each = λ k. elim (eqb_tells k number) [ inl same ↦ rw same.0 new | inr other ↦ rw other.0 (sound.each k) ];
  bound = λ target. bound-with number x s target (binding s.bound target) free (sound.bound target);
}
  where
    bound-with : (number : ℕ) (x : Option Buffer) (s : BufferState) (target : BufferTarget) (bound : Option ℕ) → s.contents number ≡ None
        → IsBoundTo s target bound → IsBoundTo (with_buffer number x s) target bound
    bound-with number x s target None free is = tt
    bound-with number x s target (Some k) free is =
        elim (eqb_tells k number) [
          | inl same ↦
              let is' = subst (λ n. option_and_then (λ (b : Buffer). b.first_target) (s.contents n) ≡ Some target) same.1 is in
              let none : option_and_then (λ (b : Buffer). b.first_target) (s.contents number) ≡ None = ap (option_and_then (λ (b : Buffer). b.first_target)) free in
              absurd (let no : None ≡ Some target = sym none ∙ is' in cc)
          | inr other ↦ rw other.0 is
        ]

-- a new buffer
pub sound-make : (number : ℕ) (s : BufferState) → s.contents number ≡ None → AreSoundBuffers s → AreSoundBuffers (make_buffer number s)
sound-make number s free sound = sound-with number (Some new_buffer) s free (record { size = omega arith; unbound = λ _. refl }) sound

-- what is bound, after a buffer is gone and bound no longer
bound-drop : (number : ℕ) (s : BufferState) (target : BufferTarget) (bound : Option ℕ) → IsBoundTo s target bound
    → IsBoundTo (with_buffer number None s) target (without number bound)
bound-drop number s target None is = tt
bound-drop number s target (Some k) is =
    elim (eqb_tells k number) [ inl same ↦ rw same.0 tt | inr other ↦ rw other.0 (rw other.0 is) ]

-- a buffer is gone, and bound no longer
pub sound-drop : (number : ℕ) (s : BufferState) → AreSoundBuffers s → AreSoundBuffers (drop_buffer number s)
sound-drop number s sound = record {
  each = λ k. elim (eqb_tells k number) [ inl same ↦ rw same.0 tt | inr other ↦ rw other.0 (sound.each k) ];
  bound = λ target. elim target as (λ t. IsBoundTo (drop_buffer number s) t (binding (unbind number s.bound) t)) [
    | Array ↦ bound-drop number s Array s.bound.array (sound.bound Array)
    | ElementArray ↦ bound-drop number s ElementArray s.bound.element_array (sound.bound ElementArray)
  ];
}

-- what has a first target isn't without one
not-none : (first : Option BufferTarget) (target : BufferTarget) → first ≡ Some target → first ≡ None → ⊥
not-none first target is none = let no : None ≡ Some target = sym none ∙ is in absurd cc

-- what is bound has a first target, where something is bound to the target of a word
pub first-some : (s : BufferState) (target : ℕ) (t : BufferTarget) → buffer_target_of target ≡ Some t → AreSoundBuffers s
    → (one : Buffer) → option_and_then s.contents (bound_to s.bound target) ≡ Some one → one.first_target ≡ Some t
first-some s target t is sound one found = first-bound_to s target sound one found ∙ is

-- bufferData
pub sound-fill : (target usage : ℕ) (t : BufferTarget) (bytes : List ℕ) (s : BufferState) → buffer_target_of target ≡ Some t → length bytes ≤ 67108864
    → AreSoundBuffers s → AreSoundBuffers (fill_buffer target usage bytes s)
sound-fill target usage t bytes s is small sound =
    sound-if_bound (take_data usage bytes) (bound_to s.bound target) s
    (λ one found old. record { size = small; unbound = λ none. absurd (not-none one.first_target t (first-some s target t is sound one found) none) })
    (λ one target is. is) sound

-- bytes of which some are replaced are as many
pub length-patch : (offset : ℕ) (part : List ℕ) (b : Buffer) → offset + length part ≤ length b.bytes → length (patch offset part b).bytes ≡ length b.bytes
length-patch offset part b within =
    let rest = drop (offset + length part) b.bytes in
    let prefix : length (take offset b.bytes) ≡ offset = length-take-le offset b.bytes (omega (arith, within)) in
    let back : length rest ≡ length b.bytes - (offset + length part) = length-drop (offset + length part) b.bytes in
    let more : length (part ++ rest) ≡ length part + length rest = length-append part rest in
    let all : length (take offset b.bytes ++ (part ++ rest)) ≡ length (take offset b.bytes) + length (part ++ rest) = length-append (take offset b.bytes) (part ++ rest) in
    all ∙ omega (arith, prefix, back, more, within)

-- bufferSubData
pub sound-patch : (target : ℕ) (t : BufferTarget) (offset : ℕ) (part : List ℕ) (s : BufferState) → buffer_target_of target ≡ Some t
    → ((one : Buffer) → option_and_then s.contents (bound_to s.bound target) ≡ Some one → offset + length part ≤ length one.bytes)
    → AreSoundBuffers s → AreSoundBuffers (patch_buffer target offset part s)
sound-patch target t offset part s is within sound =
    sound-if_bound (patch offset part) (bound_to s.bound target) s
    (λ one found old.
    let same = length-patch offset part one (within one found) in
    let before = old.size in
    record { size = omega (arith, same, before); unbound = λ none. absurd (not-none one.first_target t (first-some s target t is sound one found) none) })
    (λ one target is. is) sound

-- a target that may be taken is
target-taken : (target : BufferTarget) (first : Option BufferTarget) → is_other target first ≡ false → option_or first (Some target) ≡ Some target
target-taken target None other = refl
target-taken Array (Some Array) other = refl
target-taken Array (Some ElementArray) other = absurd cc
target-taken ElementArray (Some Array) other = absurd cc
target-taken ElementArray (Some ElementArray) other = refl

-- no target was taken where there is none
target-none : (wanted first : Option BufferTarget) → option_or first wanted ≡ None → first ≡ None
target-none wanted None e = refl
target-none wanted (Some target) e = absurd cc

-- the buffer that is bound takes the target
buffer-taken : (target : BufferTarget) (b : Option Buffer) → is_some b ≡ true → option_map_or (λ v. is_other target v.first_target) (option_map view_of b) false ≡ false
    → option_and_then (λ (b : Buffer). b.first_target) (option_map (take_target (Some target)) b) ≡ Some target
buffer-taken target None there other = absurd cc
buffer-taken target (Some b) there other = target-taken target b.first_target other

-- what was just bound
bound-taken : (target : BufferTarget) (number : ℕ) (s : BufferState) → (not (number == 0) && not (is_some (s.contents number))) ≡ false
    → option_map_or (λ v. is_other target v.first_target) (view_at s number) false ≡ false
    → IsBoundTo (changed_buffer (take_target (Some target)) number s) target (non_zero number)
bound-taken target number s there other =
    elim (eqb_tells number 0) [
      | inl null ↦ rw null.0 tt
      | inr given ↦
          let is : is_some (s.contents number) ≡ true = second-false (number == 0) (is_some (s.contents number)) there given.0 in
          let own : nat_eq number number ≡ true = own-number number in
          rw given.0 (rw own (buffer-taken target (s.contents number) is other))
    ]
  where
    own-number : (n : ℕ) → nat_eq n n ≡ true
    own-number n = elim (eqb_tells n n) [ inl same ↦ same.0 | inr other ↦ absurd (other.1 refl) ]

    second-false : (x y : Bool) → (not x && not y) ≡ false → x ≡ false → y ≡ true
    second-false true y e f = absurd cc
    second-false false true e f = refl
    second-false false false e f = absurd cc

-- a target that has a buffer keeps it as it takes a target
target-kept : (wanted : Option BufferTarget) (one : Buffer) (target : BufferTarget) → one.first_target ≡ Some target → (take_target wanted one).first_target ≡ Some target
target-kept wanted one target is = ap (λ (first : Option BufferTarget). option_or first wanted) is

-- what is bound after bindBuffer
bound-bind : (t target : BufferTarget) (number : ℕ) (s : BufferState) → (not (number == 0) && not (is_some (s.contents number))) ≡ false
    → option_map_or (λ v. is_other t v.first_target) (view_at s number) false ≡ false → IsBoundTo s target (binding s.bound target)
    → IsBoundTo (changed_buffer (take_target (Some t)) number s) target (binding (bind (Some t) (non_zero number) s.bound) target)
bound-bind Array Array number s there other is = bound-taken Array number s there other
bound-bind Array ElementArray number s there other is =
    bound-changed (take_target (Some Array)) number s ElementArray s.bound.element_array (λ one. target-kept (Some Array) one ElementArray) is
bound-bind ElementArray Array number s there other is =
    bound-changed (take_target (Some ElementArray)) number s Array s.bound.array (λ one. target-kept (Some ElementArray) one Array) is
bound-bind ElementArray ElementArray number s there other is = bound-taken ElementArray number s there other

-- bindBuffer to a target that isn't refused
pub sound-bind : (target number : ℕ) (t : BufferTarget) (s : BufferState) → buffer_target_of target ≡ Some t
    → (not (number == 0) && not (is_some (s.contents number))) ≡ false
    → option_map_or (λ v. is_other t v.first_target) (view_at s number) false ≡ false
    → AreSoundBuffers s → AreSoundBuffers (bind_buffer target number s)
sound-bind target number t s is there other sound =
    rw is (record {
      each = (sound-changed (take_target (Some t)) number s
          (λ one found old. record { size = old.size; unbound = λ none. old.unbound (target-none (Some t) one.first_target none) })
          (λ one target. target-kept (Some t) one target) sound).each;
      bound = λ target'. bound-bind t target' number s there other (sound.bound target');
    })
