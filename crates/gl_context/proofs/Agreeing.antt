-- The driver's buffers agree with the page's after the same change of both.
use Rattle.std.proofs.Common.{◌≡◌, ℕ, ◌<◌, true, false, Option, Some, None, refl, sym, ap, ◌∙◌, arith, inl, inr, lit<}
use Rattle.std.specs.Prelude.{nat_eq}
use Rattle.std.specs.Option.{option_map, option_and_then}
use Rattle.std.proofs.lemmas.Bool.{ne_eqb}
use Rattle.std.proofs.lemmas.Bool.Decides.{eqb_tells}
use Rattle.gl_numbers.specs.BufferBindings.{Bindings, binding, bound_to, bind, without, non_zero}
use Rattle.gl_numbers.specs.BufferWords.{buffer_target_of}
use Rattle.gl_numbers.specs.declared.buffer_words.BufferTarget.{BufferTarget}
use Rattle.gl_numbers.specs.declared.buffer_words.BufferTarget.TheVariants.{Array, ElementArray}
use Rattle.gl_model.specs.Buffers.{Buffer, view_of, take_target}
use Rattle.gl_model.specs.BufferState.{BufferState, with_buffer, changed_buffer, changed_if_bound, changed_bound, drop_buffer, bind_buffer, view_at, bound_view}
use Rattle.gl_context.specs.BufferRows.{bound_name}
use Rattle.gl_context.specs.Stands.{buffer_name, AgreesOnBuffers}

-- names are told apart as handles are
name-apart : (handle k : ℕ) → nat_eq (buffer_name k) (buffer_name handle) ≡ nat_eq k handle
name-apart handle k =
    elim (eqb_tells k handle) [
      | inl same ↦ rw same.1 (rw (same_name handle) (sym (same_name' handle)))
      | inr other ↦ ne_eqb (buffer_name k) (buffer_name handle) (λ e. other.1 (omega arith)) ∙ sym other.0
    ]
  where
    same_name : (h : ℕ) → nat_eq (buffer_name h) (buffer_name h) ≡ true
    same_name h = elim (eqb_tells (buffer_name h) (buffer_name h)) [ inl same ↦ same.0 | inr other ↦ absurd (other.1 refl) ]

    same_name' : (h : ℕ) → nat_eq h h ≡ true
    same_name' h = elim (eqb_tells h h) [ inl same ↦ same.0 | inr other ↦ absurd (other.1 refl) ]

-- no buffer has a low name
name-low : (handle name : ℕ) → name < 2 → nat_eq name (buffer_name handle) ≡ false
name-low handle name low = ne_eqb name (buffer_name handle) (λ e. omega arith)

-- a handle and its name have another buffer, or none
pub agrees-with : (handle : ℕ) (x : Option Buffer) (page driver : BufferState) → AgreesOnBuffers page driver
    → AgreesOnBuffers (with_buffer handle x page) (with_buffer (buffer_name handle) x driver)
agrees-with handle x page driver a = record {
  made = λ k. rw (name-apart handle k, a.made k) refl;
  others = λ name low. rw (name-low handle name low) (a.others name low);
  array = a.array;
  element_array = a.element_array;
}

-- the buffer of a handle and of its name was changed
pub agrees-changed : (change : Buffer → Buffer) (handle : ℕ) (page driver : BufferState) → AgreesOnBuffers page driver
    → AgreesOnBuffers (changed_buffer change handle page) (changed_buffer change (buffer_name handle) driver)
agrees-changed change handle page driver a = rw (a.made handle) (agrees-with handle (option_map change (page.contents handle)) page driver a)

-- what is bound to the target of a word has its name
pub bound-agrees : (target : ℕ) (page driver : BufferState) → AgreesOnBuffers page driver
    → bound_to driver.bound target ≡ option_map buffer_name (bound_to page.bound target)
bound-agrees target page driver a =
    elim (buffer_target_of target) as (λ t. option_and_then (binding driver.bound) t ≡ option_map buffer_name (option_and_then (binding page.bound) t)) [
      | None ↦ refl
      | Some t ↦ elim t as (λ u. binding driver.bound u ≡ option_map buffer_name (binding page.bound u)) [ Array ↦ a.array | ElementArray ↦ a.element_array ]
    ]

-- the buffer of a number that may be none was changed
agrees-if_bound : (change : Buffer → Buffer) (bound : Option ℕ) (page driver : BufferState) → AgreesOnBuffers page driver
    → AgreesOnBuffers (changed_if_bound change bound page) (changed_if_bound change (option_map buffer_name bound) driver)
agrees-if_bound change None page driver a = a
agrees-if_bound change (Some handle) page driver a = agrees-changed change handle page driver a

-- the bound buffer was changed
pub agrees-bound : (change : Buffer → Buffer) (target : ℕ) (page driver : BufferState) → AgreesOnBuffers page driver
    → AgreesOnBuffers (changed_bound change target page) (changed_bound change target driver)
agrees-bound change target page driver a = rw (bound-agrees target page driver a) (agrees-if_bound change (bound_to page.bound target) page driver a)

-- a binding without a handle, and without its name
without-agrees : (handle : ℕ) (page driver : Option ℕ) → driver ≡ option_map buffer_name page
    → without (buffer_name handle) driver ≡ option_map buffer_name (without handle page)
without-agrees handle None driver e = rw e refl
without-agrees handle (Some k) driver e =
    rw e (elim (eqb_tells k handle) [
      | inl same ↦ rw (name-apart handle k, same.0) refl
      | inr other ↦ rw (name-apart handle k, other.0) refl
    ])

-- a buffer is gone, and bound no longer
pub agrees-drop : (handle : ℕ) (page driver : BufferState) → AgreesOnBuffers page driver
    → AgreesOnBuffers (drop_buffer handle page) (drop_buffer (buffer_name handle) driver)
agrees-drop handle page driver a =
    let gone = agrees-with handle None page driver a in
    record {
      made = gone.made;
      others = gone.others;
      array = without-agrees handle page.bound.array driver.bound.array a.array;
      element_array = without-agrees handle page.bound.element_array driver.bound.element_array a.element_array;
    }

-- null has no buffer, and its name has none
pub named : (page driver : BufferState) → AgreesOnBuffers page driver → page.contents 0 ≡ None → (handle : ℕ)
    → driver.contents (bound_name handle) ≡ page.contents handle
named page driver a none handle =
    elim (eqb_tells handle 0) [
      | inl null ↦
          let name : bound_name handle ≡ 0 = rw null.0 refl in
          ap driver.contents name ∙ a.others 0 (lit< tt) ∙ sym (ap page.contents null.1 ∙ none)
      | inr given ↦ let name : bound_name handle ≡ buffer_name handle = rw given.0 refl in ap driver.contents name ∙ a.made handle
    ]

-- null alone has the name 0
pub name-zero : (handle : ℕ) → nat_eq (bound_name handle) 0 ≡ nat_eq handle 0
name-zero handle =
    elim (eqb_tells handle 0) [
      | inl null ↦ rw null.0 refl
      | inr given ↦ rw given.0 (ne_eqb (buffer_name handle) 0 (λ e. omega arith))
    ]

-- what is to be bound, by its name
name-bound : (handle : ℕ) → non_zero (bound_name handle) ≡ option_map buffer_name (non_zero handle)
name-bound handle =
    elim (eqb_tells handle 0) [
      | inl null ↦ rw null.0 refl
      | inr given ↦ rw given.0 (rw (ne_eqb (buffer_name handle) 0 (λ e. omega arith)) refl)
    ]

-- a change of null's buffer, which isn't there
agrees-null : (page driver : BufferState) → AgreesOnBuffers page driver → page.contents 0 ≡ None
    → AgreesOnBuffers (with_buffer 0 None page) (with_buffer 0 None driver)
agrees-null page driver a none = record {
  made = λ k. let given : nat_eq (buffer_name k) 0 ≡ false = ne_eqb (buffer_name k) 0 (λ e. omega arith) in
      rw given (elim (eqb_tells k 0) [
        | inl null ↦ rw null.0 (a.made k ∙ ap page.contents null.1 ∙ none)
        | inr other ↦ rw other.0 (a.made k)
      ]);
  others = λ name low. elim (eqb_tells name 0) [ inl null ↦ rw null.0 refl | inr other ↦ rw other.0 (a.others name low) ];
  array = a.array;
  element_array = a.element_array;
}

-- the buffer of a handle, null among them, was changed
agrees-named : (change : Buffer → Buffer) (handle : ℕ) (page driver : BufferState) → AgreesOnBuffers page driver → page.contents 0 ≡ None
    → AgreesOnBuffers (changed_buffer change handle page) (changed_buffer change (bound_name handle) driver)
agrees-named change handle page driver a none =
    elim (eqb_tells handle 0) [
      | inl null ↦
          let name : bound_name handle ≡ 0 = rw null.0 refl in
          let free : driver.contents 0 ≡ None = a.others 0 (lit< tt) in
          rw (name, null.1, none, free) (agrees-null page driver a none)
      | inr given ↦ let name : bound_name handle ≡ buffer_name handle = rw given.0 refl in rw name (agrees-changed change handle page driver a)
    ]

-- bindings after one was set on both sides
bind-array : (target : Option BufferTarget) (driver page : Bindings) (n m : Option ℕ) → n ≡ option_map buffer_name m → driver.array ≡ option_map buffer_name page.array
    → (bind target n driver).array ≡ option_map buffer_name (bind target m page).array
bind-array None driver page n m e a = a
bind-array (Some Array) driver page n m e a = e
bind-array (Some ElementArray) driver page n m e a = a

bind-element_array : (target : Option BufferTarget) (driver page : Bindings) (n m : Option ℕ) → n ≡ option_map buffer_name m
    → driver.element_array ≡ option_map buffer_name page.element_array → (bind target n driver).element_array ≡ option_map buffer_name (bind target m page).element_array
bind-element_array None driver page n m e a = a
bind-element_array (Some Array) driver page n m e a = a
bind-element_array (Some ElementArray) driver page n m e a = e

-- a buffer, or none, was bound
pub agrees-bind : (target handle : ℕ) (page driver : BufferState) → AgreesOnBuffers page driver → page.contents 0 ≡ None
    → AgreesOnBuffers (bind_buffer target handle page) (bind_buffer target (bound_name handle) driver)
agrees-bind target handle page driver a none =
    let taken = agrees-named (take_target (buffer_target_of target)) handle page driver a none in
    record {
      made = taken.made;
      others = taken.others;
      array = bind-array (buffer_target_of target) driver.bound page.bound _ _ (name-bound handle) a.array;
      element_array = bind-element_array (buffer_target_of target) driver.bound page.bound _ _ (name-bound handle) a.element_array;
    }

-- the rules see the same of a handle and its name
pub view-agrees : (page driver : BufferState) → AgreesOnBuffers page driver → page.contents 0 ≡ None → (handle : ℕ)
    → view_at driver (bound_name handle) ≡ view_at page handle
view-agrees page driver a none handle = ap (option_map view_of) (named page driver a none handle)

view-if_bound : (bound : Option ℕ) (page driver : BufferState) → AgreesOnBuffers page driver
    → option_and_then (view_at driver) (option_map buffer_name bound) ≡ option_and_then (view_at page) bound
view-if_bound None page driver a = refl
view-if_bound (Some handle) page driver a = ap (option_map view_of) (a.made handle)

-- the rules see the same of what is bound
pub bound_view-agrees : (target : ℕ) (page driver : BufferState) → AgreesOnBuffers page driver → bound_view driver target ≡ bound_view page target
bound_view-agrees target page driver a =
    ap (option_and_then (view_at driver)) (bound-agrees target page driver a) ∙ view-if_bound (bound_to page.bound target) page driver a
