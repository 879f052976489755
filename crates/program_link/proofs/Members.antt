-- The members of structures as they are put on top of what is pending, the last first.
use Rattle.std.proofs.Common.{◌≡◌, ℕ, ◌+◌, ◌-◌, ◌<◌, ◌≤◌, suc, false, List, [], ◌∷◌, ◌++◌, length, map, drop, get_or, sym, ap, ◌∙◌, arith, append_assoc}
use Rattle.std.specs.Prelude.{◌==◌, if◌then◌else◌, reverse}
use Rattle.std.specs.List.{flat_map, range_with_len}
use Rattle.std.proofs.lemmas.Grind.{common_steps}
use Rattle.std.proofs.lemmas.List.{drop_all, drop_more, reverse-append}
use mathlib.Core.Path.{fun_ext}
use Rattle.glsl_types.specs.declared.types.Field.{Field}
use Rattle.program_link.specs.declared.flattening.Pending.{Pending}
use Rattle.program_link.specs.Flattening.{element_name}
use Rattle.program_link.specs.Kept.{kept_part}
use Rattle.program_link.specs.Standing.{entries, entry}
use Rattle.program_link.proofs.KeptNames.{kept-again}

pub reverse-push : {A : Type 0} (xs : List A) (y : A) → reverse (xs ++ y ∷ []) ≡ y ∷ reverse xs
reverse-push xs y = reverse-append xs (y ∷ [])

-- no field so far
pub field-start : (name : List ℕ) (seen : ℕ) (fields : List Field) (i : ℕ) (pending : List Pending) → length fields ≤ i
    → reverse pending ≡ map (entry name seen) (drop i fields) ++ reverse pending
field-start name seen fields i pending past = sym (ap (λ l. map (entry name seen) l ++ reverse pending) (drop_all i fields past))

-- one more field
pub field-step : (name : List ℕ) (seen : ℕ) (fields : List Field) (i j : ℕ) (f : Field) (p : Pending) (done more before : List Pending)
    → i < length fields → j ≡ i + 1 → f ≡ get_or fields i f → p ≡ entry name seen f → more ≡ done ++ p ∷ []
    → reverse done ≡ map (entry name seen) (drop j fields) ++ before
    → reverse more ≡ map (entry name seen) (drop i fields) ++ before
field-step name seen fields i j f p done more before within next is put added so_far =
    let rest : drop i fields ≡ f ∷ drop j fields =
    drop_more fields i f within ∙ (λ k. sym is k ∷ drop (sym next k) fields) in
    ap reverse added ∙ reverse-push done p ∙ (λ k. put k ∷ so_far k)
    ∙ sym (ap (λ l. map (entry name seen) l ++ before) rest)

-- all fields
pub field-end : (name : List ℕ) (seen : ℕ) (fields : List Field) (i : ℕ) (now before : List Pending) → i ≡ 0
    → reverse now ≡ map (entry name seen) (drop i fields) ++ before → reverse now ≡ map (entry name seen) fields ++ before
field-end name seen fields i now before none so_far = so_far ∙ ap (λ k. map (entry name seen) (drop k fields) ++ before) none

pub ruleset of_fields = (field-start, field-step, field-end)

-- the members of the elements from one on
abbrev pub from_element : List ℕ → ℕ → List Field → ℕ → ℕ → List Pending
from_element name seen fields i array =
    flat_map (λ k. map (entry (element_name name k) seen) fields) (range_with_len i (array - i))

entry-kept : (name : List ℕ) (seen : ℕ) → entry (kept_part name) seen ≡ entry name seen
entry-kept name seen =
    fun_ext (λ f. ap (λ n. let p : Pending = record { name = n; kind = f.kind; seen = seen } in p) (kept-again name (46 ∷ f.name)))

-- no element so far
pub member-start : (name : List ℕ) (seen : ℕ) (fields : List Field) (array : ℕ) (pending : List Pending)
    → reverse pending ≡ from_element name seen fields array array ++ reverse pending
member-start name seen fields array pending =
    let none : array - array ≡ 0 = omega arith in
    sym (ap (λ n. flat_map (λ k. map (entry (element_name name k) seen) fields) (range_with_len array n) ++ reverse pending) none)

-- one more element
pub member-step : (name element : List ℕ) (seen : ℕ) (fields : List Field) (i j array : ℕ) (done more before : List Pending) → i < array
    → j ≡ i + 1 → element ≡ kept_part (element_name name i) → reverse more ≡ map (entry element seen) fields ++ reverse done
    → reverse done ≡ from_element name seen fields j array ++ before
    → reverse more ≡ from_element name seen fields i array ++ before
member-step name element seen fields i j array done more before within next is added so_far =
    let G : ℕ → List Pending = λ k. map (entry (element_name name k) seen) fields in
    let one : array - i ≡ suc (array - j) = omega (arith, within, next) in
    let same : map (entry element seen) fields ≡ G i =
    ap (λ n. map (entry n seen) fields) is ∙ ap (λ e. map e fields) (entry-kept (element_name name i) seen) in
    let rest : from_element name seen fields i array ≡ G i ++ from_element name seen fields j array =
    ap (λ n. flat_map G (range_with_len i n)) one ∙ ap (λ k. G i ++ flat_map G (range_with_len k (array - j))) (sym next) in
    added ∙ (λ k. same k ++ so_far k) ∙ sym (append_assoc (G i) (from_element name seen fields j array) before)
    ∙ sym (ap (λ l. l ++ before) rest)

-- all elements, or none
pub member-end : (name : List ℕ) (seen : ℕ) (fields : List Field) (i array : ℕ) (now before : List Pending) → i ≡ 0 → 0 < array
    → reverse now ≡ from_element name seen fields i array ++ before → reverse now ≡ entries name array seen fields ++ before
member-end name seen fields i array now before none some so_far =
    let not : (array == 0) ≡ false = grind (arith, common_steps) in
    let all : array - 0 ≡ array = omega arith in
    so_far ∙ ap (λ k. from_element name seen fields k array ++ before) none
    ∙ ap (λ n. flat_map (λ k. map (entry (element_name name k) seen) fields) (range_with_len 0 n) ++ before) all
    ∙ sym (ap (λ b. (if b then map (entry name seen) fields
    else flat_map (λ k. map (entry (element_name name k) seen) fields) (range_with_len 0 array)) ++ before) not)

pub member-plain : (name : List ℕ) (seen : ℕ) (fields : List Field) (array : ℕ) (now before : List Pending) → array ≡ 0
    → reverse now ≡ map (entry name seen) fields ++ before → reverse now ≡ entries name array seen fields ++ before
member-plain name seen fields array now before none so_far =
    so_far ∙ sym (ap (λ n. entries name n seen fields ++ before) none)

pub ruleset of_members = (member-start, member-step, member-end, member-plain)
