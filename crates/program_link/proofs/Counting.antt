-- How many elements uniforms stand for, and that those of structures are counted.
use Rattle.std.proofs.Common.{◌≡◌, ℕ, ◌+◌, ◌-◌, ◌*◌, ◌<◌, ◌≤◌, suc, zero, min, Bool, true, false, Option, Some, None, List, [], ◌∷◌, ◌++◌, length, map, take, get_or, refl, sym, ap, subst, ◌∙◌, arith, inl, inr}
use Rattle.std.specs.Prelude.{◌==◌, if◌then◌else◌, slice_get}
use Rattle.std.specs.List.{flat_map, sum_by}
use Rattle.std.proofs.lemmas.Bool.{cases_lt}
use Rattle.std.proofs.lemmas.Grind.{common_steps}
use Rattle.std.proofs.lemmas.List.{get_or_append_left, get_or_past, get_or_push, length-take, length_push, take_all}
use Rattle.std.proofs.lemmas.List.FromFn.{length-map-range_with_len}
use Rattle.std.proofs.lemmas.List.Sums.{sum_by-append, sum_by-cons}
use Rattle.std.proofs.lemmas.Option.{slice_get-get_or}
use Rattle.std.proofs.Math.Nat.{mul-le-mul_left}
use mathlib.Core.Path.{fun_ext}
use Rattle.glsl_types.specs.declared.types.Field.{Field}
use Rattle.glsl_types.specs.declared.types.SlType.{SlType}
use Rattle.glsl_types.specs.declared.types.Struct.{Struct}
use Rattle.uniform_values.specs.Layout.{elements}
use Rattle.program_link.specs.declared.leaves.Leaf.{Leaf}
use Rattle.program_link.specs.Counted.{AreCounted, counted, number_at, one_counted, structure_count}
use Rattle.program_link.specs.Flattening.{element_count, element_name, element_names, elements_of, fields_of, flattened, member_name, members, structure_names}
use Rattle.program_link.specs.SameTypes.{before, structure_at, structure_of}
use Rattle.program_link.proofs.Alike.{in_structure, kinds-alike}
use Rattle.program_link.proofs.Deep.{at-front, before-front, flattened-plain, flattened-structure, not-zero, there-within}

-- sums
pub sum-flat_map : {A B : Type 0} (c : B → ℕ) (g : A → List B) (xs : List A)
    → sum_by c (flat_map g xs) ≡ sum_by (λ x. sum_by c (g x)) xs
sum-flat_map c g [] = refl
sum-flat_map c g (x ∷ xs) =
    sum_by-append c (g x) (flat_map g xs) ∙ ap (λ n. sum_by c (g x) + n) (sum-flat_map c g xs)
    ∙ sym (sum_by-cons (λ y. sum_by c (g y)) x xs)

pub sum-same : {A : Type 0} (c d : A → ℕ) (xs : List A) → ((x : A) → c x ≡ d x) → sum_by c xs ≡ sum_by d xs
sum-same c d xs same = ap (λ h. sum_by h xs) (fun_ext same)

pub sum-constant : {A : Type 0} (c : A → ℕ) (m : ℕ) (xs : List A) → ((x : A) → c x ≡ m) → sum_by c xs ≡ length xs * m
sum-constant c m [] each = omega arith
sum-constant c m (x ∷ xs) each = omega (arith, sum_by-cons c x xs, each x, sum-constant c m xs each)

pub sum-one : {A : Type 0} (c : A → ℕ) (x : A) → sum_by c (x ∷ []) ≡ c x
sum-one c x = omega (arith, sum_by-cons c x [])

pub sum-map : {A B : Type 0} (c : B → ℕ) (f : A → B) (xs : List A) → sum_by (λ x. c (f x)) xs ≡ sum_by c (map f xs)
sum-map c f [] = refl
sum-map c f (x ∷ xs) =
    sum_by-cons (λ y. c (f y)) x xs ∙ ap (λ n. c (f x) + n) (sum-map c f xs) ∙ sym (sum_by-cons c (f x) (map f xs))

sum-min : {A : Type 0} (g : A → ℕ) (xs : List A) → min 65536 (sum_by (λ x. min 65536 (g x)) xs) ≡ min 65536 (sum_by g xs)
sum-min g [] = refl
sum-min g (x ∷ xs) = omega (arith, sum_by-cons (λ y. min 65536 (g y)) x xs, sum_by-cons g x xs, sum-min g xs)

-- names add nothing to the number of elements
pub names-count : (structs : List Struct) (m n : List ℕ) (kind : SlType)
    → elements_of (flattened structs m kind) ≡ elements_of (flattened structs n kind)
names-count structs m n kind =
    sum-map (λ k. elements k) (λ leaf. leaf.kind) (flattened structs m kind)
    ∙ ap (λ kinds. sum_by (λ k. elements k) kinds) (kinds-alike structs m n kind)
    ∙ sym (sum-map (λ k. elements k) (λ leaf. leaf.kind) (flattened structs n kind))

count-fields : (structs : List Struct) (name : List ℕ) (fields : List Field)
    → elements_of (in_structure (flattened structs) fields name) ≡ sum_by (λ f. element_count structs f.kind) fields
count-fields structs name fields =
    sum-flat_map (λ leaf. elements leaf.kind) (λ f. flattened structs (member_name name f.name) f.kind) fields
    ∙ sum-same (λ f. elements_of (flattened structs (member_name name f.name) f.kind)) (λ f. element_count structs f.kind) fields
    (λ f. names-count structs (member_name name f.name) [] f.kind)

count-members : (structs : List Struct) (names : List (List ℕ)) (fields : List Field)
    → elements_of (members (flattened structs) names fields) ≡ length names * sum_by (λ f. element_count structs f.kind) fields
count-members structs names fields =
    sum-flat_map (λ leaf. elements leaf.kind) (in_structure (flattened structs) fields) names
    ∙ sum-constant (λ name. elements_of (in_structure (flattened structs) fields name)) (sum_by (λ f. element_count structs f.kind) fields)
    names (λ name. count-fields structs name fields)

names-length : (name : List ℕ) (array : ℕ) (b : Bool)
    → length (if b then name ∷ [] else element_names name array) ≡ (if b then 1 else array)
names-length name array true = refl
names-length name array false = length-map-range_with_len (element_name name) 0 array

-- the elements of a uniform of structure type, and of any other
pub count-structure : (structs : List Struct) (kind : SlType) (number : ℕ) → structure_of kind.base ≡ Some number
    → element_count structs kind ≡ elements kind * structure_count structs number
count-structure structs kind number is =
    ap (λ l. elements_of l) (flattened-structure structs [] kind number is)
    ∙ count-members (before structs number) (structure_names [] kind.array) (fields_of (structure_at structs number))
    ∙ ap (λ n. n * structure_count structs number) (names-length [] kind.array (kind.array == 0))

pub count-plain : (structs : List Struct) (kind : SlType) → structure_of kind.base ≡ None → element_count structs kind ≡ elements kind
count-plain structs kind is =
    ap (λ l. elements_of l) (flattened-plain structs [] kind is)
    ∙ sum-one (λ leaf. elements leaf.kind) (let a : Leaf = record { name = []; kind = kind } in a)

-- a count by the counts of structures
min-times : (e s : ℕ) → 0 < e → min 65536 (e * min 65536 (min 65536 s)) ≡ min 65536 (e * s)
min-times e s some =
    elim (cases_lt 65536 s) [
      | inl more ↦
          let full : min 65536 (min 65536 s) ≡ 65536 = omega (arith, more) in
          let least : e * 65536 ≤ e * s = mul-le-mul_left e (omega (arith, more)) in
          rw full (omega (arith, least, some))
      | inr few ↦ let all : min 65536 (min 65536 s) ≡ s = omega (arith, few) in rw all refl
    ]

times-one : (e : ℕ) → min 65536 (e * min 65536 1) ≡ min 65536 e
times-one e = omega arith

some-by : (n : ℕ) (b : Bool) → (n == 0) ≡ b → 0 < (if b then 1 else n)
some-by n true is = omega arith
some-by n false is = not-zero n is

pub elements-some : (kind : SlType) → 0 < elements kind
elements-some kind = some-by kind.array (kind.array == 0) refl

pub past-none : {A : Type 0} (xs : List A) (k : ℕ) → slice_get xs k ≡ None → length xs ≤ k
past-none [] k e = omega arith
past-none (x ∷ xs) zero e = absurd cc
past-none (x ∷ xs) (suc k) e = omega (arith, past-none xs k e)

pub none-zero : {A : Type 0} (b : Bool) (o : Option A) (n : ℕ) → (if b then None else o) ≡ None → (o ≡ None → n ≡ 0)
    → (if b then 0 else n) ≡ 0
none-zero true o n e rest = refl
none-zero false o n e rest = rest e

number-by : (structs : List Struct) (counts : List ℕ) (number : ℕ) (o : Option Struct) → AreCounted structs counts
    → structure_at structs number ≡ o → number_at counts number ≡ min 65536 (structure_count structs number)
number-by structs counts number None are is =
    none-zero (number == 0) (slice_get structs (number - 1)) (get_or counts (number - 1) 0) is
    (λ none. get_or_past counts (number - 1) 0 (omega (arith, are.all, past-none structs (number - 1) none)))
    ∙ sym (ap (λ p. min 65536 (sum_by (λ f. element_count (before structs number) f.kind) (fields_of p))) is)
number-by structs counts number (Some s) are is =
    let there = there-within structs number s is in
    let not : (number == 0) ≡ false = grind (arith, common_steps, there.0) in
    let same : number - 1 + 1 ≡ number = omega (arith, there.0) in
    ap (λ b. if b then 0 else get_or counts (number - 1) 0) not
    ∙ are.each (number - 1) there.1
    ∙ ap (λ n. min 65536 (structure_count structs n)) same

counted-by : (structs : List Struct) (counts : List ℕ) (kind : SlType) (o : Option ℕ) → AreCounted structs counts
    → structure_of kind.base ≡ o → min 65536 (elements kind * min 65536 (one_counted counts o)) ≡ min 65536 (element_count structs kind)
counted-by structs counts kind None are is = times-one (elements kind) ∙ ap (λ n. min 65536 n) (sym (count-plain structs kind is))
counted-by structs counts kind (Some number) are is =
    ap (λ n. min 65536 (elements kind * min 65536 n)) (number-by structs counts number (structure_at structs number) are refl)
    ∙ min-times (elements kind) (structure_count structs number) (elements-some kind)
    ∙ ap (λ n. min 65536 n) (sym (count-structure structs kind number is))

pub counted-is : (structs : List Struct) (counts : List ℕ) (kind : SlType) → AreCounted structs counts
    → counted counts kind ≡ min 65536 (element_count structs kind)
unfolding counted
counted-is structs counts kind are = counted-by structs counts kind (structure_of kind.base) are refl

pub ruleset of_counts = (counted-is)

-- the structures so far are counted
pub counted-start : (structs : List Struct) (counts : List ℕ) → counts ≡ [] → AreCounted (take 0 structs) counts
counted-start structs counts none =
    subst (λ l. AreCounted (take 0 structs) l) (sym none)
    (record { all = refl; each = λ place within. absurd (omega (arith, within)) })

count-front : (structs : List Struct) (n number : ℕ) → number - 1 < n
    → structure_count (take n structs) number ≡ structure_count structs number
count-front structs n number less =
    ap (λ o. sum_by (λ f. element_count (before (take n structs) number) f.kind) (fields_of o)) (at-front structs n number less)
    ∙ ap (λ b. sum_by (λ f. element_count b f.kind) (fields_of (structure_at structs number))) (before-front structs n number less)

count-at : (structs : List Struct) (i : ℕ) (d : Struct) → i < length structs
    → structure_count structs (i + 1) ≡ sum_by (λ f. element_count (take i structs) f.kind) (get_or structs i d).fields
count-at structs i d within =
    let same : i + 1 - 1 ≡ i = omega arith in
    let some : (i + 1 == 0) ≡ false = grind (arith, common_steps) in
    ap (λ o. sum_by (λ f. element_count (before structs (i + 1)) f.kind) (fields_of o))
    (ap (λ b. if b then None else slice_get structs (i + 1 - 1)) some ∙ ap (slice_get structs) same ∙ slice_get-get_or structs i d within)
    ∙ ap (λ k. sum_by (λ f. element_count (take k structs) f.kind) (get_or structs i d).fields) same

counted-here : (structs : List Struct) (i : ℕ) (d : Struct) (counts : List ℕ) → i < length structs → AreCounted (take i structs) counts
    → min 65536 (sum_by (λ f. counted counts f.kind) (get_or structs i d).fields)
    ≡ min 65536 (structure_count (take (i + 1) structs) (i + 1))
counted-here structs i d counts within are =
    ap (λ n. min 65536 n)
    (sum-same (λ f. counted counts f.kind) (λ f. min 65536 (element_count (take i structs) f.kind)) (get_or structs i d).fields
    (λ f. counted-is (take i structs) counts f.kind are))
    ∙ sum-min (λ f. element_count (take i structs) f.kind) (get_or structs i d).fields
    ∙ ap (λ n. min 65536 n) (sym (count-at structs i d within))
    ∙ ap (λ n. min 65536 n) (sym (count-front structs (i + 1) (i + 1) (omega arith)))

pub counted-step : (structs : List Struct) (i : ℕ) (d : Struct) (counts more : List ℕ) (n : ℕ) → i < length structs
    → n ≡ min 65536 (sum_by (λ f. counted counts f.kind) (get_or structs i d).fields) → more ≡ counts ++ n ∷ []
    → AreCounted (take i structs) counts → AreCounted (take (i + 1) structs) more
counted-step structs i d counts more n within is added are =
    let size : length counts ≡ i = omega (arith, are.all, length-take i structs, within) in
    let longer : length more ≡ length counts + 1 = ap length added ∙ length_push counts n in
    record {
      all = omega (arith, longer, size, length-take (i + 1) structs, within);
      each = λ place inside.
          elim (cases_lt place i) [
            | inl less ↦
                ap (λ l. get_or l place 0) added ∙ get_or_append_left counts (n ∷ []) 0 place (omega (arith, less, size))
                ∙ are.each place (omega (arith, less, length-take i structs, within))
                ∙ ap (λ m. min 65536 m) (count-front structs i (place + 1) (omega (arith, less)))
                ∙ ap (λ m. min 65536 m) (sym (count-front structs (i + 1) (place + 1) (omega (arith, less))))
            | inr past ↦
                let here : i ≡ place = omega (arith, past, inside, length-take (i + 1) structs, within) in
                subst (λ k. get_or more k 0 ≡ min 65536 (structure_count (take (i + 1) structs) (k + 1))) here
                (ap (λ l. get_or l i 0) added ∙ get_or_push counts n 0 i size ∙ is ∙ counted-here structs i d counts within are)
          ];
    }

pub counted-end : (structs : List Struct) (i : ℕ) (counts : List ℕ) → length structs ≤ i → AreCounted (take i structs) counts
    → AreCounted structs counts
counted-end structs i counts past are = subst (λ s. AreCounted s counts) (take_all i structs past) are

pub ruleset of_structures = (counted-start, counted-step, counted-end)
