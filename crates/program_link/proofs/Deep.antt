-- What a uniform of structure type stands for depends neither on how deep structures may stand, once that is deep enough, nor on those
-- that are declared after its own.
use Rattle.std.proofs.Common.{◌≡◌, ℕ, ◌+◌, ◌-◌, ◌<◌, ◌≤◌, suc, zero, Bool, true, false, Option, Some, None, List, [], ◌∷◌, length, take, refl, sym, ap, ◌∙◌, arith, inl, inr}
use Rattle.std.specs.Prelude.{◌==◌, if◌then◌else◌, slice_get}
use Rattle.std.proofs.lemmas.Bool.{cases_lt}
use Rattle.std.proofs.lemmas.Grind.{common_steps}
use Rattle.std.proofs.lemmas.List.{length-take, take-take}
use Rattle.std.proofs.lemmas.Option.{slice_get_past, slice_get_within}
use mathlib.Core.Path.{fun_ext}
use Rattle.glsl_types.specs.declared.types.SlType.{SlType}
use Rattle.glsl_types.specs.declared.types.Struct.{Struct}
use Rattle.program_link.specs.declared.leaves.Leaf.{Leaf}
use Rattle.program_link.specs.Flattening.{fields_of, flattened, flattened_by, flattened_to_depth, members, structure_names}
use Rattle.program_link.specs.SameTypes.{before, structure_at, structure_of}

unless-some : {A : Type 0} (b : Bool) (o : Option A) (x : A) → (if b then None else o) ≡ Some x → (b ≡ false) × (o ≡ Some x)
unless-some true o x e = absurd cc
unless-some false o x e = (refl, e)

pub not-zero : (n : ℕ) → (n == 0) ≡ false → 0 < n
not-zero n e = grind (arith, common_steps)

-- a structure that is there has a number from 1 to their number
pub there-within : (structs : List Struct) (number : ℕ) (s : Struct) → structure_at structs number ≡ Some s
    → (0 < number) × (number - 1 < length structs) × (slice_get structs (number - 1) ≡ Some s)
there-within structs number s e =
    let both = unless-some (number == 0) (slice_get structs (number - 1)) s e in
    (not-zero number both.0, slice_get_within structs (number - 1) s both.1, both.1)

pub shorter : (structs : List Struct) (number : ℕ) → number - 1 < length structs → length (before structs number) < length structs
shorter structs number within = omega (arith, within, length-take (number - 1) structs)

-- members are the same where each field stands for the same
pub there-same : (f g : List ℕ → SlType → List Leaf) (names : List (List ℕ)) (o : Option Struct)
    → ((s : Struct) → o ≡ Some s → (n : List ℕ) (k : SlType) → f n k ≡ g n k)
    → members f names (fields_of o) ≡ members g names (fields_of o)
there-same f g names None same = refl
there-same f g names (Some s) same =
    ap (λ (h : List ℕ → SlType → List Leaf). members h names s.fields) (fun_ext (λ n. fun_ext (λ k. same s refl n k)))

by-same : (F G : ℕ → List ℕ → SlType → List Leaf) (structs : List Struct) (name : List ℕ) (kind : SlType) (o : Option ℕ)
    → ((number : ℕ) → number - 1 < length structs → (n : List ℕ) (k : SlType) → F number n k ≡ G number n k)
    → flattened_by F structs name kind o ≡ flattened_by G structs name kind o
by-same F G structs name kind None same = refl
by-same F G structs name kind (Some number) same =
    there-same (F number) (G number) (structure_names name kind.array) (structure_at structs number)
    (λ s e n k. same number ((there-within structs number s e).1) n k)

-- any depth above the number of structures is deep enough
pub deep-enough : (d e : ℕ) (structs : List Struct) (name : List ℕ) (kind : SlType) → length structs < d → length structs < e
    → flattened_to_depth d structs name kind ≡ flattened_to_depth e structs name kind
unfolding flattened_to_depth
deep-enough zero e structs name kind less also = absurd (omega (arith, less))
deep-enough (suc d) zero structs name kind less also = absurd (omega (arith, also))
deep-enough (suc d) (suc e) structs name kind less also =
    by-same (λ number. flattened_to_depth d (before structs number)) (λ number. flattened_to_depth e (before structs number)) structs name
    kind (structure_of kind.base)
    (λ number within n k.
    deep-enough d e (before structs number) n k (omega (arith, less, shorter structs number within))
    (omega (arith, also, shorter structs number within)))

at-depth : (d : ℕ) (structs : List Struct) (name : List ℕ) (kind : SlType) (o : Option ℕ) → structure_of kind.base ≡ o
    → flattened_to_depth (suc d) structs name kind
    ≡ flattened_by (λ number. flattened_to_depth d (before structs number)) structs name kind o
unfolding flattened_to_depth
at-depth d structs name kind o is = ap (flattened_by (λ number. flattened_to_depth d (before structs number)) structs name kind) is

at-first : (structs : List Struct) (name : List ℕ) (kind : SlType) (o : Option ℕ) → structure_of kind.base ≡ o
    → flattened structs name kind
    ≡ flattened_by (λ number. flattened_to_depth (length structs) (before structs number)) structs name kind o
at-first structs name kind o is =
    deep-enough (length structs + 1) (suc (length structs)) structs name kind (omega arith) (omega arith)
    ∙ at-depth (length structs) structs name kind o is

-- a uniform that is no structure stands for itself
pub flattened-plain : (structs : List Struct) (name : List ℕ) (kind : SlType) → structure_of kind.base ≡ None
    → flattened structs name kind ≡ (let a : Leaf = record { name = name; kind = kind } in a) ∷ []
flattened-plain structs name kind is = at-first structs name kind None is

-- one of a structure stands for what its members stand for
pub flattened-structure : (structs : List Struct) (name : List ℕ) (kind : SlType) (number : ℕ) → structure_of kind.base ≡ Some number
    → flattened structs name kind
    ≡ members (flattened (before structs number)) (structure_names name kind.array) (fields_of (structure_at structs number))
flattened-structure structs name kind number is =
    at-first structs name kind (Some number) is
    ∙ there-same (flattened_to_depth (length structs) (before structs number)) (flattened (before structs number))
    (structure_names name kind.array) (structure_at structs number)
    (λ s e n k.
    let within : number - 1 < length structs = (there-within structs number s e).1 in
    deep-enough (length structs) (length (before structs number) + 1) (before structs number) n k (shorter structs number within)
    (omega arith))

-- the structures of a front
pub slice_get-take : {A : Type 0} (n k : ℕ) (xs : List A) → k < n → slice_get (take n xs) k ≡ slice_get xs k
slice_get-take zero k xs less = absurd (omega (arith, less))
slice_get-take (suc n) k [] less = refl
slice_get-take (suc n) zero (x ∷ xs) less = refl
slice_get-take (suc n) (suc k) (x ∷ xs) less = slice_get-take n k xs (omega (arith, less))

pub slice_get-past_front : {A : Type 0} (n k : ℕ) (xs : List A) → n ≤ k → slice_get (take n xs) k ≡ None
slice_get-past_front n k xs past = slice_get_past (take n xs) k (omega (arith, past, length-take n xs))

pub at-front : (structs : List Struct) (n number : ℕ) → number - 1 < n → structure_at (take n structs) number ≡ structure_at structs number
at-front structs n number less = ap (λ o. if number == 0 then None else o) (slice_get-take n (number - 1) structs less)

pub before-front : (structs : List Struct) (n number : ℕ) → number - 1 < n → before (take n structs) number ≡ before structs number
before-front structs n number less = take-take (number - 1) n structs (omega (arith, less))

-- the fields of a structure by its number, if it is among the first so many
pub fields-none : (structs : List Struct) (number seen : ℕ) → number ≡ 0 → fields_of (structure_at (take seen structs) number) ≡ []
fields-none structs number seen none = rw none refl

pub fields-past : (structs : List Struct) (number place seen : ℕ) → 0 < number → place ≡ number - 1
    → slice_get (take seen structs) place ≡ None → fields_of (structure_at (take seen structs) number) ≡ []
fields-past structs number place seen some is none =
    let not : (number == 0) ≡ false = grind (arith, common_steps) in
    ap fields_of (ap (λ b. if b then None else slice_get (take seen structs) (number - 1)) not
    ∙ ap (slice_get (take seen structs)) (sym is) ∙ none)

pub fields-unseen : (structs : List Struct) (number place seen : ℕ) → 0 < number → place ≡ number - 1 → seen ≤ place
    → fields_of (structure_at (take seen structs) number) ≡ []
fields-unseen structs number place seen some is past =
    fields-past structs number place seen some is (slice_get-past_front seen place structs past)

none-again : (structs : List Struct) (place seen : ℕ) → slice_get structs place ≡ None → slice_get (take seen structs) place ≡ None
none-again structs place seen none =
    elim (cases_lt place seen) [
      | inl less ↦ slice_get-take seen place structs less ∙ none
      | inr past ↦ slice_get-past_front seen place structs past
    ]

pub fields-nowhere : (structs : List Struct) (number place seen : ℕ) → 0 < number → place ≡ number - 1 → slice_get structs place ≡ None
    → fields_of (structure_at (take seen structs) number) ≡ []
fields-nowhere structs number place seen some is none =
    fields-past structs number place seen some is (none-again structs place seen none)

pub fields-there : (structs : List Struct) (number place seen : ℕ) (s : Struct) → 0 < number → place ≡ number - 1 → place < seen
    → slice_get structs place ≡ Some s → fields_of (structure_at (take seen structs) number) ≡ s.fields
fields-there structs number place seen s some is within there =
    let not : (number == 0) ≡ false = grind (arith, common_steps) in
    ap fields_of (ap (λ b. if b then None else slice_get (take seen structs) (number - 1)) not
    ∙ ap (slice_get (take seen structs)) (sym is) ∙ slice_get-take seen place structs within ∙ there)

pub ruleset of_fronts = (fields-none, fields-unseen, fields-nowhere, fields-there)
