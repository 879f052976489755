-- What stands for all that is pending stays the same where its top is taken apart, and there is less left to do.
use Rattle.std.proofs.Common.{◌≡◌, ℕ, ◌+◌, ◌-◌, ◌*◌, ◌^◌, ◌<◌, ◌≤◌, suc, zero, Bool, true, false, Option, Some, None, List, [], ◌∷◌, ◌++◌, length, map, take, refl, sym, ap, ◌∙◌, arith, append_assoc, append-nil}
use Rattle.std.specs.Prelude.{◌==◌, if◌then◌else◌, reverse, slice_get}
use Rattle.std.specs.List.{flat_map, range_with_len, sum_by}
use Rattle.std.proofs.lemmas.Grind.{flat_map-append, pow_more}
use Rattle.std.proofs.lemmas.List.{length-take, map-append, take_all}
use Rattle.std.proofs.lemmas.List.FromFn.{length-range_with_len}
use Rattle.std.proofs.lemmas.List.Sums.{sum_by-append, sum_by-cons}
use Rattle.std.proofs.Math.Nat.{mul-le-mul_left, mul-le-mul_right, one-le-pow, pow-le-pow_right}
use Rattle.glsl_types.specs.declared.types.Field.{Field}
use Rattle.glsl_types.specs.declared.types.Struct.{Struct}
use Rattle.program_link.specs.declared.flattening.Pending.{Pending}
use Rattle.program_link.specs.declared.leaves.Leaf.{Leaf}
use Rattle.program_link.specs.Flattening.{element_name, element_names, fields_of, flattened, member_name, structure_names}
use Rattle.program_link.specs.Kept.{kept_leaf, kept_part}
use Rattle.program_link.specs.SameTypes.{before, structure_at, structure_of}
use Rattle.program_link.specs.Standing.{entries, entry, field_count, standing, stands_for, weight}
use Rattle.program_link.proofs.Alike.{in_structure, kept-alike}
use Rattle.program_link.proofs.Counting.{sum-constant, sum-flat_map, sum-map}
use Rattle.program_link.proofs.Deep.{before-front, flattened-plain, flattened-structure, slice_get-take, there-same, there-within}
use Rattle.program_link.proofs.KeptNames.{kept-twice}
use Rattle.program_link.proofs.Members.{reverse-push}

-- the entries of a structure's members stand for what the members do
stand-fields : (structs : List Struct) (place : ℕ) (name : List ℕ) (fields : List Field)
    → map kept_leaf (in_structure (flattened (take place structs)) fields name)
    ≡ flat_map (stands_for structs) (map (entry name place) fields)
stand-fields structs place name [] = refl
stand-fields structs place name (f ∷ fields) =
    let member : List ℕ = member_name name f.name in
    let own : map kept_leaf (flattened (take place structs) member f.kind) ≡ stands_for structs (entry name place f) =
    kept-alike (take place structs) member (kept_part member) f.kind (sym (kept-twice member)) in
    map-append kept_leaf (flattened (take place structs) member f.kind) (in_structure (flattened (take place structs)) fields name)
    ∙ (λ i. own i ++ stand-fields structs place name fields i)

stand-elements : (structs : List Struct) (place : ℕ) (name : List ℕ) (fields : List Field) (places : List ℕ)
    → map kept_leaf (flat_map (in_structure (flattened (take place structs)) fields) (map (element_name name) places))
    ≡ flat_map (stands_for structs) (flat_map (λ k. map (entry (element_name name k) place) fields) places)
stand-elements structs place name fields [] = refl
stand-elements structs place name fields (k ∷ places) =
    let G : List ℕ → List Leaf = in_structure (flattened (take place structs)) fields in
    map-append kept_leaf (G (element_name name k)) (flat_map G (map (element_name name) places))
    ∙ (λ i. stand-fields structs place (element_name name k) fields i ++ stand-elements structs place name fields places i)
    ∙ sym (flat_map-append (stands_for structs) (map (entry (element_name name k) place) fields)
    (flat_map (λ q. map (entry (element_name name q) place) fields) places))

stand-by : (structs : List Struct) (place : ℕ) (name : List ℕ) (array : ℕ) (fields : List Field) (b : Bool)
    → map kept_leaf (flat_map (in_structure (flattened (take place structs)) fields) (if b then name ∷ [] else element_names name array))
    ≡ flat_map (stands_for structs)
    (if b then map (entry name place) fields else flat_map (λ k. map (entry (element_name name k) place) fields) (range_with_len 0 array))
stand-by structs place name array fields true =
    ap (λ l. map kept_leaf l) (append-nil (in_structure (flattened (take place structs)) fields name))
    ∙ stand-fields structs place name fields
stand-by structs place name array fields false = stand-elements structs place name fields (range_with_len 0 array)

stand-structure : (structs : List Struct) (top : Pending) (number : ℕ) → structure_of top.kind.base ≡ Some number
    → stands_for structs top
    ≡ flat_map (stands_for structs)
    (entries top.name top.kind.array (number - 1) (fields_of (structure_at (take top.seen structs) number)))
stand-structure structs top number is =
    let names : List (List ℕ) = structure_names top.name top.kind.array in
    let front : List Struct = take top.seen structs in
    ap (λ l. map kept_leaf l)
    (flattened-structure front top.name top.kind number is
    ∙ there-same (flattened (before front number)) (flattened (before structs number)) names (structure_at front number)
    (λ s e n k. ap (λ b. flattened b n k)
    (before-front structs top.seen number
    (omega (arith, (there-within front number s e).1, length-take top.seen structs)))))
    ∙ stand-by structs (number - 1) top.name top.kind.array (fields_of (structure_at front number)) (top.kind.array == 0)

-- a structure is taken apart
pub turn-structure : (structs : List Struct) (top : Pending) (number place : ℕ) (fields : List Field) (new old : List Pending)
    (leaves : List Leaf) → structure_of top.kind.base ≡ Some number → place ≡ number - 1
    → fields ≡ fields_of (structure_at (take top.seen structs) number) → new ≡ entries top.name top.kind.array place fields ++ old
    → leaves ++ standing structs new ≡ leaves ++ standing structs (top ∷ old)
unfolding standing
turn-structure structs top number place fields new old leaves is next there added =
    let own : flat_map (stands_for structs) (entries top.name top.kind.array place fields) ≡ stands_for structs top =
    (λ i. flat_map (stands_for structs) (entries top.name top.kind.array (next i) (there i)))
    ∙ sym (stand-structure structs top number is) in
    ap (λ l. leaves ++ l)
    (ap (flat_map (stands_for structs)) added
    ∙ flat_map-append (stands_for structs) (entries top.name top.kind.array place fields) old
    ∙ ap (λ l. l ++ flat_map (stands_for structs) old) own)

-- a uniform that is no structure is added
pub turn-plain : (structs : List Struct) (top : Pending) (leaf : Leaf) (old : List Pending) (done more : List Leaf)
    → structure_of top.kind.base ≡ None → leaf.name ≡ top.name → leaf.kind ≡ top.kind → kept_part leaf.name ≡ leaf.name
    → more ≡ done ++ leaf ∷ [] → more ++ standing structs old ≡ done ++ standing structs (top ∷ old)
unfolding standing
turn-plain structs top leaf old done more is name kind kept added =
    let own : stands_for structs top ≡ leaf ∷ [] =
    ap (λ l. map kept_leaf l) (flattened-plain (take top.seen structs) top.name top.kind is)
    ∙ (λ i. (let a : Leaf = record { name = kept_part (sym name i); kind = sym kind i } in a) ∷ [])
    ∙ ap (λ n. (let a : Leaf = record { name = n; kind = leaf.kind } in a) ∷ []) kept in
    ap (λ l. l ++ flat_map (stands_for structs) old) added
    ∙ append_assoc done (leaf ∷ []) (flat_map (stands_for structs) old)
    ∙ ap (λ l. done ++ (l ++ flat_map (stands_for structs) old)) (sym own)

-- weights
some-weight : (n seen : ℕ) → 0 < suc n ^ seen
some-weight n seen = omega (arith, one-le-pow seen (suc n) (omega arith))

pub lighter-plain : (structs : List Struct) (top : Pending) (old : List Pending) → weight structs old < weight structs (top ∷ old)
unfolding weight
lighter-plain structs top old =
    omega (
      arith,
      sum_by-cons (λ p. suc (2 ^ 32 * field_count structs) ^ p.seen) top old,
      some-weight (2 ^ 32 * field_count structs) top.seen,
    )

field-within : (structs : List Struct) (k : ℕ) (s : Struct) → slice_get structs k ≡ Some s → length s.fields ≤ field_count structs
field-within [] k s e = absurd cc
field-within (x ∷ xs) zero s e =
    let same : length x.fields ≡ length s.fields = ap (λ (o : Option Struct). length (fields_of o)) e in
    omega (arith, same, sum_by-cons (λ t. length t.fields) x xs)
field-within (x ∷ xs) (suc k) s e =
    omega (arith, field-within xs k s e, sum_by-cons (λ t. length t.fields) x xs)

weight-fields : (w place : ℕ) (name : List ℕ) (fields : List Field)
    → sum_by (λ (p : Pending). w ^ p.seen) (map (entry name place) fields) ≡ length fields * w ^ place
weight-fields w place name fields =
    sym (sum-map (λ (p : Pending). w ^ p.seen) (entry name place) fields)
    ∙ sum-constant (λ f. w ^ place) (w ^ place) fields (λ f. refl)

-- how many structures there are
abbrev copies : ℕ → ℕ
copies array = if array == 0 then 1 else array

weight-by : (w place : ℕ) (name : List ℕ) (array : ℕ) (fields : List Field) (b : Bool)
    → sum_by (λ (p : Pending). w ^ p.seen)
    (if b then map (entry name place) fields else flat_map (λ k. map (entry (element_name name k) place) fields) (range_with_len 0 array))
    ≡ (if b then 1 else array) * (length fields * w ^ place)
weight-by w place name array fields true = omega (arith, weight-fields w place name fields)
weight-by w place name array fields false =
    sum-flat_map (λ (p : Pending). w ^ p.seen) (λ k. map (entry (element_name name k) place) fields) (range_with_len 0 array)
    ∙ sum-constant (λ k. sum_by (λ (p : Pending). w ^ p.seen) (map (entry (element_name name k) place) fields)) (length fields * w ^ place)
    (range_with_len 0 array) (λ k. weight-fields w place (element_name name k) fields)
    ∙ ap (λ n. n * (length fields * w ^ place)) (length-range_with_len 0 array)

few-by : (array : ℕ) (b : Bool) → array < 2 ^ 32 → (if b then 1 else array) ≤ 2 ^ 32
few-by array true few = omega arith
few-by array false few = omega (arith, few)

-- the members of a structure weigh less than it
heavier : (f p m u : ℕ) → 0 < p → m ≤ 2 ^ 32 * (f * p) → p * suc (2 ^ 32 * f) ≤ u → m < u
heavier f p m u some within up = omega (arith, some, within, up)

light-members : (c n f place seen : ℕ) → c ≤ 2 ^ 32 → n ≤ f → place < seen
    → c * (n * suc (2 ^ 32 * f) ^ place) < suc (2 ^ 32 * f) ^ seen
light-members c n f place seen few within less =
    let fields : n * suc (2 ^ 32 * f) ^ place ≤ f * suc (2 ^ 32 * f) ^ place = mul-le-mul_right (suc (2 ^ 32 * f) ^ place) within in
    let one : c * (n * suc (2 ^ 32 * f) ^ place) ≤ c * (f * suc (2 ^ 32 * f) ^ place) = mul-le-mul_left c fields in
    let all : c * (f * suc (2 ^ 32 * f) ^ place) ≤ 2 ^ 32 * (f * suc (2 ^ 32 * f) ^ place) =
    mul-le-mul_right (f * suc (2 ^ 32 * f) ^ place) few in
    let up : suc (2 ^ 32 * f) ^ (place + 1) ≤ suc (2 ^ 32 * f) ^ seen = pow-le-pow_right (omega arith) (omega (arith, less)) in
    heavier f (suc (2 ^ 32 * f) ^ place) (c * (n * suc (2 ^ 32 * f) ^ place)) (suc (2 ^ 32 * f) ^ seen) (some-weight (2 ^ 32 * f) place)
    (omega (arith, one, all)) (rw (pow_more (suc (2 ^ 32 * f)) place) at up)

light-by : (structs : List Struct) (top : Pending) (number : ℕ) (o : Option Struct) → top.kind.array < 2 ^ 32
    → structure_at (take top.seen structs) number ≡ o
    → copies top.kind.array * (length (fields_of o) * suc (2 ^ 32 * field_count structs) ^ (number - 1))
    < suc (2 ^ 32 * field_count structs) ^ top.seen
light-by structs top number None few is =
    omega (arith, some-weight (2 ^ 32 * field_count structs) top.seen)
light-by structs top number (Some s) few is =
    let there = there-within (take top.seen structs) number s is in
    let less : number - 1 < top.seen = omega (arith, there.1, length-take top.seen structs) in
    light-members (copies top.kind.array) (length s.fields) (field_count structs) (number - 1) top.seen
    (few-by top.kind.array (top.kind.array == 0) few)
    (field-within structs (number - 1) s (sym (slice_get-take top.seen (number - 1) structs less) ∙ there.2)) less

pub lighter-structure : (structs : List Struct) (top : Pending) (number place : ℕ) (fields : List Field) (new old : List Pending)
    → top.kind.array < 2 ^ 32 → place ≡ number - 1
    → fields ≡ fields_of (structure_at (take top.seen structs) number) → new ≡ entries top.name top.kind.array place fields ++ old
    → weight structs new < weight structs (top ∷ old)
unfolding weight
lighter-structure structs top number place fields new old few next there added =
    let c : Pending → ℕ = λ p. suc (2 ^ 32 * field_count structs) ^ p.seen in
    let own : sum_by c (entries top.name top.kind.array place fields)
    ≡ copies top.kind.array
    * (length (fields_of (structure_at (take top.seen structs) number)) * suc (2 ^ 32 * field_count structs) ^ (number - 1)) =
    weight-by (suc (2 ^ 32 * field_count structs)) place top.name top.kind.array fields (top.kind.array == 0)
    ∙ (λ i. copies top.kind.array * (length (there i) * suc (2 ^ 32 * field_count structs) ^ next i)) in
    let all : sum_by c new ≡ sum_by c (entries top.name top.kind.array place fields) + sum_by c old =
    ap (sum_by c) added ∙ sum_by-append c (entries top.name top.kind.array place fields) old in
    omega (arith, all, own, sum_by-cons c top old, light-by structs top number (structure_at (take top.seen structs) number) few refl)

-- at the beginning a uniform is pending by itself, and each turn takes the top
pub standing-start : (structs : List Struct) (name : List ℕ) (p : Pending) (pending : List Pending) (leaves : List Leaf)
    → p.name ≡ kept_part name → p.seen ≡ length structs → pending ≡ [] ++ p ∷ []
    → leaves ++ standing structs (reverse pending) ≡ leaves ++ map kept_leaf (flattened structs name p.kind)
unfolding standing
standing-start structs name p pending leaves named seen is =
    ap (λ l. leaves ++ l)
    (ap (λ l. flat_map (stands_for structs) (reverse l)) is
    ∙ append-nil (stands_for structs p)
    ∙ (λ i. map kept_leaf (flattened (take (seen i) structs) (named i) p.kind))
    ∙ ap (λ s. map kept_leaf (flattened s (kept_part name) p.kind)) (take_all (length structs) structs (omega arith))
    ∙ kept-alike structs (kept_part name) name p.kind (kept-twice name))

pub standing-end : (structs : List Struct) (pending : List Pending) (leaves : List Leaf) → pending ≡ []
    → leaves ++ standing structs (reverse pending) ≡ leaves
unfolding standing
standing-end structs pending leaves none = ap (λ l. leaves ++ flat_map (stands_for structs) (reverse l)) none ∙ append-nil leaves

pub ruleset of_loop = (reverse-push, standing-start, standing-end)

pub ruleset of_turns = (turn-structure, turn-plain, lighter-plain, lighter-structure)
