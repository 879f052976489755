-- Uniforms with their slots, and names that fit.
use Rattle.std.proofs.Common.{◌≡◌, ℕ, ◌+◌, ◌<◌, ◌≤◌, suc, zero, min, Bool, true, false, List, [], ◌∷◌, ◌++◌, All, length, map, drop, take, get_or, refl, sym, ap, ◌∙◌, arith, append_assoc, append-nil, inl, inr}
use Rattle.std.specs.Prelude.{◌==◌, ◌||◌, if◌then◌else◌, nat_lt}
use Rattle.std.specs.List.{list_any}
use Rattle.std.proofs.lemmas.Bool.{cases_lt}
use Rattle.std.proofs.lemmas.Fmt.{decimal_digit}
use Rattle.std.proofs.lemmas.Grind.{common_steps}
use Rattle.std.proofs.lemmas.List.{drop_all, drop_more, length-append, length-take, take_all, take_at, take_more}
use Rattle.std.proofs.lemmas.Slice.{take-put_mid}
use borrow.Rule.Slice.PartMut.{put_mid}
use Rattle.std.proofs.lemmas.List.Elements.{All-cons}
use Rattle.std.proofs.lemmas.List.Sums.{sum_by-cons}
use Rattle.glsl_types.specs.declared.interface.Item.{Item}
use Rattle.glsl_types.specs.declared.types.SlType.{SlType}
use Rattle.uniform_values.specs.Layout.{elements, slot_count}
use Rattle.program_link.specs.declared.active.Attribute.{Attribute}
use Rattle.program_link.specs.declared.active.Uniform.{Uniform}
use Rattle.program_link.specs.declared.leaves.Leaf.{Leaf}
use Rattle.program_link.specs.Flattening.{element_name, elements_of, full_name}
use Rattle.program_link.specs.Kept.{kept_leaf, kept_part}
use Rattle.program_link.specs.Linked.{at_locations, at_slots}
use Rattle.program_link.specs.Rules.{is_too_long, name_bytes_max, names_too_long}

-- one more uniform has its slots
pub slot-step : (ls : List Leaf) (i : ℕ) (d : Leaf) (first next : ℕ) (u : Uniform) (done more whole : List Uniform) → i < length ls
    → u ≡ (let a : Uniform = record { name = (get_or ls i d).name; kind = (get_or ls i d).kind; first = first } in a)
    → next ≡ first + elements (get_or ls i d).kind → more ≡ done ++ u ∷ [] → whole ≡ done ++ at_slots first (drop i ls)
    → whole ≡ more ++ at_slots next (drop (i + 1) ls)
unfolding at_slots
slot-step ls i d first next u done more whole within is after added so_far =
    so_far ∙ ap (λ l. done ++ at_slots first l) (drop_more ls i d within)
    ∙ (λ k. done ++ sym is k ∷ at_slots (sym after k) (drop (i + 1) ls))
    ∙ sym (append_assoc done (u ∷ []) (at_slots next (drop (i + 1) ls)))
    ∙ ap (λ l. l ++ at_slots next (drop (i + 1) ls)) (sym added)

pub slot-end : (ls : List Leaf) (i first : ℕ) (done whole : List Uniform) → length ls ≤ i
    → whole ≡ done ++ at_slots first (drop i ls) → whole ≡ done
unfolding at_slots
slot-end ls i first done whole past so_far =
    so_far ∙ ap (λ l. done ++ at_slots first l) (drop_all i ls past) ∙ append-nil done

pub rest-elements : (ls : List Leaf) (i : ℕ) (d : Leaf) → i < length ls
    → elements_of (drop i ls) ≡ elements (get_or ls i d).kind + elements_of (drop (i + 1) ls)
rest-elements ls i d within =
    ap (λ l. elements_of l) (drop_more ls i d within) ∙ sum_by-cons (λ leaf. elements leaf.kind) (get_or ls i d) (drop (i + 1) ls)

pub ruleset of_slots = (slot-step, slot-end, rest-elements)

-- what tests say
or-left : (a b : Bool) → (a || b) ≡ false → a ≡ false
or-left true b e = absurd cc
or-left false b e = refl

or-right : (a b : Bool) → (a || b) ≡ false → b ≡ false
or-right true b e = absurd cc
or-right false b e = e

not-long : (name : List ℕ) → is_too_long name ≡ false → length name ≤ 256
not-long name e = grind (arith, common_steps)

-- names of attributes fit
pub attributes-fit : (items : List Item) (locations : List ℕ) → list_any (λ item. is_too_long item.name) items ≡ false
    → All (λ a. length a.name ≤ name_bytes_max) (at_locations items locations)
unfolding at_locations
attributes-fit [] [] e = λ k d within. absurd (omega (arith, within))
attributes-fit [] (location ∷ locations) e = λ k d within. absurd (omega (arith, within))
attributes-fit (item ∷ items) [] e = λ k d within. absurd (omega (arith, within))
attributes-fit (item ∷ items) (location ∷ locations) e =
    All-cons (λ a. length a.name ≤ 256)
    (let a : Attribute = record { name = item.name; base = item.kind.base; location = location } in a) (at_locations items locations)
    (not-long item.name (or-left (is_too_long item.name) (list_any (λ i. is_too_long i.name) items) e))
    (attributes-fit items locations (or-right (is_too_long item.name) (list_any (λ i. is_too_long i.name) items) e))

-- and those of uniforms
pub uniforms-fit : (first : ℕ) (ls : List Leaf) → list_any (λ leaf. is_too_long (full_name leaf.name leaf.kind)) ls ≡ false
    → All (λ u. length (full_name u.name u.kind) ≤ name_bytes_max) (at_slots first ls)
unfolding at_slots
uniforms-fit first [] e = λ k d within. absurd (omega (arith, within))
uniforms-fit first (l ∷ ls) e =
    All-cons (λ u. length (full_name u.name u.kind) ≤ 256)
    (let u : Uniform = record { name = l.name; kind = l.kind; first = first } in u) (at_slots (first + elements l.kind) ls)
    (not-long (full_name l.name l.kind)
    (or-left (is_too_long (full_name l.name l.kind)) (list_any (λ leaf. is_too_long (full_name leaf.name leaf.kind)) ls) e))
    (uniforms-fit (first + elements l.kind) ls
    (or-right (is_too_long (full_name l.name l.kind)) (list_any (λ leaf. is_too_long (full_name leaf.name leaf.kind)) ls) e))

-- slots are small
pub slots-fit : (first : ℕ) (ls : List Leaf) → first + elements_of ls ≤ 65536
    → All (λ u. u.first + elements u.kind ≤ 65536) (at_slots first ls)
unfolding at_slots
slots-fit first [] few = λ k d within. absurd (omega (arith, within))
slots-fit first (l ∷ ls) few =
    let sum : elements_of (l ∷ ls) ≡ elements l.kind + elements_of ls = sum_by-cons (λ leaf. elements leaf.kind) l ls in
    All-cons (λ u. u.first + elements u.kind ≤ 65536)
    (let u : Uniform = record { name = l.name; kind = l.kind; first = first } in u) (at_slots (first + elements l.kind) ls)
    (omega (arith, few, sum)) (slots-fit (first + elements l.kind) ls (omega (arith, few, sum)))

pub slots-counted : (first : ℕ) (ls : List Leaf) → slot_count (map (λ u. u.kind) (at_slots first ls)) ≡ elements_of ls
unfolding at_slots
slots-counted first [] = refl
slots-counted first (l ∷ ls) =
    ap (λ n. elements l.kind + n) (slots-counted (first + elements l.kind) ls)
    ∙ sym (sum_by-cons (λ leaf. elements leaf.kind) l ls)

pub names-attributes : (items : List Item) (ls : List Leaf) → names_too_long items ls ≡ false
    → list_any (λ item. is_too_long item.name) items ≡ false
names-attributes items ls e = or-left _ _ e

pub names-uniforms : (items : List Item) (ls : List Leaf) → names_too_long items ls ≡ false
    → list_any (λ leaf. is_too_long (full_name leaf.name leaf.kind)) ls ≡ false
names-uniforms items ls e = or-right _ _ e

pub made-attributes : (items : List Item) (locations : List ℕ) (ls : List Leaf) (made : List Attribute) → names_too_long items ls ≡ false
    → made ≡ at_locations items locations → All (λ a. length a.name ≤ name_bytes_max) made
made-attributes items locations ls made e is =
    rw is (attributes-fit items locations (names-attributes items ls e))

pub made-uniforms : (items : List Item) (ls : List Leaf) (made : List Uniform) → names_too_long items ls ≡ false
    → made ≡ at_slots 0 ls → All (λ u. length (full_name u.name u.kind) ≤ name_bytes_max) made
made-uniforms items ls made e is = rw is (uniforms-fit 0 ls (names-uniforms items ls e))

pub made-slots : (ls : List Leaf) (made : List Uniform) → elements_of ls ≤ 65536 → made ≡ at_slots 0 ls
    → All (λ u. u.first + elements u.kind ≤ 65536) made
made-slots ls made few is = rw is (slots-fit 0 ls (omega (arith, few)))

pub made-few : (ls : List Leaf) (made : List Uniform) → elements_of ls ≤ 65536 → made ≡ at_slots 0 ls
    → slot_count (map (λ u. u.kind) made) ≤ 65536
made-few ls made few is =
    omega (arith, few, ap (λ l. slot_count (map (λ (u : Uniform). u.kind) l)) is, slots-counted 0 ls)

pub ruleset of_made = (made-attributes, made-uniforms, made-slots, made-few)

-- the length of a full name
full-by : (name : List ℕ) (b : Bool) → length (if b then name else element_name name 0) ≡ length name + (if b then 0 else 3)
full-by name true = omega arith
full-by name false =
    ap (λ d. length (name ++ 91 ∷ (d ++ 93 ∷ []))) (decimal_digit 0 (omega arith)) ∙ length-append name (91 ∷ 48 ∷ 93 ∷ [])

pub full-length : (name : List ℕ) (kind : SlType) → length (full_name name kind) ≡ length name + (if kind.array == 0 then 0 else 3)
full-length name kind = full-by name (kind.array == 0)

pub not-single : (n : ℕ) → (n ≡ 0 → ⊥) → (n == 0) ≡ false
not-single zero some = absurd (some refl)
not-single (suc n) some = grind (arith, common_steps)

-- the full name of an array
pub full-array : (name : List ℕ) (kind : SlType) → (kind.array == 0) ≡ false → full_name name kind ≡ name ++ 91 ∷ 48 ∷ 93 ∷ []
full-array name kind is =
    ap (λ b. if b then name else element_name name 0) is
    ∙ ap (λ d. name ++ 91 ∷ (d ++ 93 ∷ [])) (decimal_digit 0 (omega arith))

-- the bytes of a name and three more, as they were written
pub suffix-written : (name first last rest : List ℕ) (k : ℕ) → first ≡ name → last ≡ 91 ∷ 48 ∷ 93 ∷ []
    → take (length name + 3) (put_mid (length name) k (first ++ rest) last) ≡ name ++ 91 ∷ 48 ∷ 93 ∷ []
suffix-written name first last rest k own suffix =
    take-put_mid (length name) k (first ++ rest) last (length name + 3) (omega (arith, ap length suffix))
    (omega (arith, length-append first rest, ap length own))
    ∙ (λ i. (take_at first rest (length name) (ap length own) ∙ own) i ++ suffix i)

pub array-length : (name : List ℕ) (kind : SlType) → (kind.array == 0) ≡ false → length (full_name name kind) ≡ length name + 3
array-length name kind is = ap length (full-array name kind is) ∙ length-append name (91 ∷ 48 ∷ 93 ∷ [])

long-true : (n : ℕ) → 256 < n → nat_lt 256 n ≡ true
long-true n more = grind (arith, common_steps)

-- the names so far
or-true : (b : Bool) → (b || true) ≡ true
or-true true = refl
or-true false = refl

or-none : (a b : Bool) → a ≡ false → b ≡ false → (a || b) ≡ false
or-none a b x y = rw (x, y) refl

any-at : {A : Type 0} (p : A → Bool) (xs : List A) (i : ℕ) (d : A) → i < length xs → p (get_or xs i d) ≡ true → list_any p xs ≡ true
any-at p [] i d within is = absurd (omega (arith, within))
any-at p (x ∷ xs) zero d within is = ap (λ b. b || list_any p xs) is
any-at p (x ∷ xs) (suc i) d within is = ap (λ b. p x || b) (any-at p xs i d (omega (arith, within)) is) ∙ or-true (p x)

any-last : {A : Type 0} (p : A → Bool) (xs : List A) (y : A) → list_any p xs ≡ false → p y ≡ false → list_any p (xs ++ y ∷ []) ≡ false
any-last p [] y none is = or-none (p y) false is refl
any-last p (x ∷ xs) y none is =
    or-none (p x) (list_any p (xs ++ y ∷ [])) (or-left (p x) (list_any p xs) none)
    (any-last p xs y (or-right (p x) (list_any p xs) none) is)

pub suffix-long : (leaf : Leaf) (n s : ℕ) → n ≡ length leaf.name → s ≡ (if leaf.kind.array == 0 then 0 else 3) → 256 < n + s
    → is_too_long (full_name leaf.name leaf.kind) ≡ true
suffix-long leaf n s size suffix more =
    long-true (length (full_name leaf.name leaf.kind)) (omega (arith, full-length leaf.name leaf.kind, size, suffix, more))

long-false : (n : ℕ) → n ≤ 256 → nat_lt 256 n ≡ false
long-false n less = grind (arith, common_steps)

pub suffix-short : (leaf : Leaf) (n s : ℕ) → n ≡ length leaf.name → s ≡ (if leaf.kind.array == 0 then 0 else 3) → n + s ≤ 256
    → is_too_long (full_name leaf.name leaf.kind) ≡ false
suffix-short leaf n s size suffix less =
    long-false (length (full_name leaf.name leaf.kind)) (omega (arith, full-length leaf.name leaf.kind, size, suffix, less))

pub long-found : (items : List Item) (ls : List Leaf) (i : ℕ) (d : Leaf) → i < length ls → d ≡ get_or ls i d
    → is_too_long (full_name d.name d.kind) ≡ true → true ≡ names_too_long items ls
long-found items ls i d within is long =
    sym (ap (λ b. list_any (λ item. is_too_long item.name) items || b)
    (any-at (λ leaf. is_too_long (full_name leaf.name leaf.kind)) ls i d within
    (ap (λ (l : Leaf). is_too_long (full_name l.name l.kind)) (sym is) ∙ long))
    ∙ or-true (list_any (λ item. is_too_long item.name) items))

pub short-more : (ls : List Leaf) (i : ℕ) (d : Leaf) → i < length ls → d ≡ get_or ls i d
    → is_too_long (full_name d.name d.kind) ≡ false
    → list_any (λ leaf. is_too_long (full_name leaf.name leaf.kind)) (take i ls) ≡ false
    → list_any (λ leaf. is_too_long (full_name leaf.name leaf.kind)) (take (i + 1) ls) ≡ false
short-more ls i d within is short so_far =
    ap (list_any (λ (leaf : Leaf). is_too_long (full_name leaf.name leaf.kind))) (take_more ls i d within)
    ∙ any-last (λ leaf. is_too_long (full_name leaf.name leaf.kind)) (take i ls) (get_or ls i d) so_far
    (ap (λ (l : Leaf). is_too_long (full_name l.name l.kind)) (sym is) ∙ short)

long-by : (n s : ℕ) → nat_lt 256 (min 257 n + s) ≡ nat_lt 256 (n + s)
long-by n s =
    elim (cases_lt n 257) [
      | inl less ↦ let same : min 257 n ≡ n = omega (arith, less) in ap (λ k. nat_lt 256 (k + s)) same
      | inr more ↦ long-true (min 257 n + s) (omega (arith, more)) ∙ sym (long-true (n + s) (omega (arith, more)))
    ]

long-kept : (name : List ℕ) (kind : SlType)
    → is_too_long (full_name (kept_part name) kind) ≡ is_too_long (full_name name kind)
long-kept name kind =
    ap (nat_lt 256) (full-length (kept_part name) kind ∙ ap (λ n. n + (if kind.array == 0 then 0 else 3)) (length-take 257 name))
    ∙ long-by (length name) (if kind.array == 0 then 0 else 3) ∙ ap (nat_lt 256) (sym (full-length name kind))

-- the kept names are too long exactly where the whole names are
any-kept : (ls : List Leaf) → list_any (λ leaf. is_too_long (full_name leaf.name leaf.kind)) (map kept_leaf ls)
    ≡ list_any (λ leaf. is_too_long (full_name leaf.name leaf.kind)) ls
any-kept [] = refl
any-kept (l ∷ ls) = λ i. long-kept l.name l.kind i || any-kept ls i

pub names-kept : (items : List Item) (ls : List Leaf) → names_too_long items (map kept_leaf ls) ≡ names_too_long items ls
names-kept items ls = ap (λ b. list_any (λ item. is_too_long item.name) items || b) (any-kept ls)

-- names that aren't too long were kept whole
pub kept-all : (ls : List Leaf) → list_any (λ leaf. is_too_long (full_name leaf.name leaf.kind)) ls ≡ false → map kept_leaf ls ≡ ls
kept-all [] e = refl
kept-all (l ∷ ls) e =
    let rest : list_any (λ leaf. is_too_long (full_name leaf.name leaf.kind)) ls ≡ false =
    or-right (is_too_long (full_name l.name l.kind)) (list_any (λ leaf. is_too_long (full_name leaf.name leaf.kind)) ls) e in
    let short : length (full_name l.name l.kind) ≤ 256 =
    not-long (full_name l.name l.kind)
    (or-left (is_too_long (full_name l.name l.kind)) (list_any (λ leaf. is_too_long (full_name leaf.name leaf.kind)) ls) e) in
    let name : kept_part l.name ≡ l.name = take_all 257 l.name (omega (arith, short, full-length l.name l.kind)) in
    λ i. (let a : Leaf = record { name = name i; kind = l.kind } in a) ∷ kept-all ls rest i
