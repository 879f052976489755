-- Names are put together of parts, and cut once they are too long.
use Rattle.std.proofs.Common.{◌≡◌, ℕ, ◌-◌, ◌≤◌, suc, zero, min, List, [], ◌∷◌, ◌++◌, length, take, refl, sym, ap, ◌∙◌, inl, inr, arith, append_assoc}
use Rattle.std.proofs.lemmas.List.{take-take, take_all}
use Rattle.std.proofs.lemmas.Bool.{cases_lt}
use Rattle.program_link.specs.Kept.{kept_part}

-- what was cut may be cut again with more behind it
take-again : (n : ℕ) (xs ys : List ℕ) → take n (take n xs ++ ys) ≡ take n (xs ++ ys)
take-again zero xs ys = refl
take-again (suc n) [] ys = refl
take-again (suc n) (x ∷ xs) ys = ap (λ l. x ∷ l) (take-again n xs ys)

pub kept-again : (xs ys : List ℕ) → kept_part (kept_part xs ++ ys) ≡ kept_part (xs ++ ys)
kept-again xs ys = take-again 257 xs ys

take-joined : (n : ℕ) (xs ys : List ℕ) → length xs ≤ n → xs ++ take (n - length xs) ys ≡ take n (xs ++ ys)
take-joined n [] ys within = let same : n - 0 ≡ n = omega arith in rw same refl
take-joined zero (x ∷ xs) ys within = absurd (omega (arith, within))
take-joined (suc n) (x ∷ xs) ys within =
    let same : suc n - suc (length xs) ≡ n - length xs = omega arith in
    rw same (ap (λ l. x ∷ l) (take-joined n xs ys (omega (arith, within))))

take-least : (k n : ℕ) (ys : List ℕ) → k ≡ min (length ys) n → take k ys ≡ take n ys
take-least k n ys least =
    elim (cases_lt (length ys) n) [
      | inl less ↦ take_all k ys (omega (arith, less, least)) ∙ sym (take_all n ys (omega (arith, less)))
      | inr more ↦ ap (λ m. take m ys) (omega (arith, more, least))
    ]

pub kept-cut : (name : List ℕ) (k : ℕ) → k ≡ min (length name) 257 → take k name ≡ kept_part name
kept-cut name k least = take-least k 257 name least

-- a part was added, as far as there is room
pub added-part : (name bytes : List ℕ) (k room : ℕ) → length name ≤ 257 → room ≡ 257 - min (length name) 257 → k ≡ min (length bytes) room
    → name ++ take k bytes ≡ kept_part (name ++ bytes)
added-part name bytes k room within left least =
    let all : room ≡ 257 - length name = omega (arith, left, within) in
    ap (λ l. name ++ l) (take-least k room bytes least ∙ ap (λ m. take m bytes) all) ∙ take-joined 257 name bytes within

-- a name with a separator and another part
pub kept-member : (a b c name field : List ℕ) → a ≡ kept_part ([] ++ name) → b ≡ kept_part (a ++ 46 ∷ []) → c ≡ kept_part (b ++ field)
    → c ≡ kept_part (name ++ 46 ∷ field)
kept-member a b c name field first second third =
    third ∙ ap (λ l. kept_part (l ++ field)) (second ∙ ap (λ l. kept_part (l ++ 46 ∷ [])) first ∙ kept-again name (46 ∷ []))
    ∙ kept-again (name ++ 46 ∷ []) field ∙ ap kept_part (append_assoc name (46 ∷ []) field)

-- a name that fits is kept whole, so that the part that is kept is kept again
pub kept-whole : (name : List ℕ) → length name ≤ 257 → kept_part name ≡ name
kept-whole name within = take_all 257 name within

pub kept-twice : (name : List ℕ) → kept_part (kept_part name) ≡ kept_part name
kept-twice name = take-take 257 257 name (omega arith)

pub ruleset of_kept = (added-part, kept-member, kept-again, kept-whole, kept-cut)
