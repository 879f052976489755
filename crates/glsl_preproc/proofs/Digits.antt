-- The digits of a number are no marks.
use Rattle.std.proofs.Common.{◌≡◌, ◌<◌, ◌≤◌, ◌+◌, ◌^◌, ◌⊎◌, ℕ, true, false, List, [], ◌∷◌, length, map, get_or, bytes_eq, ap, inl, inr, arith}
use Rattle.std.specs.Fmt.{decimal}
use Rattle.std.proofs.lemmas.Bool.{cases_Bool, cases_lt}
use Rattle.std.proofs.lemmas.Fmt.{decimal_digit, decimal-digits_of, decimal_nonempty}
use Rattle.std.proofs.lemmas.Slice.Eq.{bytes_eq-Decides}

first_digit : (text ds : List ℕ) → text ≡ map (λ d. 48 + d) ds → 0 < length text → 48 ≤ get_or text 0 0
first_digit text [] e h = let none = ap length e in absurd (omega arith)
first_digit text (d ∷ ds) e h = let first : get_or text 0 0 ≡ 48 + d = ap (λ l. get_or l 0 0) e in omega arith

digit_first : (n : ℕ) → n < 2 ^ 64 → 48 ≤ get_or (decimal n) 0 0
digit_first n small = by_size (cases_lt 0 n)
  where
    by_size : (0 < n) ⊎ (n ≤ 0) → 48 ≤ get_or (decimal n) 0 0
    by_size (inr z) = let one : get_or (decimal n) 0 0 ≡ 48 + n = ap (λ l. get_or l 0 0) (decimal_digit n (omega arith)) in omega arith
    by_size (inl s) = first_digit (decimal n) _ (decimal-digits_of n s small) (decimal_nonempty n small)

pub no_mark : (n mark : ℕ) → n < 2 ^ 64 → mark < 48 → bytes_eq (decimal n) (mark ∷ []) ≡ false
no_mark n mark small low = by_test (cases_Bool (bytes_eq (decimal n) (mark ∷ [])))
  where
    by_test : (bytes_eq (decimal n) (mark ∷ []) ≡ true) ⊎ (bytes_eq (decimal n) (mark ∷ []) ≡ false) → bytes_eq (decimal n) (mark ∷ []) ≡ false
    by_test (inr f) = f
    by_test (inl t) =
        let same : get_or (decimal n) 0 0 ≡ mark = ap (λ l. get_or l 0 0) ((bytes_eq-Decides (decimal n) (mark ∷ [])).0 t) in
        let high = digit_first n small in
        absurd (omega arith)
