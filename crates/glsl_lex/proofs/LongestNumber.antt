-- The longest number at the front of a text.
use Rattle.std.proofs.Common.{◌≡◌, ℕ, zero, suc, ◌+◌, ◌≤◌, Bool, true, false, cond, ◌&&◌, ◌||◌, ◌⊎◌, List, [], ◌∷◌, drop, Option, Some, None, refl, sym, ap, ◌∙◌, arith, ltb, eqb, inl, inr, subst}
use Rattle.std.specs.List.{prefix_len, list_all}
use Rattle.std.proofs.lemmas.Bool.{cond-true, lt-ltb, eqb-true, or_cases, both_ways}
use Rattle.std.proofs.lemmas.Bool.Decides.{nat_tests}
use Rattle.glsl_tree.specs.Characters.{is_digit, is_octal_digit, is_hexadecimal_digit}
use Rattle.glsl_tree.specs.Spellings.{is_run, is_decimal, is_octal, is_hexadecimal, is_int, is_float, is_float_behind, is_exponent, is_exponent_or_nothing, after_digits, begins_with_digit, without_sign}
use Rattle.glsl_tree.specs.declared.token.Class.{Class}
use Rattle.glsl_tree.specs.declared.token.Class.TheVariants.{Int, Float}
use Rattle.glsl_lex.specs.Fronts.{with_front, signed_len, exponent_len, hexadecimal_len, int_len, with_exponent, behind_digits, decimal_at, number_at, or_hexadecimal}
use Rattle.glsl_lex.proofs.Longest.{one_more, seek, seek_same, further, prefix_len-stop, prefix_len-more, two_ways, seek_over, seek_run, either, longer, seek_join, counted, seek_some, seek_first, seek_first_none, stops}

Found : Type 0
Found = Option (Class × ℕ)

abbrev pub ints : List ℕ → Option Class
ints t = cond (is_int t) (Some Int) None

abbrev pub floats : List ℕ → Option Class
floats t = cond (is_float t) (Some Float) None

-- An exponent.

abbrev exponents : List ℕ → Option Class
exponents t = cond (is_exponent t) (Some Float) None

abbrev signed : List ℕ → Option Class
signed t = cond (is_run is_digit (without_sign t)) (Some Float) None

two_more : (n : ℕ) → one_more (one_more (counted Float n) None) None ≡ counted Float (with_front 2 n)
two_more zero = refl
two_more (suc n) = let e : suc (suc (suc n)) ≡ 2 + suc n = omega arith in ap (counted Float) e

once_more : (n : ℕ) → one_more (counted Float n) None ≡ counted Float (with_front 1 n)
once_more zero = refl
once_more (suc n) = let e : suc (suc n) ≡ 1 + suc n = omega arith in ap (counted Float) e

seek_signed : (text : List ℕ) → one_more (seek text signed) None ≡ counted Float (signed_len text)
seek_signed [] = refl
seek_signed (x ∷ text) = elim (two_ways (eqb x 43 || eqb x 45)) [
  | inl e ↦ ap (λ found. one_more found None)
      (seek_first x text signed (λ t. cond (is_run is_digit t) (Some Float) None) refl (λ t. ap (λ b. cond (is_run is_digit (cond b t (x ∷ t))) (Some Float) None) e)
      ∙ ap (λ found. one_more found None) (seek_some is_digit text Float))
      ∙ two_more (prefix_len is_digit text)
      ∙ ap (λ b. counted Float (cond b (with_front 2 (prefix_len is_digit text)) (with_front 1 (prefix_len is_digit (x ∷ text))))) (sym e)
  | inr e ↦ ap (λ found. one_more found None)
      (seek_first x text signed (λ t. cond (is_run is_digit (x ∷ t)) (Some Float) None) refl (λ t. ap (λ b. cond (is_run is_digit (cond b t (x ∷ t))) (Some Float) None) e)
      ∙ seek_some is_digit (x ∷ text) Float)
      ∙ once_more (prefix_len is_digit (x ∷ text))
      ∙ ap (λ b. counted Float (cond b (with_front 2 (prefix_len is_digit text)) (with_front 1 (prefix_len is_digit (x ∷ text))))) (sym e)
]

seek_exponents : (text : List ℕ) → seek text exponents ≡ counted Float (exponent_len text)
unfolding is_exponent exponent_len
seek_exponents [] = refl
seek_exponents (b ∷ text) = elim (two_ways (eqb b 101 || eqb b 69)) [
  | inl e ↦ seek_first b text exponents signed refl (λ t. ap (λ x. cond (x && is_run is_digit (without_sign t)) (Some Float) None) e)
      ∙ seek_signed text ∙ ap (λ x. counted Float (cond x (signed_len text) 0)) (sym e)
  | inr e ↦ seek_first_none b text exponents refl (λ t. ap (λ x. cond (x && is_run is_digit (without_sign t)) (Some Float) None) e)
      ∙ ap (λ x. counted Float (cond x (signed_len text) 0)) (sym e)
]

exponents_first : (c : ℕ) (r : List ℕ) → one_more (seek r (λ t. exponents (c ∷ t))) None ≡ seek (c ∷ r) exponents
unfolding is_exponent
exponents_first c r = refl

-- An exponent or nothing, behind the digits of a fraction.

abbrev fractions : List ℕ → Option Class
fractions t = cond (is_exponent_or_nothing (after_digits t)) (Some Float) None

after_digits-more : (b : ℕ) (t : List ℕ) → is_digit b ≡ true → after_digits (b ∷ t) ≡ after_digits t
after_digits-more b t e = ap (λ n. drop n (b ∷ t)) (prefix_len-more is_digit b t e)

after_digits-stop : (b : ℕ) (t : List ℕ) → is_digit b ≡ false → after_digits (b ∷ t) ≡ b ∷ t
after_digits-stop b t e = ap (λ n. drop n (b ∷ t)) (prefix_len-stop is_digit b t e)

or_nothing : (found : Option (Class × ℕ)) (n : ℕ) → one_more found None ≡ counted Float n → one_more found (Some (Float, 0)) ≡ Some (Float, n)
or_nothing None zero e = refl
or_nothing None (suc n) e = absurd cc
or_nothing (Some found) zero e = absurd cc
or_nothing (Some found) (suc n) e = e

fraction_end : (rest : List ℕ) → ((c : ℕ) (r : List ℕ) → rest ≡ c ∷ r → is_digit c ≡ false) → seek rest fractions ≡ Some (Float, exponent_len rest)
unfolding exponent_len
fraction_end [] h = refl
fraction_end (c ∷ r) h = ap (λ found. one_more found (Some (Float, 0))) (seek_same r (λ t. fractions (c ∷ t)) (λ t. exponents (c ∷ t)) (λ t. ap (λ s. cond (is_exponent_or_nothing s) (Some Float) None) (after_digits-stop c t (h c r refl))))
    ∙ or_nothing (seek r (λ t. exponents (c ∷ t))) (exponent_len (c ∷ r)) (exponents_first c r ∙ seek_exponents (c ∷ r))

seek_fractions : (text : List ℕ) → seek text fractions ≡ Some (Float, prefix_len is_digit text + exponent_len (drop (prefix_len is_digit text) text))
seek_fractions text = seek_over is_digit text fractions (λ b t e. ap (λ s. cond (is_exponent_or_nothing s) (Some Float) None) (after_digits-more b t e))
    ∙ ap (further (prefix_len is_digit text)) (fraction_end (drop (prefix_len is_digit text) text) (λ c r e. stops is_digit text c r e))

-- A float behind its first digits.

abbrev behinds : List ℕ → Option Class
behinds t = cond (is_float_behind true (after_digits t)) (Some Float) None

abbrev float_found : ℕ → List ℕ → Option (Class × ℕ)
float_found whole [] = None
float_found whole (c ∷ r) = cond (eqb c 46) (Some (Float, whole + 1 + prefix_len is_digit r + exponent_len (drop (prefix_len is_digit r) r))) (further whole (counted Float (exponent_len (c ∷ r))))

further_0 : (found : Option (Class × ℕ)) → found ≡ further 0 found
further_0 (Some found) = ap (λ n. Some (found.0, n)) (omega arith)
further_0 None = refl

further_further : (m n : ℕ) (found : Option (Class × ℕ)) → further m (further n found) ≡ further (m + n) found
further_further m n (Some found) = ap (λ k. Some (found.0, k)) (omega arith)
further_further m n None = refl

behind_end : (rest : List ℕ) → ((c : ℕ) (r : List ℕ) → rest ≡ c ∷ r → is_digit c ≡ false) → seek rest behinds ≡ float_found 0 rest
unfolding is_float_behind
behind_end [] h = refl
behind_end (c ∷ r) h = elim (two_ways (eqb c 46)) [
  | inl e ↦ seek_first c r behinds fractions refl (λ t. ap (λ s. cond (is_float_behind true s) (Some Float) None) (after_digits-stop c t (h c r refl)) ∙ ap (λ x. cond (cond x (is_exponent_or_nothing (after_digits t)) (is_exponent (c ∷ t))) (Some Float) None) e)
      ∙ ap (λ found. one_more found None) (seek_fractions r)
      ∙ ap (λ n. Some (Float, n)) (omega arith)
      ∙ ap (λ x. cond x (Some (Float, 0 + 1 + prefix_len is_digit r + exponent_len (drop (prefix_len is_digit r) r))) (further 0 (counted Float (exponent_len (c ∷ r))))) (sym e)
  | inr e ↦ seek_first c r behinds (λ t. exponents (c ∷ t)) refl (λ t. ap (λ s. cond (is_float_behind true s) (Some Float) None) (after_digits-stop c t (h c r refl)) ∙ ap (λ x. cond (cond x (is_exponent_or_nothing (after_digits t)) (is_exponent (c ∷ t))) (Some Float) None) e)
      ∙ exponents_first c r ∙ seek_exponents (c ∷ r) ∙ further_0 (counted Float (exponent_len (c ∷ r)))
      ∙ ap (λ x. cond x (Some (Float, 0 + 1 + prefix_len is_digit r + exponent_len (drop (prefix_len is_digit r) r))) (further 0 (counted Float (exponent_len (c ∷ r))))) (sym e)
]

float_further : (n whole : ℕ) (rest : List ℕ) → whole ≡ suc n → one_more (further n (float_found 0 rest)) None ≡ float_found whole rest
float_further n whole [] e = refl
float_further n whole (c ∷ r) e = elim (two_ways (eqb c 46)) [
  | inl d ↦ ap (λ x. one_more (further n (cond x (point 0) (exponent 0))) None) d ∙ ap (λ k. Some (Float, k)) (omega arith) ∙ ap (λ x. cond x (point whole) (exponent whole)) (sym d)
  | inr d ↦ ap (λ x. one_more (further n (cond x (point 0) (exponent 0))) None) d ∙ more (exponent_len (c ∷ r)) ∙ ap (λ x. cond x (point whole) (exponent whole)) (sym d)
]
  where
    point : ℕ → Option (Class × ℕ)
    point w = Some (Float, w + 1 + prefix_len is_digit r + exponent_len (drop (prefix_len is_digit r) r))

    exponent : ℕ → Option (Class × ℕ)
    exponent w = further w (counted Float (exponent_len (c ∷ r)))

    more : (k : ℕ) → one_more (further n (further 0 (counted Float k))) None ≡ further whole (counted Float k)
    more zero = refl
    more (suc k) = ap (λ m. Some (Float, m)) (omega arith)

is_float-digit : (b : ℕ) (t : List ℕ) → is_digit b ≡ true → is_float (b ∷ t) ≡ is_float_behind true (after_digits t)
unfolding is_float
is_float-digit b t e = ap (λ x. is_float_behind x (after_digits (b ∷ t))) e ∙ ap (is_float_behind true) (after_digits-more b t e)

-- a float that begins with a digit
pub seek_floats : (b : ℕ) (rest : List ℕ) → is_digit b ≡ true → seek (b ∷ rest) floats ≡ float_found (prefix_len is_digit (b ∷ rest)) (drop (prefix_len is_digit (b ∷ rest)) (b ∷ rest))
unfolding is_float_behind is_float
seek_floats b rest e = seek_first b rest floats behinds refl (λ t. ap (λ x. cond x (Some Float) None) (is_float-digit b t e))
    ∙ ap (λ found. one_more found None) (seek_over is_digit rest behinds (λ d t h. ap (λ s. cond (is_float_behind true s) (Some Float) None) (after_digits-more d t h))
    ∙ ap (further (prefix_len is_digit rest)) (behind_end (drop (prefix_len is_digit rest) rest) (λ c r h. stops is_digit rest c r h)))
    ∙ float_further (prefix_len is_digit rest) (suc (prefix_len is_digit rest)) (drop (prefix_len is_digit rest) rest) refl
    ∙ ap (λ n. float_found n (drop n (b ∷ rest))) (sym (prefix_len-more is_digit b rest e))

-- a float that begins with a point, and a digit behind it
pub seek_points : (d : ℕ) (rest : List ℕ) → is_digit d ≡ true → seek (46 ∷ d ∷ rest) floats ≡ Some (Float, suc (suc (prefix_len is_digit rest + exponent_len (drop (prefix_len is_digit rest) rest))))
unfolding is_float_behind is_float is_digit
seek_points d rest e = seek_first 46 (d ∷ rest) floats (λ t. cond (begins_with_digit t && is_exponent_or_nothing (after_digits t)) (Some Float) None) refl (λ t. refl)
    ∙ ap (λ found. one_more found None)
    (seek_first d rest (λ t. cond (begins_with_digit t && is_exponent_or_nothing (after_digits t)) (Some Float) None) fractions refl
    (λ t. ap (λ x. cond (x && is_exponent_or_nothing (after_digits (d ∷ t))) (Some Float) None) e ∙ ap (λ s. cond (is_exponent_or_nothing s) (Some Float) None) (after_digits-more d t e))
    ∙ ap (λ found. one_more found None) (seek_fractions rest))

-- Ints.

or_false : (x : Bool) → (x || false) ≡ x
or_false true = refl
or_false false = refl

or_three : (x y z w : Bool) → x ≡ w → y ≡ false → z ≡ false → (x || y || z) ≡ w
or_three x y z w hx hy hz = ap (λ v. x || v || z) hy ∙ ap (λ v. x || false || v) hz ∙ or_false (x || false) ∙ or_false x ∙ hx

is_hexadecimal-first : (b : ℕ) (t : List ℕ) → eqb b 48 ≡ false → is_hexadecimal (b ∷ t) ≡ false
unfolding is_hexadecimal
is_hexadecimal-first b [] z = refl
is_hexadecimal-first b (c ∷ t) z = ap (λ x. x && (eqb c 120 || eqb c 88) && is_run is_hexadecimal_digit t) z

is_int-decimal : (b : ℕ) (t : List ℕ) → is_digit b ≡ true → eqb b 48 ≡ false → is_int (b ∷ t) ≡ list_all is_digit t
unfolding is_int is_decimal is_octal
is_int-decimal b t e z = or_three _ _ _ _
    (ap (λ x. x && cond (eqb b 48) false (list_all is_digit t)) e ∙ ap (λ x. cond x false (list_all is_digit t)) z)
    (ap (λ x. x && list_all is_octal_digit t) z)
    (is_hexadecimal-first b t z)

is_int-none : (b : ℕ) (t : List ℕ) → is_digit b ≡ false → eqb b 48 ≡ false → is_int (b ∷ t) ≡ false
unfolding is_int is_decimal is_octal
is_int-none b t e z = or_three _ _ _ _ (ap (λ x. x && cond (eqb b 48) false (list_all is_digit t)) e) (ap (λ x. x && list_all is_octal_digit t) z) (is_hexadecimal-first b t z)

-- a decimal number
seek_decimals : (b : ℕ) (rest : List ℕ) → is_digit b ≡ true → eqb b 48 ≡ false → seek (b ∷ rest) ints ≡ Some (Int, prefix_len is_digit (b ∷ rest))
unfolding is_int is_decimal is_octal is_hexadecimal
seek_decimals b rest e z = seek_first b rest ints (λ t. cond (list_all is_digit t) (Some Int) None) refl (λ t. ap (λ x. cond x (Some Int) None) (is_int-decimal b t e z))
    ∙ ap (λ found. one_more found None) (seek_run is_digit rest (λ t. Int))
    ∙ ap (λ n. Some (Int, n)) (sym (prefix_len-more is_digit b rest e))

-- numbers behind a 0
or_either : (x y : Bool) → cond (x || y) (Some Int) None ≡ either (cond x (Some Int) None) (cond y (Some Int) None)
or_either true y = refl
or_either false y = refl

abbrev hexes : List ℕ → Option Class
hexes t = cond (is_hexadecimal (48 ∷ t)) (Some Int) None

seek_zeros : (rest : List ℕ) → seek (48 ∷ rest) ints ≡ one_more (longer (Some (Int, prefix_len is_octal_digit rest)) (seek rest hexes)) None
unfolding is_int is_decimal is_octal is_digit
seek_zeros rest = seek_first 48 rest ints (λ t. either (cond (list_all is_octal_digit t) (Some Int) None) (hexes t)) (unfold is_hexadecimal in refl) (λ t. or_either (list_all is_octal_digit t) (is_hexadecimal (48 ∷ t)))
    ∙ ap (λ found. one_more found None) (seek_join rest (λ t. cond (list_all is_octal_digit t) (Some Int) None) hexes
    ∙ ap (λ found. longer found (seek rest hexes)) (seek_run is_octal_digit rest (λ t. Int)))

abbrev is_x : ℕ → Bool
is_x b = eqb b 120 || eqb b 88

x_cases : (b : ℕ) → is_x b ≡ true → (b ≡ 120) ⊎ (b ≡ 88)
x_cases b e = elim (or_cases (eqb b 120) (eqb b 88) e) [ inl h ↦ inl (eqb-true b 120 h) | inr h ↦ inr (eqb-true b 88 h) ]

at_x : (f : ℕ → Bool) (b : ℕ) → is_x b ≡ true → f 120 ≡ false → f 88 ≡ false → f b ≡ false
at_x f b e p q = elim (x_cases b e) [ inl h ↦ ap f h ∙ p | inr h ↦ ap f h ∙ q ]

seek_hexes : (b : ℕ) (rest : List ℕ) → is_x b ≡ true → seek (b ∷ rest) hexes ≡ one_more (counted Int (prefix_len is_hexadecimal_digit rest)) None
unfolding is_hexadecimal
seek_hexes b rest e = seek_first b rest hexes (λ t. cond (is_run is_hexadecimal_digit t) (Some Int) None) refl (λ t. ap (λ x. cond (x && is_run is_hexadecimal_digit t) (Some Int) None) e)
    ∙ ap (λ found. one_more found None) (seek_some is_hexadecimal_digit rest Int)

no_hexes : (b : ℕ) (rest : List ℕ) → is_x b ≡ false → seek (b ∷ rest) hexes ≡ None
unfolding is_hexadecimal
no_hexes b rest e = seek_first_none b rest hexes refl (λ t. ap (λ x. cond (x && is_run is_hexadecimal_digit t) (Some Int) None) e)

octal_is_digit : (b : ℕ) → is_octal_digit b ≡ true → is_digit b ≡ true
unfolding is_octal_digit is_digit
octal_is_digit b e = grind (arith, nat_tests, e)

octal_le : (text : List ℕ) → prefix_len is_octal_digit text ≤ prefix_len is_digit text
octal_le [] = omega arith
octal_le (b ∷ text) = elim (two_ways (is_octal_digit b)) [
  | inl e ↦ (let x = prefix_len-more is_octal_digit b text e in let y = prefix_len-more is_digit b text (octal_is_digit b e) in let h = octal_le text in omega arith)
  | inr e ↦ (let x = prefix_len-stop is_octal_digit b text e in omega arith)
]

-- The number.

longer_exponent : (text : List ℕ) (whole n e : ℕ) → n ≤ whole → int_len text whole ≡ n → longer (Some (Int, n)) (further whole (counted Float e)) ≡ Some (with_exponent text whole e)
longer_exponent text whole n zero le h = ap (λ k. Some (Int, k)) (sym h)
longer_exponent text whole n (suc e) le h = cond-true (ltb n (whole + suc e)) _ _ (lt-ltb n (whole + suc e) (omega arith))

longer_number : (text : List ℕ) (whole n : ℕ) (rest : List ℕ) → n ≤ whole → int_len text whole ≡ n → longer (Some (Int, n)) (float_found whole rest) ≡ Some (behind_digits text whole rest)
unfolding exponent_len
longer_number text whole n [] le h = ap (λ k. Some (Int, k)) (sym h)
longer_number text whole n (c ∷ r) le h = elim (two_ways (eqb c 46)) [
  | inl e ↦ ap (λ x. longer (Some (Int, n)) (cond x (Some point) exponent)) e
      ∙ cond-true (ltb n point.1) _ _ (lt-ltb n point.1 (omega arith))
      ∙ ap (λ x. Some (cond x point (with_exponent text whole (exponent_len (c ∷ r))))) (sym e)
  | inr e ↦ ap (λ x. longer (Some (Int, n)) (cond x (Some point) exponent)) e
      ∙ longer_exponent text whole n (exponent_len (c ∷ r)) le h
      ∙ ap (λ x. Some (cond x point (with_exponent text whole (exponent_len (c ∷ r))))) (sym e)
]
  where
    point : Class × ℕ
    point = (Float, whole + 1 + prefix_len is_digit r + exponent_len (drop (prefix_len is_digit r) r))

    exponent : Option (Class × ℕ)
    exponent = further whole (counted Float (exponent_len (c ∷ r)))

hexadecimal_len-first : (b : ℕ) (rest : List ℕ) → eqb b 48 ≡ false → hexadecimal_len (b ∷ rest) ≡ 0
unfolding hexadecimal_len
hexadecimal_len-first b [] z = refl
hexadecimal_len-first b (c ∷ rest) z = ap (λ x. cond (x && (eqb c 120 || eqb c 88)) (with_front 2 (prefix_len is_hexadecimal_digit rest)) 0) z

int_len-first : (b : ℕ) (rest : List ℕ) (whole : ℕ) → eqb b 48 ≡ false → int_len (b ∷ rest) whole ≡ whole
unfolding int_len
int_len-first b rest whole z = ap (λ x. cond x (1 + prefix_len is_octal_digit rest) whole) z

number_from_decimal : (text : List ℕ) (n : ℕ) → n ≤ prefix_len is_digit text → int_len text (prefix_len is_digit text) ≡ n → hexadecimal_len text ≡ 0
    → longer (Some (Int, n)) (float_found (prefix_len is_digit text) (drop (prefix_len is_digit text) text)) ≡ Some (number_at text)
unfolding number_at decimal_at
number_from_decimal text n le h z = longer_number text (prefix_len is_digit text) n (drop (prefix_len is_digit text) text) le h ∙ ap (λ k. Some (or_hexadecimal text k)) (sym z)

decimal_number : (b : ℕ) (rest : List ℕ) → is_digit b ≡ true → eqb b 48 ≡ false → longer (seek (b ∷ rest) ints) (seek (b ∷ rest) floats) ≡ Some (number_at (b ∷ rest))
decimal_number b rest e z = ap (λ found. longer found (seek (b ∷ rest) floats)) (seek_decimals b rest e z)
    ∙ ap (longer (Some (Int, prefix_len is_digit (b ∷ rest)))) (seek_floats b rest e)
    ∙ number_from_decimal (b ∷ rest) (prefix_len is_digit (b ∷ rest)) (omega arith) (int_len-first b rest (prefix_len is_digit (b ∷ rest)) z) (hexadecimal_len-first b rest z)

-- a 0 with no hexadecimal number
octal_number : (rest : List ℕ) → seek rest hexes ≡ None → hexadecimal_len (48 ∷ rest) ≡ 0 → longer (seek (48 ∷ rest) ints) (seek (48 ∷ rest) floats) ≡ Some (number_at (48 ∷ rest))
unfolding int_len is_digit
octal_number rest none z = ap (λ found. longer found (seek (48 ∷ rest) floats)) (seek_zeros rest ∙ ap (λ found. one_more (longer (Some (Int, prefix_len is_octal_digit rest)) found) None) none)
    ∙ ap (longer (Some (Int, suc (prefix_len is_octal_digit rest)))) (seek_floats 48 rest refl)
    ∙ number_from_decimal (48 ∷ rest) (suc (prefix_len is_octal_digit rest))
    (let x = prefix_len-more is_digit 48 rest refl in let h = octal_le rest in omega arith) (omega arith) z

no_exponent-x : (b : ℕ) (rest : List ℕ) → is_x b ≡ true → exponent_len (b ∷ rest) ≡ 0
unfolding exponent_len
no_exponent-x b rest e = ap (λ x. cond x (signed_len rest) 0) (at_x (λ c. eqb c 101 || eqb c 69) b e refl refl)

-- 0x and hexadecimal digits
hexadecimal_number : (b : ℕ) (rest : List ℕ) (k : ℕ) → is_x b ≡ true → prefix_len is_hexadecimal_digit rest ≡ suc k → longer (seek (48 ∷ b ∷ rest) ints) (seek (48 ∷ b ∷ rest) floats) ≡ Some (number_at (48 ∷ b ∷ rest))
unfolding number_at hexadecimal_len
hexadecimal_number b rest k e h =
    let int : seek (48 ∷ b ∷ rest) ints ≡ Some (Int, suc (suc (suc k))) =
    seek_zeros (b ∷ rest)
    ∙ ap (λ n. one_more (longer (Some (Int, n)) (seek (b ∷ rest) hexes)) None) (prefix_len-stop is_octal_digit b rest (at_x is_octal_digit b e (unfold is_octal_digit in refl) (unfold is_octal_digit in refl)))
    ∙ ap (λ found. one_more (longer (Some (Int, 0)) found) None) (seek_hexes b rest e ∙ ap (λ n. one_more (counted Int n) None) h)
    ∙ ap (λ x. one_more (cond x (Some (Int, suc (suc k))) (Some (Int, 0))) None) (lt-ltb 0 (suc (suc k)) (omega arith)) in
    let whole : prefix_len is_digit (48 ∷ b ∷ rest) ≡ 1 =
    prefix_len-more is_digit 48 (b ∷ rest) (unfold is_digit in refl) ∙ ap suc (prefix_len-stop is_digit b rest (at_x is_digit b e (unfold is_digit in refl) (unfold is_digit in refl))) in
    let float : seek (48 ∷ b ∷ rest) floats ≡ None =
    seek_floats 48 (b ∷ rest) (unfold is_digit in refl) ∙ ap (λ n. float_found n (drop n (48 ∷ b ∷ rest))) whole
    ∙ ap (λ x. cond x (Some (Float, 1 + 1 + prefix_len is_digit rest + exponent_len (drop (prefix_len is_digit rest) rest))) (further 1 (counted Float (exponent_len (b ∷ rest))))) (at_x (λ c. eqb c 46) b e refl refl)
    ∙ ap (λ n. further 1 (counted Float n)) (no_exponent-x b rest e) in
    ap (λ found. longer found (seek (48 ∷ b ∷ rest) floats)) int ∙ ap (longer (Some (Int, suc (suc (suc k))))) float
    ∙ (let n : suc (suc (suc k)) ≡ 2 + suc k = omega arith in ap (λ m. Some (Int, m)) n)
    ∙ number_is
  where
    number_is : Some (Int, 2 + suc k) ≡ Some (or_hexadecimal (48 ∷ b ∷ rest) (cond (eqb 48 48 && (eqb b 120 || eqb b 88)) (with_front 2 (prefix_len is_hexadecimal_digit rest)) 0))
    number_is = (let m : 2 + suc k ≡ suc (suc (suc k)) = omega arith in ap (λ n. Some (Int, n)) m ∙ ap (λ n. Some (or_hexadecimal (48 ∷ b ∷ rest) n)) (sym m))
        ∙ ap (λ n. Some (or_hexadecimal (48 ∷ b ∷ rest) (with_front 2 n))) (sym h)
        ∙ ap (λ x. Some (or_hexadecimal (48 ∷ b ∷ rest) (cond x (with_front 2 (prefix_len is_hexadecimal_digit rest)) 0))) (sym e)

zero_number : (rest : List ℕ) → longer (seek (48 ∷ rest) ints) (seek (48 ∷ rest) floats) ≡ Some (number_at (48 ∷ rest))
unfolding hexadecimal_len
zero_number [] = octal_number [] (unfold is_hexadecimal in refl) refl
zero_number (b ∷ rest) = elim (two_ways (is_x b)) [
  | inl e ↦ by_digits e (prefix_len is_hexadecimal_digit rest) refl
  | inr e ↦ octal_number (b ∷ rest) (no_hexes b rest e) (ap (λ x. cond x (with_front 2 (prefix_len is_hexadecimal_digit rest)) 0) e)
]
  where
    by_digits : is_x b ≡ true → (n : ℕ) → prefix_len is_hexadecimal_digit rest ≡ n → longer (seek (48 ∷ b ∷ rest) ints) (seek (48 ∷ b ∷ rest) floats) ≡ Some (number_at (48 ∷ b ∷ rest))
    by_digits e zero h = octal_number (b ∷ rest) (seek_hexes b rest e ∙ ap (λ n. one_more (counted Int n) None) h)
        (ap (λ x. cond x (with_front 2 (prefix_len is_hexadecimal_digit rest)) 0) e ∙ ap (with_front 2) h)
    by_digits e (suc k) h = hexadecimal_number b rest k e h

-- a number that begins with a digit
pub seek_number : (b : ℕ) (rest : List ℕ) → is_digit b ≡ true → longer (seek (b ∷ rest) ints) (seek (b ∷ rest) floats) ≡ Some (number_at (b ∷ rest))
seek_number b rest e = elim (two_ways (eqb b 48)) [
  | inl z ↦ (let at_zero : ℕ → Type 0 = λ c. longer (seek (c ∷ rest) ints) (seek (c ∷ rest) floats) ≡ Some (number_at (c ∷ rest)) in subst at_zero (sym (eqb-true b 48 z)) (zero_number rest))
  | inr z ↦ decimal_number b rest e z
]

-- a number that begins with a point
pub seek_point : (d : ℕ) (rest : List ℕ) → is_digit d ≡ true → seek (46 ∷ d ∷ rest) floats ≡ Some (number_at (46 ∷ d ∷ rest))
unfolding number_at decimal_at hexadecimal_len is_digit
seek_point d rest e = seek_points d rest e
    ∙ (let n : suc (suc (prefix_len is_digit rest + exponent_len (drop (prefix_len is_digit rest) rest))) ≡ 0 + 1 + suc (prefix_len is_digit rest) + exponent_len (drop (prefix_len is_digit rest) rest) = omega arith in ap (λ m. Some (Float, m)) n)
    ∙ ap (λ n. Some (Float, 0 + 1 + n + exponent_len (drop n (d ∷ rest)))) (sym (prefix_len-more is_digit d rest e))

pub not_at : (p : ℕ → Bool) (b c : ℕ) → p c ≡ true → p b ≡ false → eqb b c ≡ false
not_at p b c at_c at_b = elim (two_ways (eqb b c)) [
  | inl e ↦ (let same : b ≡ c = eqb-true b c e in absurd (both_ways (p b) at_b (ap p same ∙ at_c)))
  | inr e ↦ e
]

pub no_ints : (b : ℕ) (rest : List ℕ) → is_digit b ≡ false → seek (b ∷ rest) ints ≡ None
unfolding is_int is_decimal is_octal is_hexadecimal
no_ints b rest e = seek_first_none b rest ints refl (λ t. ap (λ x. cond x (Some Int) None) (is_int-none b t e (not_at is_digit b 48 (unfold is_digit in refl) e)))

is_float-none : (b : ℕ) (t : List ℕ) → is_digit b ≡ false → is_float (b ∷ t) ≡ cond (eqb b 46) (begins_with_digit t && is_exponent_or_nothing (after_digits t)) false
unfolding is_float is_float_behind
is_float-none b t e = ap (λ x. is_float_behind x (after_digits (b ∷ t))) e ∙ ap (is_float_behind false) (after_digits-stop b t e)

-- digits and an exponent or nothing
abbrev fractions_alone : List ℕ → Option Class
fractions_alone t = cond (begins_with_digit t && is_exponent_or_nothing (after_digits t)) (Some Float) None

no_fraction : (rest : List ℕ) → begins_with_digit rest ≡ false → seek rest fractions_alone ≡ None
no_fraction [] h = refl
no_fraction (d ∷ rest) h = seek_first_none d rest fractions_alone refl (λ t. ap (λ x. cond (x && is_exponent_or_nothing (after_digits (d ∷ t))) (Some Float) None) h)

-- whether a point and a digit stand at the front
abbrev pub is_pointed : ℕ → List ℕ → Bool
is_pointed b rest = eqb b 46 && begins_with_digit rest

pub no_floats : (b : ℕ) (rest : List ℕ) → is_digit b ≡ false → is_pointed b rest ≡ false → seek (b ∷ rest) floats ≡ None
unfolding is_float is_float_behind
no_floats b rest e h = elim (two_ways (eqb b 46)) [
  | inl z ↦ seek_first b rest floats fractions_alone refl (λ t. ap (λ x. cond x (Some Float) None) (is_float-none b t e) ∙ ap (λ x. cond (cond x (begins_with_digit t && is_exponent_or_nothing (after_digits t)) false) (Some Float) None) z)
      ∙ ap (λ found. one_more found None) (no_fraction rest (sym (ap (λ x. x && begins_with_digit rest) z) ∙ h))
  | inr z ↦ seek_first_none b rest floats refl (λ t. ap (λ x. cond x (Some Float) None) (is_float-none b t e) ∙ ap (λ x. cond (cond x (begins_with_digit t && is_exponent_or_nothing (after_digits t)) false) (Some Float) None) z)
]
