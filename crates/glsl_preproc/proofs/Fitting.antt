-- Numbers of 32 bits.
use Rattle.std.proofs.Common.{◌≡◌, ◌<◌, ◌≤◌, ◌^◌, ◌+◌, ◌*◌, List, [], ◌∷◌, ℕ, ℤ, pos, negsuc, true, false, ltb, Option, Some, None, refl, sym, ap, ◌∙◌, arith}
use Rattle.std.proofs.lemmas.Bool.{cond-true, cond-false, lt-ltb, le-ltb, ltb-false, ltb-true, false_from_ne_true}
use Rattle.std.proofs.lemmas.Bool.Decides.{Decides-int_eq}
use Rattle.std.proofs.lemmas.Int.{ints, to_z-of_z, fits_signed_mul}
use Rattle.std.specs.Option.{SomeIff}
use Rattle.std.specs.Int.RustNames.{FitsSigned, int_div, int_rem}
use Rattle.std.specs.Int.{CanDivide, IsNonZero}
use Rattle.std.specs.Int.Signed.{mag_rem}
use Rattle.std.proofs.Common.{suc, ◌%◌, neg_ℤ, Result, Ok, Err, nat_abs, ◌*ℤ◌, lit<}
use Rattle.std.specs.Result.{result_ok, OkIff}
use Rattle.std.specs.Int.Signed.{lt_z}
use Rattle.std.proofs.Math.Nat.{pow-le-pow_right}
use mir.Syntax.{w32, w64}
use mir.Val.{of_z, to_z}
use Rattle.std.proofs.Math.Nat.{le-mul_of_pos_right}
use Rattle.glsl_tree.specs.Spellings.{number_from, digit_of}
use Rattle.glsl_preproc.specs.Values.{fitting, fits, shift_count, is_zero, divided, remainder}

fits_true : (z : ℤ) → FitsSigned w32 z → fits z ≡ true
fits_true (pos n) h = lt-ltb n 2147483648 (omega (arith, ints, h))
fits_true (negsuc n) h = lt-ltb n 2147483648 (omega (arith, ints, h))

fits_from : (z : ℤ) → fits z ≡ true → FitsSigned w32 z
fits_from (pos n) h = let small : n < 2147483648 = ltb-true n 2147483648 h in omega (arith, ints)
fits_from (negsuc n) h = let small : n < 2147483648 = ltb-true n 2147483648 h in omega (arith, ints)

-- what a checked operation gives is the number, where it fits
pub some_fitting : (r : Option ℤ) (z : ℤ) → SomeIff r (FitsSigned w32 z) z → r ≡ fitting z
unfolding fitting
some_fitting None z h = sym (cond-false (fits z) (Some z) None (false_from_ne_true (fits z) (λ e. h (fits_from z e))))
some_fitting (Some x) z h = ap Some h.1 ∙ sym (cond-true (fits z) (Some z) None (fits_true z h.0))

-- more digits make no number smaller
pub number_up : (base n : ℕ) (digits : List ℕ) → 1 ≤ base → n ≤ number_from base n digits
number_up base n [] h = omega arith
number_up base n (b ∷ digits) h =
    let rest : n * base + digit_of b ≤ number_from base (n * base + digit_of b) digits = number_up base (n * base + digit_of b) digits h in
    let product : n ≤ n * base = grind (arith, le-mul_of_pos_right) in
    omega arith

pub fitting_small : (n : ℕ) → n < 2147483648 → fitting (pos n) ≡ Some (pos n)
unfolding fitting
fitting_small n h = cond-true (fits (pos n)) _ _ (lt-ltb n 2147483648 h)

pub fitting_large : (n : ℕ) → 2147483648 ≤ n → fitting (pos n) ≡ None
unfolding fitting
fitting_large n h = cond-false (fits (pos n)) _ _ (le-ltb n 2147483648 h)

-- Division.
pub zero_true : (b : ℤ) → b ≡ pos 0 → is_zero b ≡ true
zero_true b e = ap is_zero e

pub zero_false : (b : ℤ) → (b ≡ pos 0 → ⊥) → is_zero b ≡ false
zero_false b h = false_from_ne_true (is_zero b) (λ e. h ((Decides-int_eq b (pos 0)).0 e))

pub divided_zero : (a b : ℤ) → b ≡ pos 0 → divided a b ≡ None
unfolding divided
divided_zero a b e = cond-true (is_zero b) _ _ (zero_true b e)

nonzero_bits : (b : ℤ) → FitsSigned w32 b → (b ≡ pos 0 → ⊥) → IsNonZero w32 b
nonzero_bits b f h = grind (arith, ints, f, h)

pub divided_other : (r : Option ℤ) (a b : ℤ) → FitsSigned w32 b → (b ≡ pos 0 → ⊥) → SomeIff r (CanDivide w32 a b) (int_div a b) → r ≡ divided a b
unfolding divided
divided_other r a b f h e = some_fitting r (int_div a b) (can r e) ∙ sym (cond-false (is_zero b) _ _ (zero_false b h))
  where
    can : (o : Option ℤ) → SomeIff o (CanDivide w32 a b) (int_div a b) → SomeIff o (FitsSigned w32 (int_div a b)) (int_div a b)
    can None g = λ fits. g (nonzero_bits b f h, fits)
    can (Some x) g = (g.0.1, g.1)

pub remainder_zero : (a b : ℤ) → b ≡ pos 0 → remainder a b ≡ None
unfolding remainder
remainder_zero a b e = cond-true (is_zero b) _ _ (zero_true b e)

pub remainder_other : (a b : ℤ) → (b ≡ pos 0 → ⊥) → remainder a b ≡ Some (int_rem a b)
unfolding remainder
remainder_other a b h = cond-false (is_zero b) _ _ (zero_false b h)

pub remainder_minus : (a : ℤ) → remainder a (negsuc 0) ≡ Some (pos 0)
unfolding remainder
remainder_minus (pos n) = let e : n % 1 ≡ 0 = omega arith in ap (λ k. Some (pos k)) e
remainder_minus (negsuc n) = let e : suc n % 1 ≡ 0 = omega arith in ap (λ k. Some (neg_ℤ (pos k))) e

pub rem_fits : (a b : ℤ) → FitsSigned w32 a → FitsSigned w32 (int_rem a b)
rem_fits a b f = let smaller = mag_rem a b in omega (arith, ints)

-- what a test of the bits tells
pub from_bits : (b : ℤ) (z : ℤ) → FitsSigned w32 b → FitsSigned w32 z → of_z w32 b ≡ of_z w32 z → b ≡ z
from_bits b z f g e = sym (to_z-of_z w32 b f) ∙ ap (to_z w32) e ∙ to_z-of_z w32 z g

pub zero_fits : FitsSigned w32 (pos 0)
zero_fits = omega (arith, ints)

pub minus_fits : FitsSigned w32 (negsuc 0)
minus_fits = omega (arith, ints)

-- Shifts.
pub count_negative : (b : ℤ) → lt_z b (pos 0) ≡ true → shift_count b ≡ None
unfolding shift_count
count_negative (pos n) h = absurd (grind (arith, ints, h))
count_negative (negsuc n) h = refl

pub count_large : (b : ℤ) → lt_z (pos 31) b ≡ true → shift_count b ≡ None
unfolding shift_count
count_large (pos n) h = cond-false (ltb n 32) _ _ (le-ltb n 32 (let large : 31 < n = ltb-true 31 n h in omega arith))
count_large (negsuc n) h = refl

pub count_is : (b : ℤ) → lt_z b (pos 0) ≡ false → lt_z (pos 31) b ≡ false → (shift_count b ≡ Some (nat_abs b)) × (nat_abs b < 32)
unfolding shift_count
count_is (pos n) h k = let small : n ≤ 31 = ltb-false 31 n k in (cond-true (ltb n 32) _ _ (lt-ltb n 32 (omega arith)), omega arith)
count_is (negsuc n) h k = absurd (grind (arith, ints, h))

pub ok_fitting : {E : Type 0} (o : Option ℤ) (r : Result ℤ E) (z : ℤ) → o ≡ result_ok r → OkIff r (FitsSigned w32 z) z → o ≡ fitting z
unfolding fitting
ok_fitting o (Ok x) z h e = h ∙ ap Some e.1 ∙ sym (cond-true (fits z) (Some z) None (fits_true z e.0))
ok_fitting o (Err x) z h e = h ∙ sym (cond-false (fits z) (Some z) None (false_from_ne_true (fits z) (λ f. e (fits_from z f))))

power_small : (n : ℕ) → n < 32 → 2 ^ n ≤ 2 ^ 31
power_small n h = let two : 0 < 2 = omega arith in let le : n ≤ 31 = omega arith in pow-le-pow_right two le

pub power_is : (n : ℕ) → n < 32 → (1 * 2 ^ n) % 4294967296 ≡ 2 ^ n
power_is n h = let small : 2 ^ n ≤ 2 ^ 31 = power_small n h in omega arith

-- a product of 64 bits is the product
pub product_is : (a f g : ℤ) (n : ℕ) → FitsSigned w32 a → n < 32 → f ≡ to_z w32 (of_z w32 a) → g ≡ pos ((1 * 2 ^ n) % 4294967296)
    → to_z w64 (of_z w64 (to_z w64 (of_z w64 f) *ℤ to_z w64 (of_z w64 g))) ≡ a *ℤ pos (2 ^ n)
product_is a f g n fits h d e =
    let small : 2 ^ n ≤ 2 ^ 31 = power_small n h in
    let a_is : f ≡ a = d ∙ to_z-of_z w32 a fits in
    let g_is : g ≡ pos (2 ^ n) = e ∙ ap pos (power_is n h) in
    let a_fits : FitsSigned w64 a = omega (arith, ints) in
    let power_fits : FitsSigned w64 (pos (2 ^ n)) = omega (arith, ints) in
    let a_small : nat_abs a ≤ 2 ^ 31 = omega (arith, ints) in
    let both : FitsSigned w64 (a *ℤ pos (2 ^ n)) = fits_signed_mul w64 a (pos (2 ^ n)) (2 ^ 31) (2 ^ 31) a_small small (lit< tt) in
    (λ i. to_z w64 (of_z w64 (to_z w64 (of_z w64 (a_is i)) *ℤ to_z w64 (of_z w64 (g_is i)))))
    ∙ (λ i. to_z w64 (of_z w64 (to_z-of_z w64 a a_fits i *ℤ to_z-of_z w64 (pos (2 ^ n)) power_fits i)))
    ∙ to_z-of_z w64 (a *ℤ pos (2 ^ n)) both
