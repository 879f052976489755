-- Tests on the numbers below a bound.
use Rattle.std.proofs.Common.{◌≡◌, ◌+◌, ◌-◌, ◌<◌, ◌≤◌, ◌⊎◌, inl, inr, ℕ, zero, suc, Bool, true, false, refl, ap, ◌∙◌, arith}
use Rattle.std.specs.Prelude.{nat_lt, nat_le, min, ◌&&◌, if◌then◌else◌, Some, None}
use Rattle.std.specs.Option.{option_or}
use Rattle.std.proofs.lemmas.Bool.{cases_lt}
use Rattle.std.proofs.lemmas.Bool.Decides.{nat_tests}
use Rattle.varying_pack.specs.Below.{each_below, least_below, greatest_below, count_below}

pub and-true : (a b : Bool) → a ≡ true → b ≡ true → (a && b) ≡ true
and-true true b p q = q
and-true false b p q = absurd cc

pub and-false_left : (a b : Bool) → a ≡ false → (a && b) ≡ false
and-false_left true b p = absurd cc
and-false_left false b p = refl

pub and-false_right : (a b : Bool) → b ≡ false → (a && b) ≡ false
and-false_right true b p = p
and-false_right false b p = refl

-- where all numbers pass
pub each-true : (n : ℕ) (test : ℕ → Bool) → ((k : ℕ) → k < n → test k ≡ true) → each_below n test ≡ true
unfolding each_below
each-true zero test all = refl
each-true (suc n) test all = and-true _ _ (each-true n test (λ k less. all k (omega (arith, less)))) (all n (omega arith))

each-false_by : (n k : ℕ) (test : ℕ → Bool) → k < suc n → test k ≡ false → (k < n → each_below n test ≡ false) → (k < n) ⊎ (n ≤ k)
    → (each_below n test && test n) ≡ false
each-false_by n k test within fails before (inl less) = and-false_left _ _ (before less)
each-false_by n k test within fails before (inr last) =
    let same : n ≡ k = omega (arith, within, last) in and-false_right _ _ (ap test same ∙ fails)

-- where a number fails
pub each-false : (n k : ℕ) (test : ℕ → Bool) → k < n → test k ≡ false → each_below n test ≡ false
unfolding each_below
each-false zero k test within fails = absurd (omega (arith, within))
each-false (suc n) k test within fails = each-false_by n k test within fails (λ less. each-false n k test less fails) (cases_lt k n)

-- the tests of one number, and of two
pub each-one : (test : ℕ → Bool) → each_below 1 test ≡ test 0
unfolding each_below
each-one test = refl

pub each-two : (test : ℕ → Bool) → each_below 2 test ≡ (test 0 && test 1)
unfolding each_below
each-two test = refl

-- where no number passes
pub least-none : (n : ℕ) (test : ℕ → Bool) → ((k : ℕ) → k < n → test k ≡ false) → least_below n test ≡ None
unfolding least_below
least-none zero test none = refl
least-none (suc n) test none =
    let before : least_below n test ≡ None = least-none n test (λ k less. none k (omega (arith, less))) in
    let last : test n ≡ false = none n (omega arith) in
    rw (before, last) refl

least-is_by : (n k : ℕ) (test : ℕ → Bool) → k < suc n → test k ≡ true → ((q : ℕ) → q < k → test q ≡ false)
    → (k < n → least_below n test ≡ Some k) → (k < n) ⊎ (n ≤ k)
    → option_or (least_below n test) (if test n then Some n else None) ≡ Some k
least-is_by n k test within passes below before (inl less) = let found : least_below n test ≡ Some k = before less in rw found refl
least-is_by n k test within passes below before (inr last) =
    let same : n ≡ k = omega (arith, within, last) in
    let none : least_below n test ≡ None = least-none n test (λ q less. below q (omega (arith, less, same))) in
    let passed : test n ≡ true = ap test same ∙ passes in
    rw (none, passed, same) refl

-- the least that passes
pub least-is : (n k : ℕ) (test : ℕ → Bool) → k < n → test k ≡ true → ((q : ℕ) → q < k → test q ≡ false) → least_below n test ≡ Some k
unfolding least_below
least-is zero k test within passes below = absurd (omega (arith, within))
least-is (suc n) k test within passes below =
    least-is_by n k test within passes below (λ less. least-is n k test less passes below) (cases_lt k n)

-- where no number passes
pub greatest-none : (n : ℕ) (test : ℕ → Bool) → ((k : ℕ) → k < n → test k ≡ false) → greatest_below n test ≡ None
unfolding greatest_below
greatest-none zero test none = refl
greatest-none (suc n) test none =
    let before : greatest_below n test ≡ None = greatest-none n test (λ k less. none k (omega (arith, less))) in
    let last : test n ≡ false = none n (omega arith) in
    rw (last, before) refl

greatest-is_by : (n k : ℕ) (test : ℕ → Bool) → k < suc n → test k ≡ true → ((q : ℕ) → k < q → q < suc n → test q ≡ false)
    → (k < n → greatest_below n test ≡ Some k) → (k < n) ⊎ (n ≤ k)
    → (if test n then Some n else greatest_below n test) ≡ Some k
greatest-is_by n k test within passes above before (inl less) =
    let failed : test n ≡ false =
    above n less (omega arith) in let found : greatest_below n test ≡ Some k = before less in rw (failed, found) refl
greatest-is_by n k test within passes above before (inr last) =
    let same : n ≡ k = omega (arith, within, last) in
    let passed : test n ≡ true = ap test same ∙ passes in
    rw (passed, same) refl

-- the greatest that passes
pub greatest-is : (n k : ℕ) (test : ℕ → Bool) → k < n → test k ≡ true → ((q : ℕ) → k < q → q < n → test q ≡ false)
    → greatest_below n test ≡ Some k
unfolding greatest_below
greatest-is zero k test within passes above = absurd (omega (arith, within))
greatest-is (suc n) k test within passes above =
    greatest-is_by n k test within passes above
    (λ less. greatest-is n k test less passes (λ q more small. above q more (omega (arith, small)))) (cases_lt k n)

count_more : (n start end : ℕ)
    → (min n end - min n start) + (if nat_le start n && nat_lt n end then 1 else 0) ≡ min (suc n) end - min (suc n) start
count_more n start end = grind (arith, nat_tests)

-- how many numbers are from a start on and below an end
pub count-within : (n start end : ℕ) (test : ℕ → Bool) → start ≤ end → ((k : ℕ) → k < n → test k ≡ (nat_le start k && nat_lt k end))
    → count_below n test ≡ min n end - min n start
unfolding count_below
count-within zero start end test ordered same = omega arith
count-within (suc n) start end test ordered same =
    let before : count_below n test ≡ min n end - min n start =
    count-within n start end test ordered (λ k less. same k (omega (arith, less))) in
    let last : test n ≡ (nat_le start n && nat_lt n end) = same n (omega arith) in
    rw (before, last) (count_more n start end)
