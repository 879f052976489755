-- The first number that passes, as far as a walk has come.
use Rattle.std.proofs.Common.{◌≡◌, ℕ, ◌+◌, ◌-◌, ◌<◌, ◌≤◌, suc, Bool, true, false, Some, None, refl, arith}
use Rattle.std.specs.List.{find, range_with_len}

-- the number of this turn doesn't pass
pub find-step : (p : ℕ → Bool) (a n : ℕ) → a < n → p a ≡ false
    → find p (range_with_len a (n - a)) ≡ find p (range_with_len (a + 1) (n - (a + 1)))
find-step p a n within fails = let more : n - a ≡ suc (n - (a + 1)) = omega arith in rw (more, fails) refl

-- the number of this turn passes
pub find-found : (p : ℕ → Bool) (a n : ℕ) → a < n → p a ≡ true → find p (range_with_len a (n - a)) ≡ Some a
find-found p a n within passes = let more : n - a ≡ suc (n - (a + 1)) = omega arith in rw (more, passes) refl

-- no number is left
pub find-end : (p : ℕ → Bool) (a n : ℕ) → n ≤ a → find p (range_with_len a (n - a)) ≡ None
find-end p a n past = let none : n - a ≡ 0 = omega arith in rw none refl

pub ruleset of_finding = (find-step, find-found, find-end)
