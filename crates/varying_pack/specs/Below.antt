-- Tests on the numbers below a bound.
use Rattle.std.specs.Prelude.{ℕ, zero, suc, ◌+◌, Bool, true, ◌&&◌, if◌then◌else◌, Option, Some, None}
use Rattle.std.specs.Option.{option_or}

-- whether each number below n passes
unfoldable pub each_below : ℕ → (ℕ → Bool) → Bool
each_below zero test = true
each_below (suc n) test = each_below n test && test n

-- the least number below n that passes
unfoldable pub least_below : ℕ → (ℕ → Bool) → Option ℕ
least_below zero test = None
least_below (suc n) test = option_or (least_below n test) (if test n then Some n else None)

-- the greatest number below n that passes
unfoldable pub greatest_below : ℕ → (ℕ → Bool) → Option ℕ
greatest_below zero test = None
greatest_below (suc n) test = if test n then Some n else greatest_below n test

-- how many numbers below n pass
unfoldable pub count_below : ℕ → (ℕ → Bool) → ℕ
count_below zero test = 0
count_below (suc n) test = count_below n test + (if test n then 1 else 0)
