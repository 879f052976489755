-- Runs of free rows, where the free rows are those of one span.
use Rattle.std.proofs.Common.{◌≡◌, ◌+◌, ◌-◌, ◌<◌, ◌≤◌, ◌⊎◌, inl, inr, ℕ, zero, suc, Bool, true, false, refl, sym, ap, ◌∙◌, arith}
use Rattle.std.specs.Prelude.{nat_lt, nat_le, ◌&&◌, if◌then◌else◌, Some, None}
use Rattle.std.proofs.lemmas.Bool.{cases_lt}
use Rattle.std.proofs.lemmas.Bool.Decides.{nat_tests}
use Rattle.varying_pack.specs.declared.sheet.Span.{Span}
use Rattle.varying_pack.specs.Below.{each_below, least_below, greatest_below, count_below}
use Rattle.varying_pack.specs.Sheets.{has_room, lowest_in}
use Rattle.varying_pack.proofs.Numbers.{each-true, each-false, least-none, least-is, greatest-none, greatest-is, count-within}

-- whether a row is one of a span
abbrev pub in_span : Span → ℕ → Bool
in_span s row = nat_le s.start row && nat_lt row s.end

-- of some rows the free ones are those of a span
pub record AreFree (rows : ℕ) (test : ℕ → Bool) (s : Span) : Type 0 where
  pub ordered : s.start ≤ s.end
  pub within : s.end ≤ rows
  pub same : (row : ℕ) → row < rows → test row ≡ in_span s row

inside : (start end row : ℕ) → start ≤ row → row < end → (nat_le start row && nat_lt row end) ≡ true
inside start end row low high = grind (arith, nat_tests)

below : (start end row : ℕ) → row < start → (nat_le start row && nat_lt row end) ≡ false
below start end row low = grind (arith, nat_tests)

above : (start end row : ℕ) → end ≤ row → (nat_le start row && nat_lt row end) ≡ false
above start end row high = grind (arith, nat_tests)

-- the first of some rows
pub lowest-start : (sp : Span) (n : ℕ) → 0 < n → lowest_in sp n ≡ sp.start
lowest-start sp n some = grind (arith, nat_tests)

pub room-fits : (start end n : ℕ) → nat_le (start + n) end ≡ true → start + n ≤ end
room-fits start end n e = grind (arith, nat_tests)

pub room-short : (start end n : ℕ) → nat_le (start + n) end ≡ false → end < start + n
room-short start end n e = grind (arith, nat_tests)

module _ (rows : ℕ) (test : ℕ → Bool) (s : Span) (free : AreFree rows test s) where
  -- rows of the span are a run
  run-inside : (n row : ℕ) → s.start ≤ row → row + n ≤ s.end → each_below n (λ k. test (row + k)) ≡ true
  run-inside n row low high =
      each-true n (λ k. test (row + k)) (λ k less. free.same (row + k) (omega (arith, less, high, free.within))
      ∙ inside s.start s.end (row + k) (omega (arith, low)) (omega (arith, less, high)))

  -- rows that begin below the span are none
  run-below : (n row : ℕ) → 0 < n → row < s.start → each_below n (λ k. test (row + k)) ≡ false
  run-below n row some low =
      each-false n 0 (λ k. test (row + k)) some (free.same (row + 0) (omega (arith, low, free.within, free.ordered))
      ∙ below s.start s.end (row + 0) (omega (arith, low)))

  run-above_by : (n row : ℕ) → 0 < n → s.end < row + n → row + n ≤ rows → (row < s.end) ⊎ (s.end ≤ row)
      → each_below n (λ k. test (row + k)) ≡ false
  run-above_by n row some high within (inl less) =
      each-false n (s.end - row) (λ k. test (row + k)) (omega (arith, high, less))
      (free.same (row + (s.end - row)) (omega (arith, high, less, within))
      ∙ above s.start s.end (row + (s.end - row)) (omega (arith, less)))
  run-above_by n row some high within (inr more) =
      each-false n 0 (λ k. test (row + k)) some (free.same (row + 0) (omega (arith, some, within))
      ∙ above s.start s.end (row + 0) (omega (arith, more)))

  -- rows that reach past the span are none
  run-above : (n row : ℕ) → 0 < n → s.end < row + n → row + n ≤ rows → each_below n (λ k. test (row + k)) ≡ false
  run-above n row some high within = run-above_by n row some high within (cases_lt row s.end)

  run-none : (n row : ℕ) → 0 < n → s.end < s.start + n → row + n ≤ rows → (row < s.start) ⊎ (s.start ≤ row)
      → each_below n (λ k. test (row + k)) ≡ false
  run-none n row some short within (inl less) = run-below n row some less
  run-none n row some short within (inr more) = run-above n row some (omega (arith, short, more)) within

  lowest-by : (n : ℕ) (room : Bool) → has_room s n ≡ room
      → least_below (rows + 1 - n) (λ row. each_below n (λ k. test (row + k))) ≡ (if room then Some (lowest_in s n) else None)
  unfolding each_below
  lowest-by zero true e =
      least-is (rows + 1 - 0) 0 (λ row. each_below 0 (λ k. test (row + k))) (omega arith) refl (λ q less. absurd (omega (arith, less)))
  lowest-by zero false e = absurd (omega (arith, free.ordered, room-short s.start s.end 0 e))
  lowest-by (suc n) true e =
      let fits : s.start + suc n ≤ s.end = room-fits s.start s.end (suc n) e in
      least-is (rows + 1 - suc n) s.start (λ row. each_below (suc n) (λ k. test (row + k))) (omega (arith, fits, free.within))
      (run-inside (suc n) s.start (omega arith) fits) (λ q less. run-below (suc n) q (omega arith) less)
      ∙ ap Some (sym (lowest-start s (suc n) (omega arith)))
  lowest-by (suc n) false e =
      let short : s.end < s.start + suc n = room-short s.start s.end (suc n) e in
      least-none (rows + 1 - suc n) (λ row. each_below (suc n) (λ k. test (row + k)))
      (λ row less. run-none (suc n) row (omega arith) short (omega (arith, less)) (cases_lt row s.start))

  -- the lowest run of n rows
  pub lowest-is : (n : ℕ)
      → least_below (rows + 1 - n) (λ row. each_below n (λ k. test (row + k))) ≡ (if has_room s n then Some (lowest_in s n) else None)
  lowest-is n = lowest-by n (has_room s n) refl

  highest-by : (n : ℕ) → 0 < n → (room : Bool) → has_room s n ≡ room
      → greatest_below (rows + 1 - n) (λ row. each_below n (λ k. test (row + k))) ≡ (if room then Some (s.end - n) else None)
  highest-by n some true e =
      let fits : s.start + n ≤ s.end = room-fits s.start s.end n e in
      greatest-is (rows + 1 - n) (s.end - n) (λ row. each_below n (λ k. test (row + k))) (omega (arith, fits, free.within))
      (run-inside n (s.end - n) (omega (arith, fits)) (omega (arith, fits)))
      (λ q more less. run-above n q some (omega (arith, more, fits)) (omega (arith, less)))
  highest-by n some false e =
      let short : s.end < s.start + n = room-short s.start s.end n e in
      greatest-none (rows + 1 - n) (λ row. each_below n (λ k. test (row + k)))
      (λ row less. run-none n row some short (omega (arith, less)) (cases_lt row s.start))

  -- the highest run of n rows, if there are any
  pub highest-is : (n : ℕ) → 0 < n
      → greatest_below (rows + 1 - n) (λ row. each_below n (λ k. test (row + k))) ≡ (if has_room s n then Some (s.end - n) else None)
  highest-is n some = highest-by n some (has_room s n) refl

  -- how many rows are free
  pub count-is : count_below rows test ≡ s.end - s.start
  count-is = count-within rows s.start s.end test free.ordered free.same ∙ omega (arith, free.ordered, free.within)
