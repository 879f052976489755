-- The places that the blocks leave are those that a sheet finds.
use Rattle.std.proofs.Common.{◌≡◌, ◌+◌, ◌-◌, ◌<◌, ◌≤◌, ℕ, zero, suc, Bool, true, false, List, [], ◌∷◌, refl, ap, ◌∙◌, arith, add-zero}
use Rattle.std.specs.Prelude.{nat_lt, nat_le, not, ◌&&◌, ◌||◌, if◌then◌else◌, Some, None, is_some}
use Rattle.std.specs.List.{find}
use Rattle.std.specs.Option.{option_map, option_and_then}
use Rattle.std.proofs.lemmas.Bool.Decides.{nat_tests}
use Rattle.varying_pack.specs.declared.sheet.Sheet.{Sheet}
use Rattle.varying_pack.specs.declared.sheet.Span.{Span}
use Rattle.varying_pack.specs.Placing.{Block, is_free, is_row_free, lowest, highest, has_run, free_rows, is_fullest, in_pair, in_column}
use Rattle.varying_pack.specs.Sheets.{span_at, has_room, lowest_in, is_as_full, is_fullest_in, pair_spot, single_spot}
use Rattle.varying_pack.proofs.Numbers.{each-one, each-two}
use Rattle.varying_pack.proofs.Runs.{AreFree, in_span, lowest-is, highest-is, count-is, room-short}

-- the sheet has the rows that the blocks leave free
pub record Keeps (rows : ℕ) (s : Sheet) (blocks : List Block) : Type 0 where
  pub first : AreFree rows (λ row. is_free blocks row 0) s.first
  pub second : AreFree rows (λ row. is_free blocks row 1) s.second
  pub third : AreFree rows (λ row. is_free blocks row 2) s.third
  pub fourth : AreFree rows (λ row. is_free blocks row 3) s.fourth

-- what holds of each column
pub by_column : (P : ℕ → Type 0) → P 0 → P 1 → P 2 → P 3 → (column : ℕ) → column < 4 → P column
by_column P a b c d zero less = a
by_column P a b c d (suc zero) less = b
by_column P a b c d (suc (suc zero)) less = c
by_column P a b c d (suc (suc (suc zero))) less = d
by_column P a b c d (suc (suc (suc (suc n)))) less = absurd (omega (arith, less))

same_twice : (b : Bool) → (b && b) ≡ b
same_twice true = refl
same_twice false = refl

and-first : (a b : Bool) → (a && b) ≡ true → a ≡ true
and-first true b e = refl
and-first false b e = absurd cc

-- columns of a sheet
abbrev AreColumns : List ℕ → Type 0
AreColumns [] = Unit {0}
AreColumns (column ∷ columns) = (column < 4) × AreColumns columns

less_free : (row start end other last : ℕ) → other ≤ start → last ≡ end
    → ((nat_le start row && nat_lt row end) && (nat_le other row && nat_lt row last)) ≡ (nat_le start row && nat_lt row end)
less_free row start end other last low same = grind (arith, nat_tests)

module _ (rows : ℕ) (s : Sheet) (blocks : List Block) (keeps : Keeps rows s blocks) where
  pub column-free : (column : ℕ) → column < 4 → AreFree rows (λ row. is_free blocks row column) (span_at s column)
  column-free =
      by_column (λ column. AreFree rows (λ row. is_free blocks row column) (span_at s column))
      keeps.first keeps.second keeps.third keeps.fourth

  one-free : (column : ℕ) → column < 4 → AreFree rows (is_row_free blocks column 1) (span_at s column)
  one-free column less = let free = column-free column less in record {
    ordered = free.ordered;
    within = free.within;
    same = λ row small.
        each-one (λ k. is_free blocks row (column + k)) ∙ ap (is_free blocks row) (add-zero column) ∙ free.same row small;
  }

  left-free : s.second ≡ s.first → AreFree rows (is_row_free blocks 0 2) s.first
  left-free even = record {
    ordered = keeps.first.ordered;
    within = keeps.first.within;
    same = λ row small.
        let one : is_free blocks row 0 ≡ in_span s.first row = keeps.first.same row small in
        let two : is_free blocks row 1 ≡ in_span s.first row = keeps.second.same row small ∙ ap (λ (sp : Span). in_span sp row) even in
        each-two (λ k. is_free blocks row (0 + k)) ∙ rw (one, two) (same_twice (in_span s.first row));
  }

  right-free : s.fourth.start ≤ s.third.start → s.fourth.end ≡ s.third.end → AreFree rows (is_row_free blocks 2 2) s.third
  right-free low even = record {
    ordered = keeps.third.ordered;
    within = keeps.third.within;
    same = λ row small.
        let one : is_free blocks row 2 ≡ in_span s.third row = keeps.third.same row small in
        let two : is_free blocks row 3 ≡ in_span s.fourth row = keeps.fourth.same row small in
        each-two (λ k. is_free blocks row (2 + k))
        ∙ rw (one, two) (less_free row s.third.start s.third.end s.fourth.start s.fourth.end low even);
  }

  lowest-one : (n column : ℕ) → column < 4
      → lowest rows blocks column 1 n ≡ (if has_room (span_at s column) n then Some (lowest_in (span_at s column) n) else None)
  lowest-one n column less = lowest-is rows (is_row_free blocks column 1) (span_at s column) (one-free column less) n

  in_pair-by : (n : ℕ) → s.second ≡ s.first → s.fourth.start ≤ s.third.start → s.fourth.end ≡ s.third.end → (left right : Bool)
      → has_room s.first n ≡ left → has_room s.third n ≡ right
      → in_pair rows blocks n ≡ (if left then Some (lowest_in s.first n, 0) else (if right then Some (s.third.end - n, 2) else None))
  in_pair-by n even low ends true right l r =
      let found : lowest rows blocks 0 2 n ≡ Some (lowest_in s.first n) =
      lowest-is rows (is_row_free blocks 0 2) s.first (left-free even) n ∙ rw l refl in
      rw found refl
  in_pair-by n even low ends false true l r =
      let some : 0 < n = omega (arith, room-short s.first.start s.first.end n l, keeps.first.ordered) in
      let none : lowest rows blocks 0 2 n ≡ None = lowest-is rows (is_row_free blocks 0 2) s.first (left-free even) n ∙ rw l refl in
      let found : highest rows blocks 2 2 n ≡ Some (s.third.end - n) =
      highest-is rows (is_row_free blocks 2 2) s.third (right-free low ends) n some ∙ rw r refl in
      rw (none, found) refl
  in_pair-by n even low ends false false l r =
      let some : 0 < n = omega (arith, room-short s.first.start s.first.end n l, keeps.first.ordered) in
      let none : lowest rows blocks 0 2 n ≡ None = lowest-is rows (is_row_free blocks 0 2) s.first (left-free even) n ∙ rw l refl in
      let full : highest rows blocks 2 2 n ≡ None =
      highest-is rows (is_row_free blocks 2 2) s.third (right-free low ends) n some ∙ rw r refl in
      rw (none, full) refl

  -- two columns
  pub in_pair-is : (n : ℕ) → s.second ≡ s.first → s.fourth.start ≤ s.third.start → s.fourth.end ≡ s.third.end
      → in_pair rows blocks n ≡ pair_spot s n
  in_pair-is n even low ends = in_pair-by n even low ends (has_room s.first n) (has_room s.third n) refl refl

  is_some-if : (b : Bool) (k : ℕ) → is_some (if b then Some k else None) ≡ b
  is_some-if true k = refl
  is_some-if false k = refl

  has_run-is : (n column : ℕ) → column < 4 → has_run rows blocks n column ≡ has_room (span_at s column) n
  has_run-is n column less =
      ap is_some (lowest-one n column less) ∙ is_some-if (has_room (span_at s column) n) (lowest_in (span_at s column) n)

  free_rows-is : (column : ℕ) → column < 4 → free_rows rows blocks column ≡ (span_at s column).end - (span_at s column).start
  free_rows-is column less = count-is rows (λ row. is_free blocks row column) (span_at s column) (column-free column less)

  as_full-is : (n column other : ℕ) → column < 4 → other < 4
      → (not (has_run rows blocks n other) || nat_le (free_rows rows blocks column) (free_rows rows blocks other))
      ≡ is_as_full s n column other
  as_full-is n column other less small =
      rw (has_run-is n other small, free_rows-is column less, free_rows-is other small) refl

  is_fullest-is : (n column : ℕ) → column < 4 → is_fullest rows blocks n column ≡ is_fullest_in s n column
  is_fullest-is n column less =
      rw (
        has_run-is n column less,
        as_full-is n column 0 less (omega arith),
        as_full-is n column 1 less (omega arith),
        as_full-is n column 2 less (omega arith),
        as_full-is n column 3 less (omega arith),
      )
      refl

  there : (n column : ℕ) → column < 4 → is_fullest_in s n column ≡ true
      → option_map {U = ℕ × ℕ} (λ row. (row, column)) (lowest rows blocks column 1 n) ≡ Some (lowest_in (span_at s column) n, column)
  there n column less full =
      let room : has_room (span_at s column) n ≡ true = and-first _ _ full in
      let found : lowest rows blocks column 1 n ≡ Some (lowest_in (span_at s column) n) = lowest-one n column less ∙ rw room refl in
      rw found refl

  find-spot_by : (n column : ℕ) (columns : List ℕ) → AreColumns (column ∷ columns)
      → option_and_then {U = ℕ × ℕ} (λ column. option_map {U = ℕ × ℕ} (λ row. (row, column)) (lowest rows blocks column 1 n))
      (find (is_fullest rows blocks n) columns)
      ≡ option_map {U = ℕ × ℕ} (λ column. (lowest_in (span_at s column) n, column)) (find (is_fullest_in s n) columns)
      → (full : Bool) → is_fullest_in s n column ≡ full
      → option_and_then {U = ℕ × ℕ} (λ column. option_map {U = ℕ × ℕ} (λ row. (row, column)) (lowest rows blocks column 1 n))
      (if full then Some column else find (is_fullest rows blocks n) columns)
      ≡ option_map {U = ℕ × ℕ} (λ column. (lowest_in (span_at s column) n, column))
      (if full then Some column else find (is_fullest_in s n) columns)
  find-spot_by n column columns are rest true e = there n column are.0 e
  find-spot_by n column columns are rest false e = rest

  find-spot : (n : ℕ) (columns : List ℕ) → AreColumns columns
      → option_and_then {U = ℕ × ℕ} (λ column. option_map {U = ℕ × ℕ} (λ row. (row, column)) (lowest rows blocks column 1 n))
      (find (is_fullest rows blocks n) columns)
      ≡ option_map {U = ℕ × ℕ} (λ column. (lowest_in (span_at s column) n, column)) (find (is_fullest_in s n) columns)
  find-spot n [] are = refl
  find-spot n (column ∷ columns) are =
      rw (is_fullest-is n column are.0) (find-spot_by n column columns are (find-spot n columns are.1) (is_fullest_in s n column) refl)

  -- one column
  pub in_column-is : (n : ℕ) → in_column rows blocks n ≡ single_spot s n
  in_column-is n = find-spot n (0 ∷ 1 ∷ 2 ∷ 3 ∷ []) (omega arith, (omega arith, (omega arith, (omega arith, tt))))
