-- One item after another takes its place.
use Rattle.std.proofs.Common.{◌≡◌, ◌+◌, ◌-◌, ◌<◌, ◌≤◌, ℕ, zero, suc, Bool, true, false, List, ◌∷◌, refl, sym, ap, ◌∙◌, arith}
use Rattle.std.specs.Prelude.{◌==◌, nat_lt, nat_le, not, ◌&&◌, ◌||◌, if◌then◌else◌, Some, None}
use Rattle.std.specs.List.{list_any}
use Rattle.std.proofs.lemmas.Bool.Decides.{nat_tests}
use Rattle.varying_pack.specs.declared.items.PackItem.{PackItem}
use Rattle.varying_pack.specs.declared.sheet.Sheet.{Sheet}
use Rattle.varying_pack.specs.declared.sheet.Span.{Span}
use Rattle.varying_pack.specs.Placing.{Block, after_used, has_cell, in_column, in_pair, is_among, is_free, item_rows, place_of, rows_used}
use Rattle.varying_pack.specs.Sheets.{after_single, after_wide, from_row, lowest_in, pair_spot, single_spot, span_at, spot, up_to_row, wide_spot}
use Rattle.varying_pack.proofs.Runs.{AreFree, in_span, lowest-start}
use Rattle.varying_pack.proofs.Grids.{Keeps, by_column, in_column-is, in_pair-is}

-- what an item of a class needs of the free rows, which those before it left
pub record Ready (class rows : ℕ) (s : Sheet) (blocks : List Block) : Type 0 where
  pub used : class ≤ 5 → rows_used blocks ≡ s.first.start
  pub level : class ≤ 5 → (s.third ≡ s.first) × (s.first.end ≡ rows)
  pub whole : class ≤ 3 → s.fourth ≡ s.first
  pub pairs : class ≤ 6 → (s.second ≡ s.first) × (s.fourth.start ≤ s.third.start) × (s.fourth.end ≡ s.third.end)

-- an item of a later class needs no more
pub ready-later : (class later rows : ℕ) (s : Sheet) (blocks : List Block) → class ≤ later → Ready class rows s blocks
    → Ready later rows s blocks
ready-later class later rows s blocks less ready = record {
  used = λ small. ready.used (omega (arith, less, small));
  level = λ small. ready.level (omega (arith, less, small));
  whole = λ small. ready.whole (omega (arith, less, small));
  pairs = λ small. ready.pairs (omega (arith, less, small));
}

-- # Where an item goes

wide-is : (class rows : ℕ) (s : Sheet) (blocks : List Block) (n : ℕ) → class ≤ 5 → Ready class rows s blocks
    → after_used rows blocks n ≡ wide_spot s n
wide-is class rows s blocks n small ready =
    let used : rows_used blocks ≡ s.first.start = ready.used small in
    let end : s.first.end ≡ rows = (ready.level small).1 in
    rw (used, end) refl

pub class-wide : (class k : ℕ) → nat_le class k ≡ true → class ≤ k
class-wide class k e = grind (arith, nat_tests)

pub class-narrow : (class k : ℕ) → nat_le class k ≡ false → k < class
class-narrow class k e = grind (arith, nat_tests)

pub class-is : (class k : ℕ) → (class == k) ≡ true → class ≡ k
class-is class k e = grind (arith, nat_tests)

pub class-not : (class : ℕ) → nat_le class 5 ≡ false → (class == 6) ≡ false → 6 < class
class-not class e f = grind (arith, nat_tests)

spot-by : (rows : ℕ) (s : Sheet) (blocks : List Block) (item : PackItem) → Keeps rows s blocks → Ready item.class rows s blocks
    → (wide six : Bool) → nat_le item.class 5 ≡ wide → (item.class == 6) ≡ six
    → (let n = item_rows item in
    if wide then after_used rows blocks n else (if six then in_pair rows blocks n else in_column rows blocks n))
    ≡ (let n = item_rows item in if wide then wide_spot s n else (if six then pair_spot s n else single_spot s n))
spot-by rows s blocks item keeps ready true six w x = wide-is item.class rows s blocks (item_rows item) (class-wide item.class 5 w) ready
spot-by rows s blocks item keeps ready false true w x =
    let pairs = ready.pairs (omega (arith, class-is item.class 6 x)) in
    in_pair-is rows s blocks keeps (item_rows item) pairs.0 pairs.1 pairs.2
spot-by rows s blocks item keeps ready false false w x = in_column-is rows s blocks keeps (item_rows item)

-- an item goes where the sheet finds it a place
pub spot-is : (rows : ℕ) (s : Sheet) (blocks : List Block) (item : PackItem) → Keeps rows s blocks → Ready item.class rows s blocks
    → place_of rows blocks item ≡ spot s item
unfolding place_of
spot-is rows s blocks item keeps ready = spot-by rows s blocks item keeps ready (nat_le item.class 5) (item.class == 6) refl refl

-- # What is free once it is there

not-or : (x y : Bool) → not (x || y) ≡ (not x && not y)
not-or true y = refl
not-or false y = refl

free-more : (b : Block) (blocks : List Block) (row column : ℕ)
    → is_free (b ∷ blocks) row column ≡ (not (has_cell row column b) && is_free blocks row column)
free-more b blocks row column = not-or (has_cell row column b) (list_any (has_cell row column) blocks)

elsewhere : (x y z : Bool) → y ≡ false → (not (x && y) && z) ≡ z
elsewhere true y z e = rw e refl
elsewhere false y z e = refl

there_is : (x y z : Bool) → y ≡ true → (not (x && y) && z) ≡ (not x && z)
there_is true y z e = rw e refl
there_is false y z e = refl

low_rows : (start end n at row : ℕ) → at ≡ start → start + n ≤ end
    → (not (nat_le at row && nat_lt row (at + n)) && (nat_le start row && nat_lt row end)) ≡ (nat_le (start + n) row && nat_lt row end)
low_rows start end n at row same fits = grind (arith, nat_tests)

no_rows : (start end at row : ℕ)
    → (not (nat_le at row && nat_lt row (at + 0)) && (nat_le start row && nat_lt row end)) ≡ (nat_le (start + 0) row && nat_lt row end)
no_rows start end at row = grind (arith, nat_tests)

high_rows : (start end n row : ℕ) → start + n ≤ end
    → (not (nat_le (end - n) row && nat_lt row (end - n + n)) && (nat_le start row && nat_lt row end))
    ≡ (nat_le start row && nat_lt row (end - n))
high_rows start end n row fits = grind (arith, nat_tests)

first_rows : (start end n at row : ℕ) → (0 < n → at ≡ start) → start + n ≤ end
    → (not (nat_le at row && nat_lt row (at + n)) && (nat_le start row && nat_lt row end)) ≡ (nat_le (start + n) row && nat_lt row end)
first_rows start end zero at row same fits = no_rows start end at row
first_rows start end (suc n) at row same fits = low_rows start end (suc n) at row (same (omega arith)) fits

module _ (rows : ℕ) (blocks : List Block) (sp : Span) (column : ℕ) (free : AreFree rows (λ row. is_free blocks row column) sp) where
  -- the item is in other columns
  free-apart : (b : Block) → is_among b.column b.columns column ≡ false → AreFree rows (λ row. is_free (b ∷ blocks) row column) sp
  free-apart b apart = record {
    ordered = free.ordered;
    within = free.within;
    same = λ row less.
        free-more b blocks row column
        ∙ elsewhere (is_among b.row b.rows row) (is_among b.column b.columns column) (is_free blocks row column) apart
        ∙ free.same row less;
  }

  free-by : (b : Block) (left : Span) → is_among b.column b.columns column ≡ true → left.start ≤ left.end → left.end ≤ rows
      → ((row : ℕ) → (not (is_among b.row b.rows row) && in_span sp row) ≡ in_span left row)
      → AreFree rows (λ row. is_free (b ∷ blocks) row column) left
  free-by b left there ordered inside same = record {
    ordered = ordered;
    within = inside;
    same = λ row less.
        free-more b blocks row column
        ∙ there_is (is_among b.row b.rows row) (is_among b.column b.columns column) (is_free blocks row column) there
        ∙ ap (λ z. not (is_among b.row b.rows row) && z) (free.same row less) ∙ same row;
  }

  -- it took the lowest rows
  free-low : (b : Block) (next : ℕ) → is_among b.column b.columns column ≡ true → (0 < b.rows → b.row ≡ sp.start)
      → sp.start + b.rows ≤ sp.end
      → next ≡ sp.start + b.rows → AreFree rows (λ row. is_free (b ∷ blocks) row column) (from_row next sp)
  free-low b next there at fits same =
      free-by b (from_row next sp) there (omega (arith, fits, same)) free.within
      (λ row. first_rows sp.start sp.end b.rows b.row row at fits ∙ ap (λ k. nat_le k row && nat_lt row sp.end) (sym same))

  -- it took the highest rows
  free-high : (b : Block) (last : ℕ) → is_among b.column b.columns column ≡ true → b.row ≡ last → sp.start + b.rows ≤ sp.end
      → last ≡ sp.end - b.rows → AreFree rows (λ row. is_free (b ∷ blocks) row column) (up_to_row last sp)
  free-high b last there at fits same =
      free-by b (up_to_row last sp) there (omega (arith, fits, same)) (omega (arith, same, free.within))
      (λ row. rw (at, same) (high_rows sp.start sp.end b.rows row fits))

pub start-same : (a b : Span) → a ≡ b → a.start ≡ b.start
start-same a b e = ap (λ (sp : Span). sp.start) e

end-same : (a b : Span) → a ≡ b → a.end ≡ b.end
end-same a b e = ap (λ (sp : Span). sp.end) e

pub if-some : {X : Type 0} (b : Bool) (x y : X) → (if b then Some x else None) ≡ Some y → (b ≡ true) × (x ≡ y)
if-some true x y e = (refl, cc)
if-some false x y e = absurd cc

module _ (rows : ℕ) (s : Sheet) (blocks : List Block) (keeps : Keeps rows s blocks) (item n : ℕ) where
  abbrev taken : ℕ → ℕ → ℕ → List Block
  taken row column columns = record { item = item; row = row; column = column; rows = n; columns = columns } ∷ blocks

  pub four-keep : s.second ≡ s.first → s.third ≡ s.first → s.fourth ≡ s.first → s.first.start + n ≤ s.first.end
      → Keeps rows (after_wide s 4 n) (taken s.first.start 0 4)
  four-keep second third fourth fits =
      let b : Block = record { item = item; row = s.first.start; column = 0; rows = n; columns = 4 } in
      let next = s.first.start + n in
      let second_start = start-same s.second s.first second in
      let second_end = end-same s.second s.first second in
      let third_start = start-same s.third s.first third in
      let third_end = end-same s.third s.first third in
      let fourth_start = start-same s.fourth s.first fourth in
      let fourth_end = end-same s.fourth s.first fourth in
      record {
        first = free-low rows blocks s.first 0 keeps.first b next refl (λ _. refl) fits refl;
        second = free-low rows blocks s.second 1 keeps.second b next refl (λ _. sym second_start) (omega arith) (omega arith);
        third = free-low rows blocks s.third 2 keeps.third b next refl (λ _. sym third_start) (omega arith) (omega arith);
        fourth = free-low rows blocks s.fourth 3 keeps.fourth b next refl (λ _. sym fourth_start) (omega arith) (omega arith);
      }

  pub three-keep : s.second ≡ s.first → s.third ≡ s.first → s.first.start + n ≤ s.first.end
      → Keeps rows (after_wide s 3 n) (taken s.first.start 0 3)
  three-keep second third fits =
      let b : Block = record { item = item; row = s.first.start; column = 0; rows = n; columns = 3 } in
      let next = s.first.start + n in
      let second_start = start-same s.second s.first second in
      let second_end = end-same s.second s.first second in
      let third_start = start-same s.third s.first third in
      let third_end = end-same s.third s.first third in
      record {
        first = free-low rows blocks s.first 0 keeps.first b next refl (λ _. refl) fits refl;
        second = free-low rows blocks s.second 1 keeps.second b next refl (λ _. sym second_start) (omega arith) (omega arith);
        third = free-low rows blocks s.third 2 keeps.third b next refl (λ _. sym third_start) (omega arith) (omega arith);
        fourth = free-apart rows blocks s.fourth 3 keeps.fourth b refl;
      }

  pub left-keep : s.second ≡ s.first → s.first.start + n ≤ s.first.end
      → Keeps rows (record s { first = from_row (s.first.start + n) s.first; second = from_row (s.first.start + n) s.second })
      (taken (lowest_in s.first n) 0 2)
  left-keep second fits =
      let b : Block = record { item = item; row = lowest_in s.first n; column = 0; rows = n; columns = 2 } in
      let next = s.first.start + n in
      let second_start = start-same s.second s.first second in
      let second_end = end-same s.second s.first second in
      record {
        first = free-low rows blocks s.first 0 keeps.first b next refl (lowest-start s.first n) fits refl;
        second =
            free-low rows blocks s.second 1 keeps.second b next refl (λ some. lowest-start s.first n some ∙ sym second_start) (omega arith)
            (omega arith);
        third = free-apart rows blocks s.third 2 keeps.third b refl;
        fourth = free-apart rows blocks s.fourth 3 keeps.fourth b refl;
      }

  pub right-keep : s.fourth.start ≤ s.third.start → s.fourth.end ≡ s.third.end → s.third.start + n ≤ s.third.end
      → Keeps rows (record s { third = up_to_row (s.third.end - n) s.third; fourth = up_to_row (s.third.end - n) s.fourth })
      (taken (s.third.end - n) 2 2)
  right-keep low even fits =
      let b : Block = record { item = item; row = s.third.end - n; column = 2; rows = n; columns = 2 } in
      let last = s.third.end - n in
      record {
        first = free-apart rows blocks s.first 0 keeps.first b refl;
        second = free-apart rows blocks s.second 1 keeps.second b refl;
        third = free-high rows blocks s.third 2 keeps.third b last refl refl fits refl;
        fourth = free-high rows blocks s.fourth 3 keeps.fourth b last refl refl (omega (arith, low, even, fits)) (omega (arith, even));
      }

  pub one-keep : (column : ℕ) → column < 4 → (span_at s column).start + n ≤ (span_at s column).end
      → Keeps rows (after_single s column n) (taken (lowest_in (span_at s column) n) column 1)
  one-keep =
      by_column
      (λ column. (span_at s column).start + n ≤ (span_at s column).end
      → Keeps rows (after_single s column n) (taken (lowest_in (span_at s column) n) column 1))
      (λ fits. let b : Block = record { item = item; row = lowest_in s.first n; column = 0; rows = n; columns = 1 } in record {
        first = free-low rows blocks s.first 0 keeps.first b (s.first.start + n) refl (lowest-start s.first n) fits refl;
        second = free-apart rows blocks s.second 1 keeps.second b refl;
        third = free-apart rows blocks s.third 2 keeps.third b refl;
        fourth = free-apart rows blocks s.fourth 3 keeps.fourth b refl;
      })
      (λ fits. let b : Block = record { item = item; row = lowest_in s.second n; column = 1; rows = n; columns = 1 } in record {
        first = free-apart rows blocks s.first 0 keeps.first b refl;
        second = free-low rows blocks s.second 1 keeps.second b (s.second.start + n) refl (lowest-start s.second n) fits refl;
        third = free-apart rows blocks s.third 2 keeps.third b refl;
        fourth = free-apart rows blocks s.fourth 3 keeps.fourth b refl;
      })
      (λ fits. let b : Block = record { item = item; row = lowest_in s.third n; column = 2; rows = n; columns = 1 } in record {
        first = free-apart rows blocks s.first 0 keeps.first b refl;
        second = free-apart rows blocks s.second 1 keeps.second b refl;
        third = free-low rows blocks s.third 2 keeps.third b (s.third.start + n) refl (lowest-start s.third n) fits refl;
        fourth = free-apart rows blocks s.fourth 3 keeps.fourth b refl;
      })
      (λ fits. let b : Block = record { item = item; row = lowest_in s.fourth n; column = 3; rows = n; columns = 1 } in record {
        first = free-apart rows blocks s.first 0 keeps.first b refl;
        second = free-apart rows blocks s.second 1 keeps.second b refl;
        third = free-apart rows blocks s.third 2 keeps.third b refl;
        fourth = free-low rows blocks s.fourth 3 keeps.fourth b (s.fourth.start + n) refl (lowest-start s.fourth n) fits refl;
      })
