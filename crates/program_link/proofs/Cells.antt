-- Items that are placed have a cell of their own for each element, so more elements than cells have no room.
use Rattle.std.proofs.Common.{◌≡◌, ◌⊎◌, ℕ, ◌+◌, ◌-◌, ◌*◌, ◌<◌, ◌≤◌, suc, zero, min, Bool, true, false, Option, Some, None, List, [], ◌∷◌, refl, sym, ap, subst, ◌∙◌, inl, inr, arith}
use Rattle.std.specs.Prelude.{◌==◌, ◌&&◌, ◌||◌, not, nat_le, nat_lt, cond, if◌then◌else◌}
use Rattle.std.specs.List.{enumerate_from, find, list_any}
use Rattle.std.specs.Option.{option_map, option_or}
use Rattle.std.proofs.lemmas.Bool.{cases_lt}
use Rattle.std.proofs.lemmas.Grind.{common_steps}
use Rattle.std.proofs.lemmas.Option.{option_and_then_some, same_Some}
use Rattle.std.proofs.Math.Nat.{mul-le-mul_right}
use Rattle.varying_pack.specs.declared.items.PackItem.{PackItem}
use Rattle.varying_pack.specs.Below.{count_below, each_below, least_below, greatest_below}
use Rattle.varying_pack.specs.Placing.{Block, Listed, after_used, block_at, blocks_of, columns_of, has_cell, highest, in_column, in_order, in_pair, is_among, is_before, is_fullest, is_free, is_row_free, is_run, item_rows, lowest, place_of, placing, put_in_order, rows_of, rows_used}

kept-one : (a b : Bool) → (a ≡ true → b ≡ true) → (if a then 1 else 0) ≤ (if b then 1 else 0)
kept-one true b keeps = rw (keeps refl) (omega arith)
kept-one false b keeps = omega arith

added-one : (a b : Bool) → a ≡ false → b ≡ true → (if a then 1 else 0) + 1 ≤ (if b then 1 else 0)
added-one a b none some = rw (none, some) (omega arith)

-- a test that passes where another does passes more often by those of m numbers from one on where the other doesn't
gain : (n : ℕ) (p q : ℕ → Bool) (row m : ℕ) → ((k : ℕ) → k < n → p k ≡ true → q k ≡ true)
    → ((k : ℕ) → k < n → row ≤ k → k < row + m → p k ≡ false) → ((k : ℕ) → k < n → row ≤ k → k < row + m → q k ≡ true)
    → count_below n p + (min n (row + m) - min n row) ≤ count_below n q
unfolding count_below
gain zero p q row m keeps none some = omega arith
gain (suc n) p q row m keeps none some =
    let before : count_below n p + (min n (row + m) - min n row) ≤ count_below n q =
    gain n p q row m (λ k l. keeps k (omega (arith, l))) (λ k l. none k (omega (arith, l))) (λ k l. some k (omega (arith, l))) in
    let kept : (if p n then 1 else 0) ≤ (if q n then 1 else 0) = kept-one (p n) (q n) (keeps n (omega arith)) in
    elim (cases_lt n row) [
      | inl below ↦ omega (arith, before, kept, below)
      | inr from ↦ elim (cases_lt n (row + m)) [
        | inl within ↦
            let added : (if p n then 1 else 0) + 1 ≤ (if q n then 1 else 0) =
            added-one (p n) (q n) (none n (omega arith) from within) (some n (omega arith) from within) in
            omega (arith, before, added, from, within)
        | inr past ↦ omega (arith, before, kept, from, past)
      ]
    ]

at-most : (n : ℕ) (p : ℕ → Bool) → count_below n p ≤ n
unfolding count_below
at-most zero p = omega arith
at-most (suc n) p = let one : (if p n then 1 else 0) ≤ (if true then 1 else 0) = kept-one (p n) true (λ e. refl) in omega
    (arith, at-most n p, one)

-- the rows of a column that are taken
taken : List Block → ℕ → ℕ → Bool
taken blocks column row = not (is_free blocks row column)

-- how many cells of the four columns are taken
taken_cells : ℕ → List Block → ℕ
taken_cells rows blocks =
    count_below rows (λ r. taken blocks 0 r) + count_below rows (λ r. taken blocks 1 r) + count_below rows (λ r. taken blocks 2 r)
    + count_below rows (λ r. taken blocks 3 r)

or-not : (a b : Bool) → not (not b) ≡ true → not (not (a || b)) ≡ true
or-not true b e = refl
or-not false b e = e

or-first : (a b : Bool) → a ≡ true → not (not (a || b)) ≡ true
or-first a b e = rw e refl

not-true : (b : Bool) → b ≡ true → not b ≡ false
not-true b e = rw e refl

-- what was taken stays taken beside one more block, and its cells are taken then
taken-kept : (b : Block) (blocks : List Block) (column row : ℕ) → taken blocks column row ≡ true → taken (b ∷ blocks) column row ≡ true
unfolding taken
taken-kept b blocks column row e = or-not (has_cell row column b) (list_any (has_cell row column) blocks) e

taken-now : (b : Block) (blocks : List Block) (column row : ℕ) → has_cell row column b ≡ true → taken (b ∷ blocks) column row ≡ true
unfolding taken
taken-now b blocks column row e = or-first (has_cell row column b) (list_any (has_cell row column) blocks) e

-- the first of so many rows from a row on is within, and free in a column
pub record FreeRun (rows : ℕ) (blocks : List Block) (column row n : ℕ) : Type 0 where
  pub inside : column < 4
  pub within : row + n ≤ rows
  pub free : (k : ℕ) → k < n → is_free blocks (row + k) column ≡ true

-- tests on numbers
le-true : (a b : ℕ) → a ≤ b → nat_le a b ≡ true
le-true a b h = grind (arith, common_steps)

lt-true : (a b : ℕ) → a < b → nat_lt a b ≡ true
lt-true a b h = grind (arith, common_steps)

lt-false : (a b : ℕ) → b ≤ a → nat_lt a b ≡ false
lt-false a b h = grind (arith, common_steps)

true-le : (a b : ℕ) → nat_le a b ≡ true → a ≤ b
true-le a b h = grind (arith, common_steps)

and-both : (a b : Bool) → a ≡ true → b ≡ true → (a && b) ≡ true
and-both a b x y = rw (x, y) refl

and-left : (a b : Bool) → (a && b) ≡ true → a ≡ true
and-left true b e = refl
and-left false b e = absurd cc

and-right : (a b : Bool) → (a && b) ≡ true → b ≡ true
and-right true b e = e
and-right false b e = absurd cc

among-true : (first n k : ℕ) → first ≤ k → k < first + n → is_among first n k ≡ true
among-true first n k from below = and-both (nat_le first k) (nat_lt k (first + n)) (le-true first k from) (lt-true k (first + n) below)

columns-by : (a b c : Bool) → 0 < (if a then 4 else (if b then 3 else (if c then 2 else 1)))
columns-by true b c = omega arith
columns-by false true c = omega arith
columns-by false false true = omega arith
columns-by false false false = omega arith

rows-by : (a b c : Bool) → 0 < (if a then 4 else (if b then 2 else (if c then 3 else 1)))
rows-by true b c = omega arith
rows-by false true c = omega arith
rows-by false false true = omega arith
rows-by false false false = omega arith

-- the cells of a block
own-cell : (a : Listed) (row column k : ℕ) → row ≤ k → k < row + item_rows a.1 → has_cell k column (block_at a (row, column)) ≡ true
own-cell a row column k from below =
    let wide : 0 < columns_of a.1.class = columns-by (nat_le a.1.class 3) (nat_le a.1.class 5) (a.1.class == 6) in
    and-both _ _ (among-true row (item_rows a.1) k from below)
    (among-true column (columns_of a.1.class) column (omega arith) (omega (arith, wide)))

-- no fewer cells of a column are taken beside one more block, and in the column of a free run so many more
column-kept : (rows : ℕ) (b : Block) (blocks : List Block) (column : ℕ)
    → count_below rows (taken blocks column) ≤ count_below rows (taken (b ∷ blocks) column)
column-kept rows b blocks column =
    let more : count_below rows (taken blocks column) + (min rows (0 + 0) - min rows 0) ≤ count_below rows (taken (b ∷ blocks) column) =
    gain rows (taken blocks column) (taken (b ∷ blocks) column) 0 0 (λ k l e. taken-kept b blocks column k e)
    (λ k l from below. absurd (omega (arith, below))) (λ k l from below. absurd (omega (arith, below))) in
    omega (arith, more)

free-not : (blocks : List Block) (column row : ℕ) → is_free blocks row column ≡ true → taken blocks column row ≡ false
unfolding taken
free-not blocks column row e = not-true (is_free blocks row column) e

free-at : (rows : ℕ) (blocks : List Block) (column row n k : ℕ) → FreeRun rows blocks column row n → row ≤ k → k < row + n
    → taken blocks column k ≡ false
free-at rows blocks column row n k run from below =
    let same : row + (k - row) ≡ k = omega (arith, from) in
    let there : is_free blocks (row + (k - row)) column ≡ true = run.free (k - row) (omega (arith, from, below)) in
    free-not blocks column k (rw same at there)

column-gained : (rows : ℕ) (a : Listed) (blocks : List Block) (column row : ℕ) → FreeRun rows blocks column row (item_rows a.1)
    → count_below rows (taken blocks column) + item_rows a.1 ≤ count_below rows (taken (block_at a (row, column) ∷ blocks) column)
column-gained rows a blocks column row run =
    let n : ℕ = item_rows a.1 in
    let more : count_below rows (taken blocks column) + (min rows (row + n) - min rows row)
    ≤ count_below rows (taken (block_at a (row, column) ∷ blocks) column) =
    gain rows (taken blocks column) (taken (block_at a (row, column) ∷ blocks) column) row n
    (λ k l e. taken-kept (block_at a (row, column)) blocks column k e)
    (λ k l from below. free-at rows blocks column row n k run from below)
    (λ k l from below. taken-now (block_at a (row, column)) blocks column k (own-cell a row column k from below)) in
    omega (arith, more, run.within)

-- an item that is placed takes as many more cells as it has rows, at least
grown : (rows : ℕ) (a : Listed) (blocks : List Block) (row column : ℕ) → FreeRun rows blocks column row (item_rows a.1)
    → taken_cells rows blocks + item_rows a.1 ≤ taken_cells rows (block_at a (row, column) ∷ blocks)
unfolding taken_cells
grown rows a blocks row zero run =
    let b : Block = block_at a (row, 0) in
    omega (
      arith,
      column-gained rows a blocks 0 row run,
      column-kept rows b blocks 1,
      column-kept rows b blocks 2,
      column-kept rows b
          blocks 3,
    )
grown rows a blocks row (suc zero) run =
    let b : Block = block_at a (row, 1) in
    omega (
      arith,
      column-gained rows a blocks 1 row run,
      column-kept rows b blocks 0,
      column-kept rows b blocks 2,
      column-kept rows b
          blocks 3,
    )
grown rows a blocks row (suc (suc zero)) run =
    let b : Block = block_at a (row, 2) in
    omega (
      arith,
      column-gained rows a blocks 2 row run,
      column-kept rows b blocks 0,
      column-kept rows b blocks 1,
      column-kept rows b
          blocks 3,
    )
grown rows a blocks row (suc (suc (suc zero))) run =
    let b : Block = block_at a (row, 3) in
    omega (
      arith,
      column-gained rows a blocks 3 row run,
      column-kept rows b blocks 0,
      column-kept rows b blocks 1,
      column-kept rows b
          blocks 2,
    )
grown rows a blocks row (suc (suc (suc (suc column)))) run = absurd (omega (arith, run.inside))

cells-bound : (rows : ℕ) (blocks : List Block) → taken_cells rows blocks ≤ 4 * rows
unfolding taken_cells
cells-bound rows blocks =
    omega (
      arith,
      at-most rows (taken blocks 0),
      at-most rows (taken blocks 1),
      at-most rows (taken blocks 2),
      at-most rows
          (taken blocks 3),
    )

-- what the searches for rows find
if-some : {X : Type 0} (b : Bool) (x y : X) → (if b then Some x else None) ≡ Some y → (b ≡ true) × (x ≡ y)
if-some true x y e = (refl, cc)
if-some false x y e = absurd cc

or-some : (o : Option ℕ) (b : Bool) (n k : ℕ) → option_or o (if b then Some n else None) ≡ Some k → (o ≡ Some k) ⊎ ((b ≡ true) × (n ≡ k))
or-some None b n k e = inr (if-some b n k e)
or-some (Some m) b n k e = inl e

least-some : (n k : ℕ) (test : ℕ → Bool) → least_below n test ≡ Some k → (k < n) × (test k ≡ true)
unfolding least_below
least-some zero k test e = absurd cc
least-some (suc n) k test e =
    elim (or-some (least_below n test) (test n) n k e) [
      | inl before ↦ let both = least-some n k test before in (omega (arith, both.0), both.1)
      | inr here ↦ (omega (arith, here.1), ap test (sym here.1) ∙ here.0)
    ]

else-some : (b : Bool) (n k : ℕ) (o : Option ℕ) → (if b then Some n else o) ≡ Some k → ((b ≡ true) × (n ≡ k)) ⊎ (o ≡ Some k)
else-some true n k o e = inl (refl, cc)
else-some false n k o e = inr e

greatest-some : (n k : ℕ) (test : ℕ → Bool) → greatest_below n test ≡ Some k → (k < n) × (test k ≡ true)
unfolding greatest_below
greatest-some zero k test e = absurd cc
greatest-some (suc n) k test e =
    elim (else-some (test n) n k (greatest_below n test) e) [
      | inl here ↦ (omega (arith, here.1), ap test (sym here.1) ∙ here.0)
      | inr before ↦ let both = greatest-some n k test before in (omega (arith, both.0), both.1)
    ]

each-some : (n k : ℕ) (test : ℕ → Bool) → each_below n test ≡ true → k < n → test k ≡ true
unfolding each_below
each-some zero k test e within = absurd (omega (arith, within))
each-some (suc n) k test e within =
    elim (cases_lt k n) [
      | inl below ↦ each-some n k test (and-left _ _ e) below
      | inr here ↦ let same : n ≡ k = omega (arith, within, here) in ap test (sym same) ∙ and-right _ _ e
    ]

run-free : (blocks : List Block) (column w n row k : ℕ) → 0 < w → is_run blocks column w n row ≡ true → k < n
    → is_free blocks (row + k) column ≡ true
run-free blocks column w n row k wide run within =
    let one : is_row_free blocks column w (row + k) ≡ true = each-some n k (λ q. is_row_free blocks column w (row + q)) run within in
    let first : is_free blocks (row + k) (column + 0) ≡ true = each-some w 0 (λ q. is_free blocks (row + k) (column + q)) one wide in
    let same : column + 0 ≡ column = omega arith in
    rw same at first

-- a place has a free run of rows
lowest-run : (rows : ℕ) (blocks : List Block) (column w n row : ℕ) → 0 < w → column < 4
    → lowest rows blocks column w n ≡ Some row
    → FreeRun rows blocks column row n
lowest-run rows blocks column w n row wide inside found =
    let both = least-some (rows + 1 - n) row (is_run blocks column w n) found in
    record {
      inside = inside;
      within = omega (arith, both.0);
      free = λ k less. run-free blocks column w n row k wide both.1 less;
    }

highest-run : (rows : ℕ) (blocks : List Block) (column w n row : ℕ) → 0 < w → column < 4
    → highest rows blocks column w n ≡ Some row → FreeRun rows blocks column row n
highest-run rows blocks column w n row wide inside found =
    let both = greatest-some (rows + 1 - n) row (is_run blocks column w n) found in
    record {
      inside = inside;
      within = omega (arith, both.0);
      free = λ k less. run-free blocks column w n row k wide both.1 less;
    }

not-or : (a b : Bool) → a ≡ false → not b ≡ true → not (a || b) ≡ true
not-or a b x y = rw (x, y) refl

and-off : (a b c : Bool) → b ≡ false → ((a && b) && c) ≡ false
and-off true b c e = rw e refl
and-off false b c e = refl

beyond : (blocks : List Block) (row column : ℕ) → rows_used blocks ≤ row → is_free blocks row column ≡ true
beyond [] row column past = refl
beyond (b ∷ blocks) row column past =
    not-or (has_cell row column b) (list_any (has_cell row column) blocks)
    (and-off (nat_le b.row row) (nat_lt row (b.row + b.rows)) (is_among b.column b.columns column)
    (lt-false row (b.row + b.rows) (omega (arith, past))))
    (beyond blocks row column (omega (arith, past)))

used-run : (rows : ℕ) (blocks : List Block) (n : ℕ) (place : ℕ × ℕ) → after_used rows blocks n ≡ Some place
    → FreeRun rows blocks place.1 place.0 n
used-run rows blocks n place found =
    let both = if-some (nat_le (rows_used blocks + n) rows) (rows_used blocks, 0) place found in
    let P : ℕ × ℕ → Type 0 = λ p. FreeRun rows blocks p.1 p.0 n in
    subst P both.1
    (record {
      inside = omega arith;
      within = true-le (rows_used blocks + n) rows both.0;
      free = λ k less. beyond blocks (rows_used blocks + k) 0 (omega arith);
    })

pair-by : {P : Type 0} (left right : Option ℕ) (place : ℕ × ℕ)
    → option_or (option_map (λ row. (row, 0)) left) (option_map (λ row. (row, 2)) right) ≡ Some place
    → ((row : ℕ) → left ≡ Some row → (row, 0) ≡ place → P) → ((row : ℕ) → right ≡ Some row → (row, 2) ≡ place → P) → P
pair-by (Some row) right place e first second = first row refl (same_Some _ _ e)
pair-by None (Some row) place e first second = second row refl (same_Some _ _ e)
pair-by None None place e first second = absurd cc

pair-run : (rows : ℕ) (blocks : List Block) (n : ℕ) (place : ℕ × ℕ) → in_pair rows blocks n ≡ Some place
    → FreeRun rows blocks place.1 place.0 n
pair-run rows blocks n place found =
    let P : ℕ × ℕ → Type 0 = λ p. FreeRun rows blocks p.1 p.0 n in
    pair-by (lowest rows blocks 0 2 n) (highest rows blocks 2 2 n) place found
    (λ row is same. subst P same (lowest-run rows blocks 0 2 n row (omega arith) (omega arith) is))
    (λ row is same. subst P same (highest-run rows blocks 2 2 n row (omega arith) (omega arith) is))

find-four : (a b c d : Bool) (k : ℕ) → cond a (Some 0) (cond b (Some 1) (cond c (Some 2) (cond d (Some 3) None))) ≡ Some k → k < 4
find-four true b c d k e = let is : 0 ≡ k = cc in omega (arith, is)
find-four false true c d k e = let is : 1 ≡ k = cc in omega (arith, is)
find-four false false true d k e = let is : 2 ≡ k = cc in omega (arith, is)
find-four false false false true k e = let is : 3 ≡ k = cc in omega (arith, is)
find-four false false false false k e = absurd cc

column-by : {P : Type 0} (column : ℕ) (o : Option ℕ) (place : ℕ × ℕ) → option_map (λ row. (row, column)) o ≡ Some place
    → ((row : ℕ) → o ≡ Some row → (row, column) ≡ place → P) → P
column-by column (Some row) place e next = next row refl (same_Some _ _ e)
column-by column None place e next = absurd cc

column-run : (rows : ℕ) (blocks : List Block) (n : ℕ) (place : ℕ × ℕ) → in_column rows blocks n ≡ Some place
    → FreeRun rows blocks place.1 place.0 n
column-run rows blocks n place found =
    let P : ℕ × ℕ → Type 0 = λ p. FreeRun rows blocks p.1 p.0 n in
    let test : ℕ → Bool = is_fullest rows blocks n in
    option_and_then_some {P = FreeRun rows blocks place.1 place.0 n}
    (λ column. option_map (λ row. (row, column)) (lowest rows blocks column 1 n))
    (find test (0 ∷ 1 ∷ 2 ∷ 3 ∷ [])) place found
    (λ column is there. column-by column (lowest rows blocks column 1 n) place there
    (λ row low same. subst P same
    (lowest-run rows blocks column 1 n row (omega arith) (find-four (test 0) (test 1) (test 2) (test 3) column is) low)))

branch-by : {P : Type 0} (a b : Bool) (x y z : Option (ℕ × ℕ)) (place : ℕ × ℕ) → (if a then x else (if b then y else z)) ≡ Some place
    → (x ≡ Some place → P) → (y ≡ Some place → P) → (z ≡ Some place → P) → P
branch-by true b x y z place e first second third = first e
branch-by false true x y z place e first second third = second e
branch-by false false x y z place e first second third = third e

-- the place of an item has a free run of its rows
place-run : (rows : ℕ) (blocks : List Block) (item : PackItem) (place : ℕ × ℕ) → place_of rows blocks item ≡ Some place
    → FreeRun rows blocks place.1 place.0 (item_rows item)
unfolding place_of
place-run rows blocks item place found =
    branch-by (nat_le item.class 5) (item.class == 6) (after_used rows blocks (item_rows item)) (in_pair rows blocks (item_rows item))
    (in_column rows blocks (item_rows item)) place found
    (used-run rows blocks (item_rows item) place) (pair-run rows blocks (item_rows item) place)
    (column-run rows blocks (item_rows item) place)

-- the sizes of items
abbrev pub sizes : List PackItem → ℕ
sizes [] = 0
sizes (item ∷ items) = item.size + sizes items

listed_sizes : List Listed → ℕ
listed_sizes [] = 0
listed_sizes (a ∷ rest) = a.1.size + listed_sizes rest

size-rows : (item : PackItem) → item.size ≤ item_rows item
size-rows item =
    let some : 0 < rows_of item.class = rows-by (item.class == 1) (item.class == 2) (item.class == 4) in
    let more : 1 * item.size ≤ rows_of item.class * item.size = mul-le-mul_right item.size some in
    omega (arith, more)

-- items that are placed beside blocks fit into the cells that are left
placed-fit : (rows : ℕ) (blocks all : List Block) (todo : List Listed) → blocks_of rows blocks todo ≡ Some all
    → taken_cells rows blocks + listed_sizes todo ≤ 4 * rows
unfolding listed_sizes
placed-fit rows blocks all [] e = omega (arith, cells-bound rows blocks)
placed-fit rows blocks all (a ∷ rest) e =
    option_and_then_some {P = taken_cells rows blocks + (a.1.size + listed_sizes rest) ≤ 4 * rows}
    (λ place. blocks_of rows (block_at a place ∷ blocks) rest) (place_of rows blocks a.1) all e
    (λ place found next. omega (
      arith,
      placed-fit rows (block_at a place ∷ blocks) all rest next,
      grown rows a blocks place.0 place.1 (place-run rows blocks a.1 place found),
      size-rows a.1,
    ))

put-by : (b : Bool) (x : Listed) (xs ys : List Listed) (n : ℕ) → listed_sizes xs ≡ n → listed_sizes ys ≡ n
    → listed_sizes (if b then xs else ys) ≡ n
put-by true x xs ys n first second = first
put-by false x xs ys n first second = second

put-sizes : (a : Listed) (xs : List Listed) → listed_sizes (put_in_order a xs) ≡ a.1.size + listed_sizes xs
unfolding listed_sizes
put-sizes a [] = refl
put-sizes a (b ∷ xs) =
    put-by (is_before b a) b (b ∷ put_in_order a xs) (a ∷ b ∷ xs) (a.1.size + (b.1.size + listed_sizes xs))
    (omega (arith, put-sizes a xs)) refl

in_order-sizes : (xs : List Listed) → listed_sizes (in_order xs) ≡ listed_sizes xs
unfolding listed_sizes
in_order-sizes [] = refl
in_order-sizes (a ∷ xs) = put-sizes a (in_order xs) ∙ ap (λ n. a.1.size + n) (in_order-sizes xs)

enumerated-sizes : (items : List PackItem) (i : ℕ) → listed_sizes (enumerate_from i items) ≡ sizes items
unfolding listed_sizes
enumerated-sizes [] i = refl
enumerated-sizes (item ∷ items) i = ap (λ n. item.size + n) (enumerated-sizes items (i + 1))

none-by : {A B : Type 0} (f : A → B) (o : Option A) → ((x : A) → o ≡ Some x → ⊥) → option_map f o ≡ None
none-by f None never = refl
none-by f (Some x) never = absurd (never x refl)

-- more elements than cells have no room
pub no-room : (rows : ℕ) (items : List PackItem) → 4 * rows < sizes items → placing rows items ≡ None
unfolding placing
no-room rows items many =
    none-by _ (blocks_of rows [] (in_order (enumerate_from 0 items)))
    (λ all found. omega (
      arith,
      many,
      placed-fit rows [] all (in_order (enumerate_from 0 items)) found,
      in_order-sizes (enumerate_from 0 items),
      enumerated-sizes items 0,
    ))
