-- What the loop over the items keeps.
use Rattle.std.proofs.Common.{◌≡◌, ◌+◌, ◌-◌, ◌<◌, ◌≤◌, ℕ, Bool, true, false, List, [], ◌∷◌, length, map, get_or, set, drop, replicate, refl, sym, ap, subst, ◌∙◌, ◌≢◌, arith, add-one, zero-add, get_or-set_same, get_or-set_other}
use Rattle.std.specs.Prelude.{All, ◌==◌, nat_lt, nat_le, ◌&&◌, ◌||◌, if◌then◌else◌, Option, Some, None}
use Rattle.std.specs.List.{enumerate_from, find}
use Rattle.std.specs.Option.{option_map, option_and_then}
use Rattle.std.proofs.Math.Seq.{drop-cons}
use Rattle.std.proofs.lemmas.Bool.Decides.{nat_tests}
use Rattle.std.proofs.lemmas.Bool.{eqb-true, eqb-false}
use Rattle.std.proofs.lemmas.List.{drop_all, ext_get_or, get_or-map, get_or-replicate, length-map, length-replicate, length-set}
use Rattle.std.proofs.lemmas.List.FromFn.{get_or-enumerate_from, length-enumerate_from}
use Rattle.varying_pack.specs.declared.items.PackItem.{PackItem}
use Rattle.varying_pack.specs.declared.order.Turn.{Turn}
use Rattle.varying_pack.specs.declared.sheet.Sheet.{Sheet}
use Rattle.varying_pack.specs.declared.sheet.Span.{Span}
use Rattle.varying_pack.specs.Placing.{Block, Listed, block_at, blocks_of, columns_of, in_order, is_before, item_rows, place_in, place_of, placing}
use Rattle.varying_pack.specs.Sheets.{after, after_pair, after_single, after_wide, from_row, fullest_in, has_room, is_fullest_in, listed, lowest_in, new_sheet, pair_spot, single_spot, span_at, spot, up_to_row, wide_spot}
use Rattle.varying_pack.proofs.Runs.{AreFree, room-fits}
use Rattle.varying_pack.proofs.Grids.{Keeps}
use Rattle.varying_pack.proofs.Sorting.{Rises}
use Rattle.varying_pack.proofs.Turns.{in_order-rises}
use Rattle.varying_pack.proofs.Steps.{Ready, class-is, class-narrow, class-not, class-wide, four-keep, if-some, left-keep, one-keep, ready-later, right-keep, spot-is, start-same, three-keep}

-- a sheet that keeps what blocks leave free, for an item of a class
abbrev pub Serves : ℕ → ℕ → Sheet → List Block → Type 0
Serves class rows s blocks = Keeps rows s blocks × Ready class rows s blocks

columns-four : (class : ℕ) → class ≤ 3 → columns_of class ≡ 4
columns-four class small = grind (arith, nat_tests)

columns-three : (class : ℕ) → 3 < class → class ≤ 5 → columns_of class ≡ 3
columns-three class more small = grind (arith, nat_tests)

columns-two : (class : ℕ) → class ≡ 6 → columns_of class ≡ 2
columns-two class same = grind (arith, nat_tests)

columns-one : (class : ℕ) → 6 < class → columns_of class ≡ 1
columns-one class more = grind (arith, nat_tests)

and-both : (a b : Bool) → (a && b) ≡ true → (a ≡ true) × (b ≡ true)
and-both true b e = (refl, e)
and-both false b e = absurd cc

-- columns of a sheet
abbrev AreColumns : List ℕ → Type 0
AreColumns [] = Unit {0}
AreColumns (column ∷ columns) = (column < 4) × AreColumns columns

module _ (test : ℕ → Bool) where
  found-by : (column found : ℕ) (columns : List ℕ) → column < 4 → (find test columns ≡ Some found → (found < 4) × (test found ≡ true))
      → (b : Bool) → test column ≡ b → (if b then Some column else find test columns) ≡ Some found → (found < 4) × (test found ≡ true)
  found-by column found columns less rest true t e =
      let same : column ≡ found = cc in (omega (arith, less, same), ap test (sym same) ∙ t)
  found-by column found columns less rest false t e = rest e

  -- a column that is found is one, and passes
  found-is : (found : ℕ) (columns : List ℕ) → AreColumns columns → find test columns ≡ Some found → (found < 4) × (test found ≡ true)
  found-is found [] are e = absurd cc
  found-is found (column ∷ columns) are e =
      found-by column found columns are.0 (found-is found columns are.1) (test column) refl e

module _ (rows : ℕ) (s : Sheet) (blocks : List Block) (a : Listed) (keeps : Keeps rows s blocks)
    (ready : Ready a.1.class rows s blocks) where
  abbrev n : ℕ
  n = item_rows a.1

  abbrev taken : ℕ → ℕ → ℕ → List Block
  taken row column columns = record { item = a.0; row = row; column = column; rows = n; columns = columns } ∷ blocks

  four-ready : a.1.class ≤ 3 → Ready a.1.class rows (after_wide s 4 n) (taken s.first.start 0 4)
  four-ready small =
      let used = ready.used (omega arith) in
      let level = ready.level (omega arith) in
      let whole = ready.whole small in
      let pairs = ready.pairs (omega arith) in
      let next = s.first.start + n in
      record {
        used = λ _. omega (arith, used);
        level = λ _. (ap (from_row next) level.0, level.1);
        whole = λ _. ap (from_row next) whole;
        pairs = λ _. (ap (from_row next) pairs.0, omega arith, pairs.2);
      }

  three-ready : 3 < a.1.class → a.1.class ≤ 5 → Ready a.1.class rows (after_wide s 3 n) (taken s.first.start 0 3)
  three-ready more small =
      let used = ready.used small in
      let level = ready.level small in
      let pairs = ready.pairs (omega arith) in
      let same = start-same s.third s.first level.0 in
      let next = s.first.start + n in
      record {
        used = λ _. omega (arith, used);
        level = λ _. (ap (from_row next) level.0, level.1);
        whole = λ less. absurd (omega (arith, less, more));
        pairs = λ _. (ap (from_row next) pairs.0, omega (arith, pairs.1, same), pairs.2);
      }

  wide-by : a.1.class ≤ 5 → s.first.start + n ≤ s.first.end → (four : Bool) → nat_le a.1.class 3 ≡ four
      → Serves a.1.class rows (after_wide s (columns_of a.1.class) n) (taken s.first.start 0 (columns_of a.1.class))
  wide-by small fits true e =
      let least = class-wide a.1.class 3 e in
      let P : ℕ → Type 0 = λ w. Serves a.1.class rows (after_wide s w n) (taken s.first.start 0 w) in
      subst P (sym (columns-four a.1.class least))
      (four-keep rows s blocks keeps a.0 n (ready.pairs (omega arith)).0 (ready.level small).0 (ready.whole least) fits, four-ready least)
  wide-by small fits false e =
      let more = class-narrow a.1.class 3 e in
      let P : ℕ → Type 0 = λ w. Serves a.1.class rows (after_wide s w n) (taken s.first.start 0 w) in
      subst P (sym (columns-three a.1.class more small))
      (three-keep rows s blocks keeps a.0 n (ready.pairs (omega arith)).0 (ready.level small).0 fits, three-ready more small)

  wide-step : (place : ℕ × ℕ) → a.1.class ≤ 5 → wide_spot s n ≡ Some place
      → Serves a.1.class rows (after_wide s (columns_of a.1.class) n) (block_at a place ∷ blocks)
  wide-step place small e =
      let found = if-some (has_room s.first n) (s.first.start, 0) place e in
      let P : (ℕ × ℕ) → Type 0 = λ p. Serves a.1.class rows (after_wide s (columns_of a.1.class) n) (block_at a p ∷ blocks) in
      subst P found.1 (wide-by small (room-fits s.first.start s.first.end n found.0) (nat_le a.1.class 3) refl)

  pair-ready : (t : Sheet) (more : List Block) → a.1.class ≡ 6 → t.second ≡ t.first → t.fourth.start ≤ t.third.start
      → t.fourth.end ≡ t.third.end
      → Ready a.1.class rows t more
  pair-ready t more same even low ends = record {
    used = λ small. absurd (omega (arith, same, small));
    level = λ small. absurd (omega (arith, same, small));
    whole = λ small. absurd (omega (arith, same, small));
    pairs = λ _. (even, low, ends);
  }

  abbrev after_left : Sheet
  after_left = record s { first = from_row (s.first.start + n) s.first; second = from_row (s.first.start + n) s.second }

  abbrev after_right : Sheet
  after_right = record s { third = up_to_row (s.third.end - n) s.third; fourth = up_to_row (s.third.end - n) s.fourth }

  pair-at : (t : Sheet) (row column : ℕ) (place : ℕ × ℕ) → a.1.class ≡ 6 → (let p : ℕ × ℕ = (row, column) in p) ≡ place
      → Serves a.1.class rows t (taken row column 2) → Serves a.1.class rows t (block_at a place ∷ blocks)
  pair-at t row column place same at serves =
      let P : ℕ → Type 0 = λ w. Serves a.1.class rows t (taken row column w) in
      let Q : (ℕ × ℕ) → Type 0 = λ p. Serves a.1.class rows t (block_at a p ∷ blocks) in
      subst Q at (subst P (sym (columns-two a.1.class same)) serves)

  pair-by : (place : ℕ × ℕ) → a.1.class ≡ 6 → (left right : Bool) → has_room s.first n ≡ left → has_room s.third n ≡ right
      → (if left then Some (lowest_in s.first n, 0) else (if right then Some (s.third.end - n, 2) else None)) ≡ Some place
      → Serves a.1.class rows (if left then after_left else after_right) (block_at a place ∷ blocks)
  pair-by place same true right l r e =
      let pairs = ready.pairs (omega (arith, same)) in
      let at : (let p : ℕ × ℕ = (lowest_in s.first n, 0) in p) ≡ place = cc in
      pair-at after_left (lowest_in s.first n) 0 place same at (
        left-keep rows s blocks keeps a.0 n pairs.0 (room-fits s.first.start s.first.end n l),
        pair-ready after_left (taken (lowest_in s.first n) 0 2) same (ap (from_row (s.first.start + n)) pairs.0) pairs.1 pairs.2,
      )
  pair-by place same false true l r e =
      let pairs = ready.pairs (omega (arith, same)) in
      let at : (let p : ℕ × ℕ = (s.third.end - n, 2) in p) ≡ place = cc in
      pair-at after_right (s.third.end - n) 2 place same at (
        right-keep rows s blocks keeps a.0 n pairs.1 pairs.2 (room-fits s.third.start s.third.end n r),
        pair-ready after_right (taken (s.third.end - n) 2 2) same pairs.0 pairs.1 refl,
      )
  pair-by place same false false l r e = absurd cc

  pair-step : (place : ℕ × ℕ) → a.1.class ≡ 6 → pair_spot s n ≡ Some place
      → Serves a.1.class rows (after_pair s n) (block_at a place ∷ blocks)
  pair-step place same e = pair-by place same (has_room s.first n) (has_room s.third n) refl refl e

  one-ready : (t : Sheet) (more : List Block) → 6 < a.1.class → Ready a.1.class rows t more
  one-ready t more last = record {
    used = λ small. absurd (omega (arith, last, small));
    level = λ small. absurd (omega (arith, last, small));
    whole = λ small. absurd (omega (arith, last, small));
    pairs = λ small. absurd (omega (arith, last, small));
  }

  one-at : (column : ℕ) → 6 < a.1.class → column < 4 → has_room (span_at s column) n ≡ true
      → Serves a.1.class rows (after_single s column n) (block_at a (lowest_in (span_at s column) n, column) ∷ blocks)
  one-at column last less room =
      let P : ℕ → Type 0 = λ w. Serves a.1.class rows (after_single s column n) (taken (lowest_in (span_at s column) n) column w) in
      subst P (sym (columns-one a.1.class last)) (
        one-keep rows s blocks keeps a.0 n column less (room-fits (span_at s column).start (span_at s column).end n room),
        one-ready (after_single s column n) (taken (lowest_in (span_at s column) n) column 1) last,
      )

  one-by : (place : ℕ × ℕ) → 6 < a.1.class → (o : Option ℕ) → fullest_in s n ≡ o
      → option_map {U = ℕ × ℕ} (λ column. (lowest_in (span_at s column) n, column)) o ≡ Some place
      → Serves a.1.class rows (after_single s place.1 n) (block_at a place ∷ blocks)
  one-by place last None f e = absurd cc
  one-by place last (Some column) f e =
      let is = found-is (is_fullest_in s n) column (0 ∷ 1 ∷ 2 ∷ 3 ∷ []) (omega arith, (omega arith, (omega arith, (omega arith, tt)))) f in
      let same : (let p : ℕ × ℕ = (lowest_in (span_at s column) n, column) in p) ≡ place = cc in
      let P : (ℕ × ℕ) → Type 0 = λ p. Serves a.1.class rows (after_single s p.1 n) (block_at a p ∷ blocks) in
      subst P same (one-at column last is.0 (and-both _ _ is.1).0)

  step-by : (place : ℕ × ℕ) (wide six : Bool) → nat_le a.1.class 5 ≡ wide → (a.1.class == 6) ≡ six
      → (if wide then wide_spot s n else (if six then pair_spot s n else single_spot s n)) ≡ Some place
      → Serves a.1.class rows
      (if wide then after_wide s (columns_of a.1.class) n else (if six then after_pair s n else after_single s place.1 n))
      (block_at a place ∷ blocks)
  step-by place true six w x e = wide-step place (class-wide a.1.class 5 w) e
  step-by place false true w x e = pair-step place (class-is a.1.class 6 x) e
  step-by place false false w x e = one-by place (class-not a.1.class w x) (fullest_in s n) refl e

  -- the sheet keeps what is free once the item is there
  pub step : (place : ℕ × ℕ) → spot s a.1 ≡ Some place → Serves a.1.class rows (after s a.1 place) (block_at a place ∷ blocks)
  step place e = step-by place (nat_le a.1.class 5) (a.1.class == 6) refl refl e

-- no class is below those in front of it
abbrev pub Climbs : ℕ → List Listed → Type 0
Climbs class [] = Unit {0}
Climbs class (a ∷ rest) = (class ≤ a.1.class) × Climbs a.1.class rest

not_below : (c s i d t j : ℕ) → (nat_lt c d || (c == d && (nat_lt t s || (s == t && nat_lt i j)))) ≡ false → d ≤ c
not_below c s i d t j e = grind (arith, nat_tests)

rises-climb : (a : Listed) (rest : List Listed) → Rises is_before (a ∷ rest) → Climbs a.1.class rest
rises-climb a [] rises = tt
rises-climb a (b ∷ rest) rises =
    (not_below b.1.class b.1.size b.0 a.1.class a.1.size a.0 rises.0.0, rises-climb b rest rises.1)

climbs-from_rises : (xs : List Listed) → Rises is_before xs → Climbs 0 xs
climbs-from_rises [] rises = tt
climbs-from_rises (a ∷ rest) rises = (omega arith, rises-climb a rest rises)

-- the items that are placed, and what is left to place
pub record SoFar (rows : ℕ) (items : List PackItem) (todo : List Listed) (s : Sheet) (places : List (ℕ × ℕ)) : Type 0 where
  pub blocks : List Block
  pub class : ℕ
  pub keeps : Keeps rows s blocks
  pub ready : Ready class rows s blocks
  pub climbs : Climbs class todo
  pub rest : blocks_of rows blocks todo ≡ blocks_of rows [] (in_order (enumerate_from 0 items))
  pub long : length places ≡ length items
  pub placed : (k : ℕ) → k < length places → get_or places k (0, 0) ≡ place_in blocks k

is_one : (row rows : ℕ) → row < rows → true ≡ (nat_le 0 row && nat_lt row rows)
is_one row rows less = grind (arith, nat_tests)

all-free : (rows column : ℕ) → AreFree rows (λ row. true) (let all : Span = record { start = 0; end = rows } in all)
all-free rows column = record { ordered = omega arith; within = omega arith; same = λ row less. is_one row rows less }

-- nothing is placed
pub so_far-start : (rows : ℕ) (items : List PackItem) (places : List (ℕ × ℕ)) → places ≡ replicate (length items) (0, 0)
    → SoFar rows items (in_order (enumerate_from 0 items)) (new_sheet rows) places
so_far-start rows items places are = record {
  blocks = [];
  class = 0;
  keeps = record { first = all-free rows 0; second = all-free rows 1; third = all-free rows 2; fourth = all-free rows 3 };
  ready = record { used = λ _. refl; level = λ _. (refl, refl); whole = λ _. refl; pairs = λ _. (refl, omega arith, refl) };
  climbs = climbs-from_rises (in_order (enumerate_from 0 items)) (in_order-rises (enumerate_from 0 items));
  rest = refl;
  long = ap length are ∙ length-replicate (length items) (0, 0);
  placed = λ k less.
      ap (λ (xs : List (ℕ × ℕ)). get_or xs k (0, 0)) are
      ∙ get_or-replicate (length items) k (0, 0) (0, 0) (omega (arith, less, ap length are ∙ length-replicate (length items) (0, 0)));
}

put-at : (places : List (ℕ × ℕ)) (blocks : List Block) (i k : ℕ) (place : ℕ × ℕ) → i < length places → k < length places
    → get_or places k (0, 0) ≡ place_in blocks k → (b : Bool) → (i == k) ≡ b
    → get_or (set places i place) k (0, 0) ≡ (if b then place else place_in blocks k)
put-at places blocks i k place within less before true e =
    let same : i ≡ k = eqb-true i k e in
    ap (λ (j : ℕ). get_or (set places i place) j (0, 0)) (sym same) ∙ get_or-set_same places i place (0, 0) within
put-at places blocks i k place within less before false e =
    let other : k ≢ i = λ same. eqb-false i k e (sym same) in get_or-set_other places i k place (0, 0) other ∙ before

-- one more item is placed
pub so_far-step : (rows : ℕ) (items : List PackItem) (a : Listed) (todo : List Listed) (s : Sheet) (places : List (ℕ × ℕ)) (place : ℕ × ℕ)
    → SoFar rows items (a ∷ todo) s places → a.0 < length items → spot s a.1 ≡ Some place
    → SoFar rows items todo (after s a.1 place) (set places a.0 place)
so_far-step rows items a todo s places place so_far within found =
    let ready : Ready a.1.class rows s so_far.blocks =
    ready-later so_far.class a.1.class rows s so_far.blocks so_far.climbs.0 so_far.ready in
    let next = step rows s so_far.blocks a so_far.keeps ready place found in
    let is : place_of rows so_far.blocks a.1 ≡ Some place = spot-is rows s so_far.blocks a.1 so_far.keeps ready ∙ found in
    record {
      blocks = block_at a place ∷ so_far.blocks;
      class = a.1.class;
      keeps = next.0;
      ready = next.1;
      climbs = so_far.climbs.1;
      rest = sym (ap (option_and_then (λ p. blocks_of rows (block_at a p ∷ so_far.blocks) todo)) is) ∙ so_far.rest;
      long = length-set places a.0 place ∙ so_far.long;
      placed = λ k less.
          let inside : k < length places = omega (arith, less, length-set places a.0 place) in
          put-at places so_far.blocks a.0 k place (omega (arith, within, so_far.long)) inside (so_far.placed k inside) (a.0 == k) refl;
    }

-- an item has no place
pub so_far-stuck : (rows : ℕ) (items : List PackItem) (a : Listed) (todo : List Listed) (s : Sheet) (places : List (ℕ × ℕ))
    → SoFar rows items (a ∷ todo) s places → spot s a.1 ≡ None → placing rows items ≡ None
unfolding placing
so_far-stuck rows items a todo s places so_far none =
    let ready : Ready a.1.class rows s so_far.blocks =
    ready-later so_far.class a.1.class rows s so_far.blocks so_far.climbs.0 so_far.ready in
    let is : place_of rows so_far.blocks a.1 ≡ None = spot-is rows s so_far.blocks a.1 so_far.keeps ready ∙ none in
    let all : blocks_of rows [] (in_order (enumerate_from 0 items)) ≡ None =
    sym so_far.rest ∙ ap (option_and_then (λ p. blocks_of rows (block_at a p ∷ so_far.blocks) todo)) is in
    ap (option_map (λ blocks. map (λ (b : Listed). place_in blocks b.0) (enumerate_from 0 items))) all

-- all items are placed
pub so_far-done : (rows : ℕ) (items : List PackItem) (s : Sheet) (places : List (ℕ × ℕ)) → SoFar rows items [] s places
    → placing rows items ≡ Some places
unfolding placing
so_far-done rows items s places so_far =
    let all : blocks_of rows [] (in_order (enumerate_from 0 items)) ≡ Some so_far.blocks = sym so_far.rest in
    let at : Listed → ℕ × ℕ = λ b. place_in so_far.blocks b.0 in
    let none : PackItem = record { class = 0; size = 0 } in
    let long : length (map at (enumerate_from 0 items)) ≡ length items =
    length-map (enumerate_from 0 items) at ∙ length-enumerate_from 0 items in
    let same : map at (enumerate_from 0 items) ≡ places =
    ext_get_or (0, 0) (map at (enumerate_from 0 items)) places (long ∙ sym so_far.long) (λ k less.
    let inside : k < length items = omega (arith, less, long) in
    get_or-map at (enumerate_from 0 items) k (0, none) (0, 0) (omega (arith, inside, length-enumerate_from 0 items))
    ∙ ap at (get_or-enumerate_from 0 items k (0, none) inside)
    ∙ ap (place_in so_far.blocks) (zero-add k)
    ∙ sym (so_far.placed k (omega (arith, inside, so_far.long)))) in
    ap (option_map (λ blocks. map (λ (b : Listed). place_in blocks b.0) (enumerate_from 0 items))) all ∙ ap Some same

-- # Over the turns of the loop

same_pair : (m n : ℕ) → m ≡ 0 → n ≡ 0 → (let p : ℕ × ℕ = (m, n) in p) ≡ (0, 0)
same_pair m n a b = cc

-- a pair of zeros
pub zero_pair : (y : ℕ × ℕ) → y.0 ≡ 0 → y.1 ≡ 0 → y ≡ (0, 0)
zero_pair y a b = same_pair y.0 y.1 a b

-- nothing is placed
pub turns-start : (rows : ℕ) (items : List PackItem) (turns given : List Turn) (s : Sheet) (places : List (ℕ × ℕ)) → given ≡ turns
    → map listed turns ≡ in_order (enumerate_from 0 items) → s ≡ new_sheet rows → places ≡ replicate (length items) (0, 0)
    → SoFar rows items (map listed given) s places
turns-start rows items turns given s places same order sheet are =
    let P : List Listed → Type 0 = λ todo. SoFar rows items todo s places in
    let Q : Sheet → Type 0 = λ t. SoFar rows items (in_order (enumerate_from 0 items)) t places in
    subst P (sym (ap (map listed) same ∙ order)) (subst Q (sym sheet) (so_far-start rows items places are))

next_turn : (turns : List Turn) (i : ℕ) (d : Turn) → i < length turns
    → map listed (drop i turns) ≡ listed (get_or turns i d) ∷ map listed (drop (i + 1) turns)
next_turn turns i d within = ap (map listed) (drop-cons turns i d within) ∙ rw add-one refl

-- one more item is placed
pub turns-step : (rows : ℕ) (items : List PackItem) (all turns : List Turn) (i : ℕ) (d : Turn) (s t : Sheet) (places : List (ℕ × ℕ))
    (place : ℕ × ℕ)
    → turns ≡ all → All (λ turn. turn.item < length items) all → i < length turns → SoFar rows items (map listed (drop i turns)) s places
    → Some place ≡ spot s (listed (get_or turns i d)).1 → t ≡ after s (listed (get_or turns i d)).1 place
    → SoFar rows items (map listed (drop (i + 1) turns)) t (set places (get_or turns i d).item place)
turns-step rows items all turns i d s t places place same within inside so_far found next =
    let P : List Listed → Type 0 = λ todo. SoFar rows items todo s places in
    let Q : Sheet → Type 0 = λ u. SoFar rows items (map listed (drop (i + 1) turns)) u (set places (get_or turns i d).item place) in
    let bound : (get_or all i d).item < length items = within i d (omega (arith, inside, ap length same)) in
    let item : (get_or turns i d).item ≡ (get_or all i d).item = ap (λ (ts : List Turn). (get_or ts i d).item) same in
    subst Q (sym next) (so_far-step rows items (listed (get_or turns i d)) (map listed (drop (i + 1) turns)) s places place
    (subst P (next_turn turns i d inside) so_far) (omega (arith, bound, item)) (sym found))

-- an item has no place
pub turns-stuck : (rows : ℕ) (items : List PackItem) (turns : List Turn) (i : ℕ) (d : Turn) (s : Sheet) (places : List (ℕ × ℕ))
    → i < length turns → SoFar rows items (map listed (drop i turns)) s places → spot s (listed (get_or turns i d)).1 ≡ None
    → placing rows items ≡ None
turns-stuck rows items turns i d s places inside so_far none =
    let P : List Listed → Type 0 = λ todo. SoFar rows items todo s places in
    so_far-stuck rows items (listed (get_or turns i d)) (map listed (drop (i + 1) turns)) s places
    (subst P (next_turn turns i d inside) so_far) none

-- all items are placed
pub turns-done : (rows : ℕ) (items : List PackItem) (turns : List Turn) (i : ℕ) (s : Sheet) (places : List (ℕ × ℕ)) → length turns ≤ i
    → SoFar rows items (map listed (drop i turns)) s places → placing rows items ≡ Some places
turns-done rows items turns i s places past so_far =
    let P : List Listed → Type 0 = λ todo. SoFar rows items todo s places in
    so_far-done rows items s places (subst P (ap (map listed) (drop_all i turns past)) so_far)
