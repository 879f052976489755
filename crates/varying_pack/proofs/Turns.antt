-- The order of turns is that of placing, and no two turns tie.
use Rattle.std.proofs.Common.{◌≡◌, ◌+◌, ◌<◌, ◌≤◌, ℕ, suc, Bool, true, false, List, [], ◌∷◌, ◌++◌, length, get_or, take, map, refl, sym, ap, ◌∙◌, arith, add-one}
use Rattle.std.specs.Prelude.{◌==◌, nat_lt, ◌&&◌, ◌||◌, if◌then◌else◌, sum_by}
use Rattle.std.specs.List.{enumerate_from}
use Rattle.std.specs.List.Sorted.{IsPermutation, IsSorted}
use Rattle.std.specs.Ordering.{is_lt, nat_cmp, ordering_then}
use Rattle.std.specs.declared.cmp.Ordering.{Ordering}
use Rattle.std.proofs.Math.Seq.{take-suc}
use Rattle.std.proofs.lemmas.Bool.Decides.{nat_tests}
use Rattle.std.proofs.lemmas.List.{map-append, take_all}
use Rattle.std.proofs.lemmas.List.FromFn.{get_or-enumerate_from, length-enumerate_from}
use Rattle.std.proofs.lemmas.List.Sorted.{IsPermutation-map, sum_by-IsPermutation}
use Rattle.std.proofs.lemmas.List.Sums.{sum_by-cons}
use Rattle.varying_pack.specs.declared.items.PackItem.{PackItem}
use Rattle.varying_pack.specs.declared.order.Turn.{Turn}
use Rattle.varying_pack.specs.Placing.{Listed, is_before, put_in_order, in_order}
use Rattle.varying_pack.specs.Sheets.{listed}
use Rattle.varying_pack.proofs.Sorting.{IsStrict, NoneBefore, Rises, none_by, rises_from_sorted, rises_map, same_list}

-- the order of turns, as it is derived
abbrev pub turn_order : Turn → Turn → Ordering
turn_order a b = ordering_then (nat_cmp a.class b.class) (ordering_then (nat_cmp b.size.0 a.size.0) (nat_cmp a.item b.item))

-- what is before, on numbers
abbrev is_less : ℕ → ℕ → ℕ → ℕ → ℕ → ℕ → Bool
is_less c s i d t j = nat_lt c d || (c == d && (nat_lt t s || (s == t && nat_lt i j)))

less-one_way : (c s i d t j : ℕ) → is_less c s i d t j ≡ true → is_less d t j c s i ≡ false
less-one_way c s i d t j h = grind (arith, nat_tests)

less-chain : (c s i d t j e u k : ℕ) → is_less c s i d t j ≡ false → is_less d t j e u k ≡ false → is_less c s i e u k ≡ false
less-chain c s i d t j e u k a b = grind (arith, nat_tests)

pub less-class : (c s i d t j : ℕ) → is_less c s i d t j ≡ false → is_less d t j c s i ≡ false → c ≡ d
less-class c s i d t j a b = grind (arith, nat_tests)

less-size : (c s i d t j : ℕ) → is_less c s i d t j ≡ false → is_less d t j c s i ≡ false → s ≡ t
less-size c s i d t j a b = grind (arith, nat_tests)

less-item : (c s i d t j : ℕ) → is_less c s i d t j ≡ false → is_less d t j c s i ≡ false → i ≡ j
less-item c s i d t j a b = grind (arith, nat_tests)

less-order : (c s i d t j : ℕ) → is_lt (ordering_then (nat_cmp c d) (ordering_then (nat_cmp t s) (nat_cmp i j))) ≡ is_less c s i d t j
less-order c s i d t j = grind (arith, nat_tests)

abbrev item_of : ℕ → ℕ → ℕ → Listed
item_of c s i = (i, record { class = c; size = s })

same_item : (c s i d t j : ℕ) → c ≡ d → s ≡ t → i ≡ j → item_of c s i ≡ item_of d t j
same_item c s i d t j p q r = cc

-- no two items tie
strict_before : IsStrict is_before
strict_before = record {
  one_way = λ x y. less-one_way x.1.class x.1.size x.0 y.1.class y.1.size y.0;
  chain = λ x y z. less-chain x.1.class x.1.size x.0 y.1.class y.1.size y.0 z.1.class z.1.size z.0;
  apart = λ x y a b.
      same_item x.1.class x.1.size x.0 y.1.class y.1.size y.0
      (less-class x.1.class x.1.size x.0 y.1.class y.1.size y.0 a b)
      (less-size x.1.class x.1.size x.0 y.1.class y.1.size y.0 a b)
      (less-item x.1.class x.1.size x.0 y.1.class y.1.size y.0 a b);
}

put-none_by : (a b x : Listed) (xs : List Listed) → is_before a b ≡ false → NoneBefore is_before b (x ∷ xs)
    → NoneBefore is_before b (put_in_order a xs) → (s : Bool) → NoneBefore is_before b (if s then x ∷ put_in_order a xs else a ∷ x ∷ xs)
put-none_by a b x xs late none rest true = (none.0, rest)
put-none_by a b x xs late none rest false = (late, none)

put-none : (a b : Listed) (xs : List Listed) → is_before a b ≡ false → NoneBefore is_before b xs
    → NoneBefore is_before b (put_in_order a xs)
put-none a b [] late none = (late, tt)
put-none a b (x ∷ xs) late none = put-none_by a b x xs late none (put-none a b xs late none.1) (is_before x a)

put-rises_by : (a x : Listed) (xs : List Listed) → Rises is_before (x ∷ xs) → Rises is_before (put_in_order a xs)
    → (s : Bool) → is_before x a ≡ s → Rises is_before (if s then x ∷ put_in_order a xs else a ∷ x ∷ xs)
put-rises_by a x xs rises rest true e = (put-none a x xs (strict_before.one_way x a e) rises.0, rest)
put-rises_by a x xs rises rest false e = ((e, none_by is_before strict_before.chain a x e xs rises.0), rises)

put-rises : (a : Listed) (xs : List Listed) → Rises is_before xs → Rises is_before (put_in_order a xs)
put-rises a [] rises = (tt, tt)
put-rises a (x ∷ xs) rises = put-rises_by a x xs rises (put-rises a xs rises.1) (is_before x a) refl

pub in_order-rises : (xs : List Listed) → Rises is_before (in_order xs)
in_order-rises [] = tt
in_order-rises (x ∷ xs) = put-rises x (in_order xs) (in_order-rises xs)

put-sum_by : (f : Listed → ℕ) (a x : Listed) (xs : List Listed) → sum_by f (put_in_order a xs) ≡ f a + sum_by f xs → (s : Bool)
    → sum_by f (if s then x ∷ put_in_order a xs else a ∷ x ∷ xs) ≡ f a + sum_by f (x ∷ xs)
put-sum_by f a x xs rest true = omega (arith, rest, sum_by-cons f x (put_in_order a xs), sum_by-cons f x xs)
put-sum_by f a x xs rest false = sum_by-cons f a (x ∷ xs)

put-sum : (f : Listed → ℕ) (a : Listed) (xs : List Listed) → sum_by f (put_in_order a xs) ≡ f a + sum_by f xs
put-sum f a [] = sum_by-cons f a []
put-sum f a (x ∷ xs) = put-sum_by f a x xs (put-sum f a xs) (is_before x a)

in_order-sum : (f : Listed → ℕ) (xs : List Listed) → sum_by f (in_order xs) ≡ sum_by f xs
in_order-sum f [] = refl
in_order-sum f (x ∷ xs) = omega (arith, put-sum f x (in_order xs), in_order-sum f xs, sum_by-cons f x xs)

-- sorted turns are the items in the order of placing
pub ordered : (items : List PackItem) (n : ℕ) (turns sorted : List Turn) → map listed turns ≡ take n (enumerate_from 0 items)
    → length items ≤ n
    → IsPermutation turns sorted → IsSorted turn_order sorted → map listed sorted ≡ in_order (enumerate_from 0 items)
ordered items n turns sorted are all moved up =
    let whole : take n (enumerate_from 0 items) ≡ enumerate_from 0 items =
    take_all n (enumerate_from 0 items) (omega (arith, length-enumerate_from 0 items)) in
    let test : Turn → Turn → Bool = λ x y. is_lt (turn_order x y) in
    let same = λ (x y : Turn). less-order x.class x.size.0 x.item y.class y.size.0 y.item in
    let rises : Rises test sorted = rises_from_sorted test
    (λ x y z p q. same x z ∙ strict_before.chain (listed x) (listed y) (listed z) (sym (same x y) ∙ p) (sym (same y z) ∙ q)) sorted up in
    same_list is_before strict_before (map listed sorted) (in_order (enumerate_from 0 items))
    (rises_map test is_before listed same sorted rises) (in_order-rises (enumerate_from 0 items))
    (λ (f : Listed → ℕ). sum_by-IsPermutation f (map listed turns) (map listed sorted) (IsPermutation-map listed turns sorted moved)
    ∙ ap (sum_by f) (are ∙ whole) ∙ sym (in_order-sum f (enumerate_from 0 items)))

-- one more item is listed
pub listed-more : (items : List PackItem) (turns : List Turn) (i : ℕ) (t : Turn) (d : PackItem)
    → map listed turns ≡ take i (enumerate_from 0 items)
    → i < length items → listed t ≡ (i, get_or items i d) → map listed (turns ++ t ∷ []) ≡ take (i + 1) (enumerate_from 0 items)
listed-more items turns i t d are within same =
    let next : get_or (enumerate_from 0 items) i (0, d) ≡ (0 + i, get_or items i d) = get_or-enumerate_from 0 items i (0, d) within in
    let at : 0 + i ≡ i = omega arith in
    let is : get_or (enumerate_from 0 items) i (0, d) ≡ listed t =
    next ∙ ap (λ (k : ℕ). let p : Listed = (k, get_or items i d) in p) at ∙ sym same in
    let more : take (suc i) (enumerate_from 0 items) ≡ take i (enumerate_from 0 items) ++ get_or (enumerate_from 0 items) i (0, d) ∷ [] =
    take-suc (enumerate_from 0 items) i (0, d) (omega (arith, within, length-enumerate_from 0 items)) in
    map-append listed turns (t ∷ []) ∙ rw (add-one, more, is, ← are) refl
