-- The first item of a list, and the others.
use Rattle.std.proofs.Common.{◌≡◌, ◌<◌, ◌≤◌, ℕ, zero, suc, List, [], ◌∷◌, length, drop, get_or, refl, sym, ap, ◌∙◌, arith}
use Rattle.std.proofs.lemmas.Bool.{eqb-true, eqb-false}
use Rattle.std.proofs.Common.{eqb, Bool, true, false}

pub first_and_rest : {X : Type 0} (xs : List X) (x : X) → 0 < length xs → x ≡ get_or xs 0 x → xs ≡ x ∷ drop 1 xs
first_and_rest [] x h e = absurd (omega arith)
first_and_rest (y ∷ xs) x h e = λ i. sym e i ∷ xs

pub no_items : {X : Type 0} (xs : List X) → length xs ≡ 0 → xs ≡ []
no_items [] h = refl
no_items (y ∷ xs) h = absurd (omega arith)

-- a function of a list that is not empty, at its first item and the others
pub at_first : {X Y : Type 0} (F : List X → Y) (xs : List X) (x : X) → 0 < length xs → x ≡ get_or xs 0 x → F xs ≡ F (x ∷ drop 1 xs)
at_first F xs x h e = ap F (first_and_rest xs x h e)

pub at_none : {X Y : Type 0} (F : List X → Y) (xs : List X) → length xs ≡ 0 → F xs ≡ F []
at_none F xs h = ap F (no_items xs h)

-- what `is_empty` tells
pub some_items : {X : Type 0} (xs : List X) (b : Bool) → b ≡ eqb (length xs) 0 → b ≡ false → 0 < length xs
some_items xs b e h = let ne = eqb-false (length xs) 0 (sym e ∙ h) in omega arith

pub none_left : {X : Type 0} (xs : List X) (b : Bool) → b ≡ eqb (length xs) 0 → b ≡ true → length xs ≡ 0
none_left xs b e h = eqb-true (length xs) 0 (sym e ∙ h)

pub one_item : {X : Type 0} (xs : List X) (x : X) → 1 ≤ length xs → length xs < 2 → x ≡ get_or xs 0 x → xs ≡ x ∷ []
one_item [] x h k e = absurd (omega arith)
one_item (a ∷ []) x h k e = λ i. sym e i ∷ []
one_item (a ∷ b ∷ xs) x h k e = absurd (omega arith)

-- the same of what is left behind some items
from_here : {X Y : Type 0} (F : List X → Y) (xs : List X) (k : ℕ) (x : X) → k < length xs → x ≡ get_or xs k x → F (drop k xs) ≡ F (x ∷ drop (suc k) xs)
from_here F [] k x h e = absurd (omega arith)
from_here F (y ∷ xs) zero x h e = ap (λ z. F (z ∷ xs)) (sym e)
from_here F (y ∷ xs) (suc k) x h e = from_here F xs k x (omega arith) e

pub first_dropped : {X Y : Type 0} (F : List X → Y) (xs : List X) (k j : ℕ) (x : X) → j ≡ suc k → k < length xs → x ≡ get_or xs k x → F (drop k xs) ≡ F (x ∷ drop j xs)
first_dropped F xs k j x n h e = from_here F xs k x h e ∙ ap (λ i. F (x ∷ drop i xs)) (sym n)

pub dropped_none : {X Y : Type 0} (F : List X → Y) (xs : List X) (k : ℕ) → length xs ≤ k → F (drop k xs) ≡ F []
dropped_none F [] zero h = refl
dropped_none F [] (suc k) h = refl
dropped_none F (y ∷ xs) zero h = absurd (omega arith)
dropped_none F (y ∷ xs) (suc k) h = dropped_none F xs k (omega arith)
