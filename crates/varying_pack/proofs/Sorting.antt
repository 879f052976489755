-- Lists in order, of which no two elements tie: two that have the same elements are one list.
use Rattle.std.proofs.Common.{◌≡◌, ℕ, suc, Bool, true, false, List, [], ◌∷◌, map, refl, sym, ap, ◌∙◌, arith, add-one}
use Rattle.std.specs.Prelude.{sum_by}
use Rattle.std.specs.List.Sorted.{IsSortedBy}
use Rattle.std.proofs.lemmas.List.Sums.{sum_by-cons}

-- an order in which no two values tie
pub record IsStrict {X : Type 0} (lt : X → X → Bool) : Type 0 where
  pub one_way : (x y : X) → lt x y ≡ true → lt y x ≡ false
  pub chain : (x y z : X) → lt x y ≡ false → lt y z ≡ false → lt x z ≡ false
  pub apart : (x y : X) → lt x y ≡ false → lt y x ≡ false → x ≡ y

-- none of the elements is before a value
abbrev pub NoneBefore : {X : Type 0} → (X → X → Bool) → X → List X → Type 0
NoneBefore lt a [] = Unit {0}
NoneBefore lt a (x ∷ xs) = (lt x a ≡ false) × NoneBefore lt a xs

-- each element is before none that stands in front of it
abbrev pub Rises : {X : Type 0} → (X → X → Bool) → List X → Type 0
Rises lt [] = Unit {0}
Rises lt (x ∷ xs) = NoneBefore lt x xs × Rises lt xs

-- two lists have the same elements
abbrev pub SameSums : {X : Type 0} → List X → List X → Type 0
SameSums {X} xs ys = (f : X → ℕ) → sum_by f xs ≡ sum_by f ys

mark : Bool → ℕ
mark true = 1
mark false = 0

mark-false : (b : Bool) → mark b ≡ 0 → b ≡ false
unfolding mark
mark-false true e = absurd (omega (arith, e))
mark-false false e = refl

mark-none : (b : Bool) → b ≡ false → mark b ≡ 0
unfolding mark
mark-none true e = absurd cc
mark-none false e = refl

not_self : {X : Type 0} (lt : X → X → Bool) → IsStrict lt → (x : X) (b : Bool) → lt x x ≡ b → lt x x ≡ false
not_self lt strict x true e = strict.one_way x x e
not_self lt strict x false e = e

none_marked : {X : Type 0} (lt : X → X → Bool) (a : X) (xs : List X) → NoneBefore lt a xs → sum_by (λ x. mark (lt x a)) xs ≡ 0
none_marked lt a [] none = refl
none_marked lt a (x ∷ xs) none =
    sum_by-cons (λ x. mark (lt x a)) x xs ∙ omega (arith, mark-none (lt x a) none.0, none_marked lt a xs none.1)

-- the first of a list that rises is before none of the elements
first_least : {X : Type 0} (lt : X → X → Bool) → IsStrict lt → (x y : X) (xs ys : List X) → NoneBefore lt x xs → SameSums (x ∷ xs) (y ∷ ys)
    → lt y x ≡ false
first_least {X} lt strict x y xs ys none same =
    let f : X → ℕ = λ z. mark (lt z x) in
    let own : mark (lt x x) ≡ 0 = mark-none (lt x x) (not_self lt strict x (lt x x) refl) in
    mark-false (lt y x)
    (omega (arith, own, none_marked lt x xs none, sum_by-cons f x xs, same f, sum_by-cons f y ys))

-- two lists that rise and have the same elements are one
pub same_list : {X : Type 0} (lt : X → X → Bool) → IsStrict lt → (xs ys : List X) → Rises lt xs → Rises lt ys → SameSums xs ys → xs ≡ ys
same_list lt strict [] [] a b same = refl
same_list {X} lt strict [] (y ∷ ys) a b same =
    let one : X → ℕ = λ _. 1 in absurd (omega (arith, same one, sum_by-cons one y ys))
same_list {X} lt strict (x ∷ xs) [] a b same =
    let one : X → ℕ = λ _. 1 in absurd (omega (arith, same one, sum_by-cons one x xs))
same_list {X} lt strict (x ∷ xs) (y ∷ ys) a b same =
    let first : x ≡ y =
    strict.apart x y (first_least lt strict y x ys xs b.0 (λ f. sym (same f))) (first_least lt strict x y xs ys a.0 same) in
    let rest : xs ≡ ys =
    same_list lt strict xs ys a.1 b.1 (λ (f : X → ℕ). omega (arith, same f, sum_by-cons f x xs, sum_by-cons f y ys, ap f first)) in
    cc

pub none_by : {X : Type 0} (lt : X → X → Bool) → ((x y z : X) → lt x y ≡ false → lt y z ≡ false → lt x z ≡ false)
    → (a b : X) → lt b a ≡ false → (xs : List X) → NoneBefore lt b xs → NoneBefore lt a xs
none_by lt chain a b less [] none = tt
none_by lt chain a b less (x ∷ xs) none = (chain x b a none.0 less, none_by lt chain a b less xs none.1)

sorted_rest : {X : Type 0} (lt : X → X → Bool) (x : X) (xs : List X) → IsSortedBy lt (x ∷ xs) → IsSortedBy lt xs
sorted_rest lt x xs sorted k d low within =
    simp add-one (simp add-one at (sorted (suc k) d (omega arith) (omega (arith, within))))

-- from neighbours to all
pub rises_from_sorted : {X : Type 0} (lt : X → X → Bool) → ((x y z : X) → lt x y ≡ false → lt y z ≡ false → lt x z ≡ false)
    → (xs : List X) → IsSortedBy lt xs → Rises lt xs
rises_from_sorted lt chain [] sorted = tt
rises_from_sorted lt chain (x ∷ []) sorted = (tt, tt)
rises_from_sorted lt chain (x ∷ y ∷ ys) sorted =
    let rest : Rises lt (y ∷ ys) = rises_from_sorted lt chain (y ∷ ys) (sorted_rest lt x (y ∷ ys) sorted) in
    let first : lt y x ≡ false = sorted 0 x (omega arith) (omega arith) in
    ((first, none_by lt chain x y first ys rest.0), rest)

none_map : {X Y : Type 0} (lt : X → X → Bool) (to : Y → Y → Bool) (f : X → Y) → ((x y : X) → lt x y ≡ to (f x) (f y))
    → (a : X) (xs : List X) → NoneBefore lt a xs → NoneBefore to (f a) (map f xs)
none_map lt to f same a [] none = tt
none_map lt to f same a (x ∷ xs) none = (sym (same x a) ∙ none.0, none_map lt to f same a xs none.1)

-- an order that is kept by a function
pub rises_map : {X Y : Type 0} (lt : X → X → Bool) (to : Y → Y → Bool) (f : X → Y) → ((x y : X) → lt x y ≡ to (f x) (f y))
    → (xs : List X) → Rises lt xs → Rises to (map f xs)
rises_map lt to f same [] rises = tt
rises_map lt to f same (x ∷ xs) rises = (none_map lt to f same x xs rises.0, rises_map lt to f same xs rises.1)
