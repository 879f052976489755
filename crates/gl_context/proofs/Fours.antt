-- A list of four, place by place.
use Rattle.std.proofs.Common.{◌≡◌, List, [], ◌∷◌, length, map, slice_index_or, refl}

pub four : {A B : Type 0} (f : A → B) (none : A) (xs : List A) → length xs ≡ 4
    → f (slice_index_or xs 0 none) ∷ f (slice_index_or xs 1 none) ∷ f (slice_index_or xs 2 none) ∷ f (slice_index_or xs 3 none) ∷ [] ≡ map f xs
four f none [] e = absurd cc
four f none (a ∷ []) e = absurd cc
four f none (a ∷ b ∷ []) e = absurd cc
four f none (a ∷ b ∷ c ∷ []) e = absurd cc
four f none (a ∷ b ∷ c ∷ d ∷ []) e = refl
four f none (a ∷ b ∷ c ∷ d ∷ x ∷ rest) e = absurd cc
