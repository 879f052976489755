-- The part of a list from an index to its end.
use Rattle.std.proofs.Common.{◌≡◌, ℕ, ◌-◌, List, length, take, drop}
use Rattle.std.proofs.lemmas.List.{take_rest}

-- as many elements as are left are all that are left
pub rest_of : (n : ℕ) (xs : List ℕ) → take (length xs - n) (drop n xs) ≡ drop n xs
rest_of n xs = take_rest xs n
