-- Bytes copied from an index on.
use Rattle.std.proofs.Common.{◌≡◌, ℕ, ◌+◌, ◌-◌, ◌<◌, List, [], ◌++◌, min, length, take, drop, arith, sym, ap, length-drop}
use Rattle.std.proofs.lemmas.List.{take_rest, take-append-drop, drop-drop, drop_all}

-- what lies from `next` on is what was copied, and then what lies after it
pub copied_rest : (xs : List ℕ) (next n : ℕ) (piece : List ℕ) → take n piece ≡ take n (take (length xs - next) (drop next xs))
    → drop next xs ≡ take n piece ++ drop (next + n) xs
copied_rest xs next n piece e =
    rw (e, take_rest xs next, ← drop-drop n next xs) (sym (take-append-drop n (drop next xs)))

-- where nothing could be copied into a piece that isn't empty, nothing is left
pub none_left : (xs : List ℕ) (next n room : ℕ) → n ≡ min (length (take (length xs - next) (drop next xs))) room → n ≡ 0 → 0 < room
    → drop (next + n) xs ≡ []
none_left xs next n room e none some =
    let part = ap length (take_rest xs next) in
    drop_all (next + n) xs (omega (arith, length-drop next xs, part))
