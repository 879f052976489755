-- The tokens of parts that are taken one by one.
use Rattle.std.proofs.Common.{◌≡◌, ℕ, suc, ◌+◌, ◌<◌, ◌≤◌, List, length, get_or, drop, map, sym, ap, ◌∙◌, add-one, drop-cons, length-append, arith}
use Rattle.glsl_tree.specs.Token.{PlainToken}
use Rattle.glsl_tree.specs.Types.{joined}

-- one part more
pub joined_more : {X : Type 0} (f : X → List PlainToken) (xs : List X) (i : ℕ) (d : X) → i < length xs
    → length (joined (map f (drop i xs))) ≡ length (f (get_or xs i d)) + length (joined (map f (drop (i + 1) xs)))
joined_more f xs i d within =
    rw add-one (ap (λ rest. length (joined (map f rest))) (drop-cons xs i d within)
    ∙ length-append (f (get_or xs i d)) (joined (map f (drop (suc i) xs))))

-- its tokens have room where all have
pub tokens_first : {X : Type 0} (f : X → List PlainToken) (xs : List X) (i : ℕ) (d : X) (at most : ℕ) → i < length xs → d ≡ get_or xs i d
    → at + length (joined (map f (drop i xs))) ≤ most → at + length (f d) ≤ most
tokens_first {X} f xs i d at most within is so_far =
    let more : length (joined (map f (drop i xs))) ≡ length (f d) + length (joined (map f (drop (i + 1) xs))) =
    joined_more f xs i d within ∙ ap (λ (x : X). length (f x) + length (joined (map f (drop (i + 1) xs)))) (sym is) in
    omega arith

pub tokens_turn : {X : Type 0} (f : X → List PlainToken) (xs : List X) (i : ℕ) (d : X) (at next most : ℕ) → i < length xs → d ≡ get_or xs i d
    → next ≤ at + length (f d) → at + length (joined (map f (drop i xs))) ≤ most → next + length (joined (map f (drop (i + 1) xs))) ≤ most
tokens_turn {X} f xs i d at next most within is step so_far =
    let more : length (joined (map f (drop i xs))) ≡ length (f d) + length (joined (map f (drop (i + 1) xs))) =
    joined_more f xs i d within ∙ ap (λ (x : X). length (f x) + length (joined (map f (drop (i + 1) xs)))) (sym is) in
    omega arith
