-- The number that digits stand for.
use Rattle.std.proofs.Common.{ℕ, ◌+◌, ◌*◌, ◌≤◌, List, [], ◌∷◌, arith}
use Rattle.std.proofs.Math.Nat.{le-mul_of_pos_right}
use Rattle.glsl_tree.specs.Spellings.{number_from, digit_of}

-- more digits make no number smaller
pub number_up : (base n : ℕ) (digits : List ℕ) → 1 ≤ base → n ≤ number_from base n digits
number_up base n [] h = omega arith
number_up base n (b ∷ digits) h =
    let rest : n * base + digit_of b ≤ number_from base (n * base + digit_of b) digits = number_up base (n * base + digit_of b) digits h in
    let product : n ≤ n * base = grind (arith, le-mul_of_pos_right) in
    omega arith
