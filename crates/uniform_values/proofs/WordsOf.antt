-- The words of bytes: how many there are, and each by its place.
use Rattle.std.proofs.Common.{◌≡◌, ℕ, ◌+◌, ◌*◌, ◌<◌, ◌/◌, suc, zero, List, [], ◌∷◌, length, get_or, refl, arith}
use Rattle.std.specs.Int.{from_le_bytes, w32}
use Rattle.uniform_values.specs.Tails.{words_of}

-- there is one word for each four bytes
pub length-words_of : (bytes : List ℕ) → length (words_of bytes) ≡ length bytes / 4
unfolding words_of
length-words_of (a ∷ b ∷ c ∷ d ∷ rest) = omega (arith, length-words_of rest)
length-words_of (a ∷ b ∷ c ∷ []) = refl
length-words_of (a ∷ b ∷ []) = refl
length-words_of (a ∷ []) = refl
length-words_of [] = refl

-- the word at a place is that of its four bytes
pub word-words_of : (bytes : List ℕ) (i : ℕ) → i < length (words_of bytes)
    → from_le_bytes w32 (get_or bytes (4 * i) 0 ∷ get_or bytes (4 * i + 1) 0 ∷ get_or bytes (4 * i + 2) 0 ∷ get_or bytes (4 * i + 3) 0 ∷ [])
    ≡ get_or (words_of bytes) i 0
unfolding words_of
word-words_of (a ∷ b ∷ c ∷ d ∷ rest) zero within = refl
word-words_of (a ∷ b ∷ c ∷ d ∷ rest) (suc i) within =
    let zeroth : 4 * suc i ≡ suc (suc (suc (suc (4 * i)))) = omega arith in
    let first : 4 * suc i + 1 ≡ suc (suc (suc (suc (4 * i + 1)))) = omega arith in
    let second : 4 * suc i + 2 ≡ suc (suc (suc (suc (4 * i + 2)))) = omega arith in
    let third : 4 * suc i + 3 ≡ suc (suc (suc (suc (4 * i + 3)))) = omega arith in
    rw (first, second, third, zeroth) (word-words_of rest i (omega (arith, within)))
word-words_of (a ∷ b ∷ c ∷ []) i within = absurd (omega (arith, within))
word-words_of (a ∷ b ∷ []) i within = absurd (omega (arith, within))
word-words_of (a ∷ []) i within = absurd (omega (arith, within))
word-words_of [] i within = absurd (omega (arith, within))

pub ruleset of_words = (length-words_of, word-words_of)
