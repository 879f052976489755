-- Words at the prefix of a list are read in one way.
use Rattle.std.proofs.Common.{◌≡◌, ℕ, ℤ, ◌<◌, ◌^◌, List, ◌++◌, length, take, drop, refl, sym, ap, ◌∙◌}
use Rattle.std.proofs.lemmas.Nat.{from_le_bytes-to_le_bytes_4}
use Rattle.std.specs.Int.{from_le_bytes, to_le_bytes, w32}
use Rattle.gl_numbers.specs.Bytes.{le32, le64}

pub length-le32 : (n : ℕ) → length (le32 n) ≡ 4
unfolding le32
length-le32 n = refl

pub length-le64 : (z : ℤ) → length (le64 z) ≡ 8
unfolding le64
length-le64 z = refl

-- the word at the prefix, and what follows it
pub record Same (a b : ℕ) (x y : List ℕ) : Type 0 where
  pub word : a ≡ b
  pub rest : x ≡ y

-- two equal lists that begin with words begin with one word
pub le32-one : (a b : ℕ) (x y : List ℕ) → a < 2 ^ 32 → b < 2 ^ 32 → le32 a ++ x ≡ le32 b ++ y → Same a b x y
unfolding le32
le32-one a b x y fits_a fits_b e =
    let words : to_le_bytes w32 a ≡ to_le_bytes w32 b = ap (take 4) e in
    record {
      word = sym (from_le_bytes-to_le_bytes_4 a fits_a) ∙ ap (from_le_bytes w32) words ∙ from_le_bytes-to_le_bytes_4 b fits_b;
      rest = ap (drop 4) e;
    }

pub drop-le32 : (n : ℕ) (x : List ℕ) → drop 4 (le32 n ++ x) ≡ x
unfolding le32
drop-le32 n x = refl

pub take-le32 : (n : ℕ) (x : List ℕ) → take 4 (le32 n ++ x) ≡ le32 n
unfolding le32
take-le32 n x = refl
