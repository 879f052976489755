-- Numbers as bytes, the low byte first.
use Rattle.std.specs.Prelude.{ℕ, ℤ, List, FitsSigned}
use Rattle.std.specs.Int.{to_le_bytes, cast_unsigned, w32, w64}

-- the four bytes of a word
unfoldable pub le32 : ℕ → List ℕ
le32 n = to_le_bytes w32 n

-- the eight bytes of a number with a sign, in two's complement
unfoldable pub le64 : ℤ → List ℕ
le64 z = to_le_bytes w64 (cast_unsigned w64 z)

-- the number has 64 bits with a sign
abbrev pub IsLong : ℤ → Type 0
IsLong z = FitsSigned w64 z
