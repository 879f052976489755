-- What a read takes from a source's bytes, where it is known what the source has left.
use Rattle.std.specs.Prelude.{◌≡◌, ℕ, ◌<◌, ◌≤◌, List, length, take, Option, Some, None, ⊤, Result, Ok, Err}
use Rattle.std.specs.Io.KnownBytes.{prepend_known, IsAtEnd}

-- one read took the bytes that it gave, 0 of a piece that isn't empty only at the end, and nothing where it failed
abbrev pub Reads : {E : Type 0} → Option (List ℕ) → Option (List ℕ) → Result ℕ E → List ℕ → Type 0
Reads old new (Ok n) piece = (n ≤ length piece) × (old ≡ prepend_known (take n piece) new) × (n ≡ 0 → 0 < length piece → IsAtEnd new)
Reads old new (Err e) piece = new ≡ old

-- reads filled the piece, or less of it where the end came; where one failed, some bytes short of the piece were taken
abbrev pub Fills : {E : Type 0} → Option (List ℕ) → Option (List ℕ) → Result ℕ E → List ℕ → Type 0
Fills old new (Ok n) piece = (n ≤ length piece) × (old ≡ prepend_known (take n piece) new) × (n < length piece → IsAtEnd new)
Fills old new (Err e) piece = (got : List ℕ) × (length got < length piece) × (old ≡ prepend_known got new)

-- a fact about what was left and what is left, where both are known
abbrev pub WhereTold : (List ℕ → List ℕ → Type 0) → Option (List ℕ) → Option (List ℕ) → Type 0
WhereTold P None new = ⊤
WhereTold P (Some old) None = ⊥
WhereTold P (Some old) (Some new) = P old new
