-- Words in the bytes of a record or a command (this project's own).
use Rattle.std.specs.Prelude.{ℕ, List, [], ◌∷◌}
use Rattle.std.specs.Int.{from_le_bytes, w32}

-- the words of bytes, each of four with the low one first; fewer than four at the end are none
unfoldable pub words_of : List ℕ → List ℕ
words_of (a ∷ b ∷ c ∷ d ∷ rest) = from_le_bytes w32 (a ∷ b ∷ c ∷ d ∷ []) ∷ words_of rest
words_of (a ∷ b ∷ c ∷ []) = []
words_of (a ∷ b ∷ []) = []
words_of (a ∷ []) = []
words_of [] = []
