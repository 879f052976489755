-- The `)` of a list that close no `(` of it (GLSL ES 1.00.17 section 3.4: the `)` that ends a macro's call).
use Rattle.std.specs.Prelude.{ℕ, ◌≡◌, ◌<◌, ◌+◌, ◌-◌, if◌then◌else◌, List, [], ◌∷◌, length, get_or}
use Rattle.glsl_tree.specs.Token.{PlainToken}
use Rattle.glsl_preproc.specs.Replacement.{opens, closes}

-- how many `)` of a list close no `(` of it
unfoldable pub lone_closers : List PlainToken → ℕ
lone_closers [] = 0
lone_closers (t ∷ rest) = if opens t then lone_closers rest - 1 else (if closes t then lone_closers rest + 1 else lone_closers rest)

-- the count that is kept for a list of this length, if one is, is that of the list
abbrev pub IsCount : List ℕ → List PlainToken → Type 0
IsCount counts list = length list < length counts → get_or counts (length list) 0 ≡ lone_closers list

-- so for a list and each of its ends
unfoldable pub AreCounts : List ℕ → List PlainToken → Type 0
AreCounts counts [] = IsCount counts []
AreCounts counts (t ∷ rest) = IsCount counts (t ∷ rest) × AreCounts counts rest
