-- The part of a name that is kept while uniforms are flattened (this project's own): an active name has at most 256 bytes, so a name
-- that was cut to 257 is still too long, and one that isn't too long was not cut.
use Rattle.std.specs.Prelude.{ℕ, List, Vec, take}
use Rattle.std.specs.declared.alloc.Global.{Global}
use Rattle.program_link.specs.declared.leaves.Leaf.{Leaf}

-- the part of a name that is kept
abbrev pub kept_part : List ℕ → List ℕ
kept_part name = take 257 name

-- a uniform under the part of its name that is kept
abbrev pub kept_leaf : Leaf → Leaf
kept_leaf leaf = record leaf { name = kept_part leaf.name }

-- the list in a vector
abbrev pub items_of : {A : Type 0} → Vec A Global → List A
items_of v = v.items
