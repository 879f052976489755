-- Names by their places.
use Rattle.std.specs.Prelude.{ℕ, suc, ◌≡◌, if◌then◌else◌, List, [], ◌∷◌, Option, Some, None, Vec}
use Rattle.std.specs.Option.{option_map}
use Rattle.std.specs.Str.{bytes_eq}
use Rattle.std.specs.Ordering.{nat_cmp}
use Rattle.std.specs.Cmp.Lexicographic.{slice_cmp}
use Rattle.std.specs.BTreeMap.{BTreeMap, get_by}
use Rattle.std.specs.declared.alloc.Global.{Global}

-- the place of a name
abbrev pub place_of : BTreeMap (Vec ℕ Global) ℕ → List ℕ → Option ℕ
place_of places name = get_by (λ k. slice_cmp nat_cmp name k.items) places

-- the place of the first of some names that is this one
unfoldable pub index_of : List (List ℕ) → List ℕ → Option ℕ
index_of [] name = None
index_of (n ∷ names) name = if bytes_eq n name then Some 0 else option_map suc (index_of names name)

-- each name is found at its first place
abbrev pub IsPlaced : List (List ℕ) → (List ℕ → Option ℕ) → Type 0
IsPlaced names place = (name : List ℕ) → place name ≡ index_of names name
