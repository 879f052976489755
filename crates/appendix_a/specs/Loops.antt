-- The loops around a place.
use Rattle.std.specs.Prelude.{ℕ, ◌==◌, Bool, false, List, [], ◌∷◌, Option, Some, None}
use Rattle.std.specs.List.{list_any}
use Rattle.appendix_a.specs.declared.loops.Loops.{Loops}
use Rattle.appendix_a.specs.declared.loops.Loops.TheOpen.{Loops-F}
use Rattle.appendix_a.specs.declared.loops.Loops.TheFolds.{fold-Loops}

abbrev pub indices_layer : Loops-F (List ℕ) → List ℕ
indices_layer Loops-F.Nowhere = []
indices_layer (Loops-F.Within index outer) = index ∷ outer.now

-- the numbers of their indices, the innermost first
unfoldable pub indices : Loops → List ℕ
indices = fold-Loops (List ℕ) indices_layer

-- whether a variable is one of some indices
abbrev pub has : List ℕ → Option ℕ → Bool
has indices None = false
has indices (Some number) = list_any (λ index. index == number) indices
