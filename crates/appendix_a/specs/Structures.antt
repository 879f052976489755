-- The structures that are declared before a place, as the code finds them: from the declarations and functions before it, and for
-- each whether its type has a sampler.
use Rattle.std.specs.Prelude.{ℕ, Bool, false, List, [], ◌∷◌}
use Rattle.std.specs.Option.{option_map_or}
use Rattle.std.specs.Str.{bytes_eq}
use Rattle.glsl_tree.specs.declared.statements.Item.{Item}
use Rattle.glsl_tree.specs.declared.declarations.TypeSpecifier.{TypeSpecifier}
use Rattle.appendix_a.specs.Names.{Structures, item_sampler, item_structures, item_type, structure_name}

-- the structures with those of these declarations and functions
abbrev pub structures_after : Structures → List Item → Structures
structures_after structures [] = structures
structures_after structures (first ∷ more) = structures_after (item_structures structures first) more

-- for each of them whether its type has a sampler
abbrev pub samplers_from : Structures → List Item → List Bool
samplers_from structures [] = []
samplers_from structures (first ∷ more) = item_sampler structures first ∷ samplers_from (item_structures structures first) more

-- whether a type declares a structure of this name
abbrev pub type_declares : List ℕ → TypeSpecifier → Bool
type_declares name t = option_map_or (λ own. bytes_eq own name) (structure_name t) false

-- whether the type of a declaration or a function does
abbrev pub item_declares : List ℕ → Item → Bool
item_declares name i = option_map_or (type_declares name) (item_type i) false
