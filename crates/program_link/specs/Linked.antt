-- What a link makes (OpenGL ES 2.0 section 2.10.4): the active attributes with their locations and the active uniforms with their slots.
use Rattle.std.specs.Prelude.{unwrap_or, ℕ, ◌+◌, Option, List, [], ◌∷◌, map}
use Rattle.std.specs.List.{flat_map, range_with_len}
use Rattle.std.specs.Map.{lookup}
use Rattle.std.specs.Str.{bytes_eq}
use Rattle.glsl_types.specs.declared.interface.Interface.{Interface}
use Rattle.glsl_types.specs.declared.interface.Item.{Item}
use Rattle.glsl_types.specs.declared.types.SlType.{SlType}
use Rattle.uniform_values.specs.Layout.{elements}
use Rattle.program_link.specs.declared.active.Active.{Active}
use Rattle.program_link.specs.declared.active.Attribute.{Attribute}
use Rattle.program_link.specs.declared.active.Uniform.{Uniform}
use Rattle.program_link.specs.declared.leaves.Leaf.{Leaf}
use Rattle.program_link.specs.Flattening.{element_name, full_name}
use Rattle.program_link.specs.Items.{active_leaves, used}
use Rattle.program_link.specs.Locations.{Bound, locations}
use Rattle.program_link.specs.TypeWords.{type_word}

-- the interface of a program to its page
pub record Linked : Type 0 where
  pub attributes : List Attribute
  pub uniforms : List Uniform

-- attributes with their locations
unfoldable pub at_locations : List Item → List ℕ → List Attribute
at_locations (item ∷ items) (location ∷ locations) =
    record { name = item.name; base = item.kind.base; location = location } ∷ at_locations items locations
at_locations items [] = []
at_locations [] locations = []

-- uniforms with their slots, from a first one on: each element has the next
unfoldable pub at_slots : ℕ → List Leaf → List Uniform
at_slots first [] = []
at_slots first (leaf ∷ leaves) =
    record { name = leaf.name; kind = leaf.kind; first = first } ∷ at_slots (first + elements leaf.kind) leaves

-- what a link of these shaders makes, where nothing refuses it
abbrev pub linked : Interface → Interface → Bound → Linked
linked vertex fragment bound = record {
  attributes = at_locations (used vertex.attributes) (unwrap_or (locations bound (used vertex.attributes)) []);
  uniforms = at_slots 0 (active_leaves vertex fragment);
}

-- an attribute as getActiveAttrib tells it
abbrev pub told_attribute : Attribute → Active
told_attribute a = record { name = a.name; size = 1; kind = type_word a.base; first = a.location }

-- a uniform as getActiveUniform tells it: the name of an array ends in `[0]`
abbrev pub told_uniform : Uniform → Active
told_uniform u = record { name = full_name u.name u.kind; size = elements u.kind; kind = type_word u.kind.base; first = u.first }

-- the number of a name: that of the first of these that has it
abbrev pub number_named : List (List ℕ × ℕ) → List ℕ → Option ℕ
number_named pairs name = lookup (λ key. bytes_eq name key) pairs

-- the names of a uniform's slots: its own name has the first, and `a[k]` that of element k of an array `a`
abbrev pub slot_names : Uniform → List (List ℕ × ℕ)
slot_names u = (u.name, u.first) ∷ map (λ k. (element_name u.name k, u.first + k)) (range_with_len 0 u.kind.array)

-- the slot of a name
abbrev pub slot_of_name : Linked → List ℕ → Option ℕ
slot_of_name program name = number_named (flat_map slot_names program.uniforms) name

-- the location of a name
abbrev pub location_of_name : Linked → List ℕ → Option ℕ
location_of_name program name = number_named (map (λ a. (a.name, a.location)) program.attributes) name

-- the types of the uniforms, in the order of their slots
abbrev pub uniform_kinds : Linked → List SlType
uniform_kinds program = map (λ u. u.kind) program.uniforms
