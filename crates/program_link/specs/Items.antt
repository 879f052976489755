-- The items of two shaders' interfaces (GLSL ES 1.00.17 sections 4.3.3 to 4.3.5), and which of them are active: exactly those whose name
-- is used in an expression.
use Rattle.std.specs.Prelude.{ℕ, Bool, false, not, ◌&&◌, Option, List, ◌++◌}
use Rattle.std.specs.List.{filter, find, flat_map}
use Rattle.std.specs.Option.{option_map_or}
use Rattle.std.specs.Str.{bytes_eq}
use Rattle.glsl_types.specs.declared.interface.Interface.{Interface}
use Rattle.glsl_types.specs.declared.interface.Item.{Item}
use Rattle.glsl_types.specs.declared.types.Struct.{Struct}
use Rattle.program_link.specs.declared.leaves.Leaf.{Leaf}
use Rattle.program_link.specs.Flattening.{flattened}

-- the items that are used
abbrev pub used : List Item → List Item
used items = filter (λ item. item.used) items

-- the item of a name, if there is one
abbrev pub named : List Item → List ℕ → Option Item
named items name = find (λ item. bytes_eq name item.name) items

-- whether an item of a name is used
abbrev pub is_used : List Item → List ℕ → Bool
is_used items name = option_map_or (λ item. item.used) (named items name) false

-- what stands for the uniforms of a list
abbrev pub leaves : List Struct → List Item → List Leaf
leaves structs items = flat_map (λ item. flattened structs item.name item.kind) items

-- what stands for the uniforms that a shader uses
abbrev pub used_leaves : Interface → List Leaf
used_leaves shader = leaves shader.structs (used shader.uniforms)

-- whether a uniform is used and isn't among the used ones of the other shader
abbrev pub is_alone : List Item → Item → Bool
is_alone others item = item.used && not (is_used others item.name)

-- the uniforms that the fragment shader alone uses
abbrev pub used_alone : Interface → Interface → List Item
used_alone vertex fragment = filter (is_alone vertex.uniforms) fragment.uniforms

-- what stands for them
abbrev pub alone_leaves : Interface → Interface → List Leaf
alone_leaves vertex fragment = leaves fragment.structs (used_alone vertex fragment)

-- the active uniforms of a program: first those that the vertex shader uses, in its order, then those that the fragment shader alone uses,
-- in its order
abbrev pub active_leaves : Interface → Interface → List Leaf
active_leaves vertex fragment = used_leaves vertex ++ alone_leaves vertex fragment
