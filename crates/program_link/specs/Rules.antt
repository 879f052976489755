-- What makes a link fail (OpenGL ES 2.0 section 2.10.4, GLSL ES 1.00.17 sections 4.3.5 and 4.5.3 and appendix A section 7, WebGL 1.0
-- section 6):
-- the rules from the fourth on, by their numbers. The first three, that there is a further link number and that both stages are attached
-- and compiled, are the context's.
use Rattle.std.specs.Prelude.{ℕ, ◌+◌, ◌==◌, nat_lt, if◌then◌else◌, Bool, false, not, ◌&&◌, ◌||◌, Option, Some, None, is_some, List, [], ◌∷◌, length, map}
use Rattle.std.specs.List.{list_any, sum_by}
use Rattle.gl_numbers.specs.Limits.{combined_texture_units_max, fragment_uniform_vectors_max, texture_units_max, varying_vectors_max, vertex_texture_units_max, vertex_uniform_vectors_max}
use Rattle.glsl_types.specs.Bases.{columns, is_sampler, size}
use Rattle.glsl_types.specs.declared.bases.Base.{Base}
use Rattle.glsl_types.specs.declared.interface.Interface.{Interface}
use Rattle.glsl_types.specs.declared.interface.Item.{Item}
use Rattle.glsl_types.specs.declared.types.SlType.{SlType}
use Rattle.varying_pack.specs.declared.items.PackItem.{PackItem}
use Rattle.varying_pack.specs.Placing.{placing}
use Rattle.uniform_values.specs.Layout.{elements}
use Rattle.program_link.specs.SameTypes.{same_across, same_precision}
use Rattle.program_link.specs.declared.leaves.Leaf.{Leaf}
use Rattle.program_link.specs.Flattening.{full_name}
use Rattle.program_link.specs.Items.{active_leaves, named, used, used_leaves}
use Rattle.program_link.specs.Locations.{Bound, locations}

-- whether both hold or neither does
abbrev pub same_truth : Bool → Bool → Bool
same_truth a b = if a then b else not b

-- whether a varying of the fragment shader is declared in the vertex shader otherwise, or is used and isn't declared there, by a test of
-- types
abbrev pub varying_differs : (SlType → SlType → Bool) → Item → Option Item → Bool
varying_differs same item (Some other) = not (same other.kind item.kind && same_truth other.invariant item.invariant)
varying_differs same item None = item.used

-- whether one of these varyings does
abbrev pub some_varying_differs : (SlType → SlType → Bool) → List Item → List Item → Bool
some_varying_differs same declared items = list_any (λ item. varying_differs same item (named declared item.name)) items

-- rule 4: a varying that the fragment shader uses isn't declared in the vertex shader, or one in both differs in type or invariance
-- (GLSL ES 1.00.17 sections 4.3.5 and 4.6.4)
abbrev pub varyings_differ : Interface → Interface → Bool
varyings_differ vertex fragment =
    some_varying_differs (same_across vertex.structs fragment.structs) vertex.varyings fragment.varyings

-- whether a uniform of the fragment shader is declared in the vertex shader with another type or precision, by a test of types
abbrev pub uniform_differs : (SlType → SlType → Bool) → Item → Option Item → Bool
uniform_differs same item (Some other) = not (same other.kind item.kind && same_precision other.precision item.precision)
uniform_differs same item None = false

-- whether one of these uniforms is
abbrev pub some_uniform_differs : (SlType → SlType → Bool) → List Item → List Item → Bool
some_uniform_differs same declared items = list_any (λ item. uniform_differs same item (named declared item.name)) items

-- rule 5: a uniform in both differs in type or precision (GLSL ES 1.00.17 section 4.3.4)
abbrev pub uniforms_differ : Interface → Interface → Bool
uniforms_differ vertex fragment =
    some_uniform_differs (same_across vertex.structs fragment.structs) vertex.uniforms fragment.uniforms

-- rule 6: the locations of two attributes overlap, one passes the last location, or none is free
abbrev pub attributes_clash : Interface → Bound → Bool
attributes_clash vertex bound = not (is_some (locations bound (used vertex.attributes)))

-- the class by which an item is placed (GLSL ES 1.00.17 appendix A section 7): mat4, mat2, vectors of four, mat3, vectors of three, of two,
-- and scalars with samplers
abbrev pub class_of : Base → ℕ
class_of base =
    if columns base == 4 then 1
    else (if columns base == 2 then 2
    else (if columns base == 3 then 4
    else (if size base == 4 then 3
    else (if size base == 3 then 5
    else (if size base == 2 then 6 else 7)))))

-- an item that is to be placed
abbrev pub placed : SlType → PackItem
placed kind = record { class = class_of kind.base; size = elements kind }

-- whether items of these types have no room in so many rows
abbrev pub lack_room : ℕ → List SlType → Bool
lack_room rows kinds = not (is_some (placing rows (map placed kinds)))

-- rule 7: the varyings that the fragment shader uses have no room
abbrev pub varyings_lack_room : Interface → Bool
varyings_lack_room fragment = lack_room varying_vectors_max (map (λ item. item.kind) (used fragment.varyings))

-- rules 8 and 9: the uniforms that a shader uses have no room
abbrev pub uniforms_lack_room : ℕ → Interface → Bool
uniforms_lack_room rows shader = lack_room rows (map (λ leaf. leaf.kind) (used_leaves shader))

-- how many samplers there are, each element of an array counted
abbrev pub samplers_among : List Leaf → ℕ
samplers_among leaves = sum_by (λ leaf. if is_sampler leaf.kind.base then elements leaf.kind else 0) leaves

-- how many samplers a shader uses
abbrev pub sampler_count : Interface → ℕ
sampler_count shader = samplers_among (used_leaves shader)

-- whether there are more samplers in a vertex or in a fragment shader than there may be, or in both together
abbrev pub exceed_samplers : ℕ → ℕ → Bool
exceed_samplers in_vertex in_fragment =
    nat_lt vertex_texture_units_max in_vertex
    || (nat_lt texture_units_max in_fragment || nat_lt combined_texture_units_max (in_vertex + in_fragment))

-- rule 10: a shader uses more samplers than it may, or both together do
abbrev pub too_many_samplers : Interface → Interface → Bool
too_many_samplers vertex fragment = exceed_samplers (sampler_count vertex) (sampler_count fragment)

-- the most bytes of an active name
abbrev pub name_bytes_max : ℕ
name_bytes_max = 256

-- whether a name is too long
abbrev pub is_too_long : List ℕ → Bool
is_too_long name = nat_lt name_bytes_max (length name)

-- whether the name of one of these attributes or uniforms is too long, that of an array with its `[0]`
abbrev pub names_too_long : List Item → List Leaf → Bool
names_too_long attributes uniforms =
    list_any (λ item. is_too_long item.name) attributes || list_any (λ leaf. is_too_long (full_name leaf.name leaf.kind)) uniforms

-- rule 11: an active name is too long
abbrev pub name_too_long : Interface → Interface → Bool
name_too_long vertex fragment = names_too_long (used vertex.attributes) (active_leaves vertex fragment)

-- a rule by its number, and whether the link breaks it
abbrev pub Breach : Type 0
Breach = ℕ × Bool

-- the rules in their order
abbrev pub link_rules : Interface → Interface → Bound → List Breach
link_rules vertex fragment bound =
    (4, varyings_differ vertex fragment)
    ∷ (5, uniforms_differ vertex fragment)
    ∷ (6, attributes_clash vertex bound)
    ∷ (7, varyings_lack_room fragment)
    ∷ (8, uniforms_lack_room vertex_uniform_vectors_max vertex)
    ∷ (9, uniforms_lack_room fragment_uniform_vectors_max fragment)
    ∷ (10, too_many_samplers vertex fragment)
    ∷ (11, name_too_long vertex fragment)
    ∷ []

-- the number of the first rule that is broken
abbrev pub first_broken : List Breach → Option ℕ
first_broken [] = None
first_broken (rule ∷ rules) = if rule.1 then Some rule.0 else first_broken rules
