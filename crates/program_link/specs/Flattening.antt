-- The uniforms that a uniform of structure type stands for (OpenGL ES 2.0 section 2.10.4): one for each member that is no structure, in
-- order, of an array of structures element by element, under the names by which a page asks for them.
use Rattle.std.specs.Prelude.{ℕ, zero, suc, ◌+◌, ◌==◌, if◌then◌else◌, Option, Some, None, List, [], ◌∷◌, ◌++◌, length, map}
use Rattle.std.specs.Fmt.{decimal}
use Rattle.std.specs.List.{flat_map, range_with_len, sum_by}
use Rattle.glsl_types.specs.declared.types.Field.{Field}
use Rattle.glsl_types.specs.declared.types.SlType.{SlType}
use Rattle.glsl_types.specs.declared.types.Struct.{Struct}
use Rattle.uniform_values.specs.Layout.{elements}
use Rattle.program_link.specs.declared.leaves.Leaf.{Leaf}
use Rattle.program_link.specs.SameTypes.{before, structure_at, structure_of}

-- the name of a member: `a.b`
abbrev pub member_name : List ℕ → List ℕ → List ℕ
member_name name field = name ++ 46 ∷ field

-- the name of an element: `a[k]`
abbrev pub element_name : List ℕ → ℕ → List ℕ
element_name name k = name ++ 91 ∷ (decimal k ++ 93 ∷ [])

-- the names of all elements
abbrev pub element_names : List ℕ → ℕ → List (List ℕ)
element_names name count = map (element_name name) (range_with_len 0 count)

-- the full name of a uniform: that of an array ends in `[0]`
abbrev pub full_name : List ℕ → SlType → List ℕ
full_name name kind = if kind.array == 0 then name else element_name name 0

-- the fields of a structure
abbrev pub fields_of : Option Struct → List Field
fields_of (Some s) = s.fields
fields_of None = []

-- the names of the structures that a uniform of structure type has: its own, or those of its elements
abbrev pub structure_names : List ℕ → ℕ → List (List ℕ)
structure_names name array = if array == 0 then name ∷ [] else element_names name array

-- what stands for the members of structures of these names
abbrev pub members : (List ℕ → SlType → List Leaf) → List (List ℕ) → List Field → List Leaf
members flatten names fields = flat_map (λ name. flat_map (λ f. flatten (member_name name f.name) f.kind) fields) names

-- what stands for a uniform of a structure, by its number, or of any other type
abbrev pub flattened_by : (ℕ → List ℕ → SlType → List Leaf) → List Struct → List ℕ → SlType → Option ℕ → List Leaf
flattened_by flatten structs name kind (Some number) =
    members (flatten number) (structure_names name kind.array) (fields_of (structure_at structs number))
flattened_by flatten structs name kind None = record { name = name; kind = kind } ∷ []

-- what stands for a uniform, where structures stand at most so deep in one another; the fields of a structure are of types that are
-- declared before it
unfoldable pub flattened_to_depth : ℕ → List Struct → List ℕ → SlType → List Leaf
flattened_to_depth zero structs name kind = []
flattened_to_depth (suc depth) structs name kind =
    flattened_by (λ number. flattened_to_depth depth (before structs number)) structs name kind (structure_of kind.base)

-- the uniforms that a uniform of a shader with these structures stands for
abbrev pub flattened : List Struct → List ℕ → SlType → List Leaf
flattened structs = flattened_to_depth (length structs + 1) structs

-- how many elements there are of uniforms without structure
abbrev pub elements_of : List Leaf → ℕ
elements_of leaves = sum_by (λ leaf. elements leaf.kind) leaves

-- how many elements a uniform of a type stands for, whatever its name
abbrev pub element_count : List Struct → SlType → ℕ
element_count structs kind = elements_of (flattened structs [] kind)
