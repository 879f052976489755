-- How uniforms of structure type are taken apart (this project's own): what is pending is a stack, here from its top.
use Rattle.std.specs.Prelude.{ℕ, suc, ◌*◌, ◌^◌, ◌==◌, if◌then◌else◌, List, length, map, take}
use Rattle.std.specs.List.{flat_map, range_with_len, sum_by}
use Rattle.glsl_types.specs.declared.types.Field.{Field}
use Rattle.glsl_types.specs.declared.types.Struct.{Struct}
use Rattle.program_link.specs.declared.flattening.Pending.{Pending}
use Rattle.program_link.specs.declared.leaves.Leaf.{Leaf}
use Rattle.program_link.specs.Flattening.{element_name, flattened, member_name}
use Rattle.program_link.specs.Kept.{kept_leaf, kept_part}

-- the member of a structure as it is pending
abbrev pub entry : List ℕ → ℕ → Field → Pending
entry name seen field = record { name = kept_part (member_name name field.name); kind = field.kind; seen = seen }

-- the members of a structure, or of the elements of an array of structures
abbrev pub entries : List ℕ → ℕ → ℕ → List Field → List Pending
entries name array seen fields =
    if array == 0 then map (entry name seen) fields
    else flat_map (λ k. map (entry (element_name name k) seen) fields) (range_with_len 0 array)

-- what stands for a uniform that is pending
abbrev pub stands_for : List Struct → Pending → List Leaf
stands_for structs p = map kept_leaf (flattened (take p.seen structs) p.name p.kind)

-- what stands for all that is pending
unfoldable pub standing : List Struct → List Pending → List Leaf
standing structs pending = flat_map (stands_for structs) pending

-- how many fields there are
abbrev pub field_count : List Struct → ℕ
field_count structs = sum_by (λ s. length s.fields) structs

-- how far all that is pending is from being flattened: more than all members of structures that are declared before
unfoldable pub weight : List Struct → List Pending → ℕ
weight structs pending = sum_by (λ p. suc (2 ^ 32 * field_count structs) ^ p.seen) pending
