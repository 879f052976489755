-- How the elements of structures are counted before they are flattened (this project's own).
use Rattle.std.specs.Prelude.{◌≡◌, ℕ, ◌+◌, ◌-◌, ◌*◌, ◌==◌, ◌<◌, if◌then◌else◌, min, Option, Some, None, List, length, slice_index}
use Rattle.std.specs.List.{sum_by}
use Rattle.glsl_types.specs.declared.types.SlType.{SlType}
use Rattle.glsl_types.specs.declared.types.Struct.{Struct}
use Rattle.uniform_values.specs.Layout.{elements}
use Rattle.program_link.specs.Flattening.{element_count, fields_of}
use Rattle.program_link.specs.SameTypes.{before, structure_at, structure_of}

-- what a list has for a structure, by its number from 1; 0 where it has nothing
abbrev pub number_at : List ℕ → ℕ → ℕ
number_at numbers number = if number == 0 then 0 else slice_index numbers (number - 1)

-- the elements of the fields of a structure, by its number
abbrev pub structure_count : List Struct → ℕ → ℕ
structure_count structs number =
    sum_by (λ f. element_count (before structs number) f.kind) (fields_of (structure_at structs number))

-- the elements of each structure are counted, up to 65,536
pub record AreCounted (structs : List Struct) (counts : List ℕ) : Type 0 where
  pub all : length counts ≡ length structs
  pub each : (place : ℕ) → place < length structs → slice_index counts place ≡ min 65536 (structure_count structs (place + 1))

-- the elements of one of a type, where so many stand for each structure
abbrev pub one_counted : List ℕ → Option ℕ → ℕ
one_counted counts (Some number) = number_at counts number
one_counted counts None = 1

-- the elements of a type, up to 65,536
unfoldable pub counted : List ℕ → SlType → ℕ
counted counts kind = min 65536 (elements kind * min 65536 (one_counted counts (structure_of kind.base)))
