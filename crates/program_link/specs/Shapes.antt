-- How types of two shaders are compared (this project's own): each structure has a number, one for all of one shape.
use Rattle.std.specs.Prelude.{◌≡◌, ℕ, ◌==◌, ◌<◌, ◌≤◌, Bool, false, ◌&&◌, Option, Some, None, List, [], ◌∷◌, ◌++◌, length, slice_get, slice_index, take}
use Rattle.std.specs.List.{flat_map}
use Rattle.glsl_types.specs.Bases.{same_base}
use Rattle.glsl_types.specs.declared.bases.Base.{Base}
use Rattle.glsl_types.specs.declared.types.Field.{Field}
use Rattle.glsl_types.specs.declared.types.Precision.{Precision}
use Rattle.glsl_types.specs.declared.types.Precision.TheVariants as precision
use Rattle.glsl_types.specs.declared.types.SlType.{SlType}
use Rattle.glsl_types.specs.declared.types.Struct.{Struct}
use Rattle.program_link.specs.Counted.{number_at}
use Rattle.program_link.specs.Places.{Entries, place_of_name}
use Rattle.program_link.specs.SameTypes.{same_across, structure_of}
use Rattle.program_link.specs.TypeWords.{type_word}

-- whether two types but for their array sizes are one, by the numbers of shapes
abbrev pub same_base_by : List ℕ → List ℕ → Base → Base → Option ℕ → Option ℕ → Bool
same_base_by ones others a b (Some m) (Some n) = number_at ones m == number_at others n
same_base_by ones others a b (Some m) None = false
same_base_by ones others a b None n = same_base a b

-- whether two types are one, by the numbers of shapes
unfoldable pub same_by_numbers : List ℕ → List ℕ → SlType → SlType → Bool
same_by_numbers ones others a b =
    a.array == b.array && same_base_by ones others a.base b.base (structure_of a.base) (structure_of b.base)

-- the numbers tell which types of two shaders are one
abbrev pub Tell : List ℕ → List ℕ → List Struct → List Struct → Type 0
Tell ones others vertex fragment = (a b : SlType) → same_by_numbers ones others a b ≡ same_across vertex fragment a b

-- the words of a name
abbrev pub name_words : List ℕ → List ℕ
name_words name = length name ∷ name

-- a word for each precision
abbrev pub precision_word : Precision → ℕ
precision_word precision.Unset = 0
precision_word precision.Low = 1
precision_word precision.Medium = 2
precision_word precision.High = 3

-- the number of a structure's shape; 0 of what is no structure
abbrev pub structure_word : List ℕ → Option ℕ → ℕ
structure_word numbers (Some number) = number_at numbers number
structure_word numbers None = 0

-- the words of a field, where structures have these numbers
unfoldable pub field_words : List ℕ → Field → List ℕ
field_words numbers f =
    name_words f.name
    ++ precision_word f.precision ∷ f.kind.array ∷ type_word f.kind.base ∷ structure_word numbers (structure_of f.kind.base) ∷ []

-- the shape of a structure in words
unfoldable pub shape : List ℕ → Struct → List ℕ
shape numbers s = name_words s.name ++ flat_map (field_words numbers) s.fields

-- no two shapes have one number, and each number is from 1 to their number
pub record Numbering (entries : Entries) : Type 0 where
  pub few : (words : List ℕ) (n : ℕ) → place_of_name entries words ≡ Some n → (0 < n) × (n ≤ length entries)
  pub once : (a b : List ℕ) (n : ℕ) → place_of_name entries a ≡ Some n → place_of_name entries b ≡ Some n → a ≡ b

-- what had a number has it still
pub record Keeps (old new : Entries) : Type 0 where
  pub kept : (words : List ℕ) (n : ℕ) → place_of_name old words ≡ Some n → place_of_name new words ≡ Some n

-- each structure has the number of its shape
pub record AreNumbered (entries : Entries) (structs : List Struct) (numbers : List ℕ) : Type 0 where
  pub all : length numbers ≡ length structs
  pub each : (place : ℕ) (s : Struct) → slice_get structs place ≡ Some s
      → place_of_name entries (shape (take place numbers) s) ≡ Some (slice_index numbers place)
