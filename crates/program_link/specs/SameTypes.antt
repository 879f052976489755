-- Whether types of two shaders are one (GLSL ES 1.00.17 section 4.3.4; structures by this project's rule): two structures of two shaders
-- are one where both have the same name or none, and the same fields in order, with names, types and precisions.
use Rattle.std.specs.Prelude.{ℕ, zero, suc, ◌-◌, ◌+◌, ◌==◌, if◌then◌else◌, Bool, true, false, ◌&&◌, Option, Some, None, List, length, slice_get, take}
use Rattle.std.specs.Cmp.Lexicographic.{pointwise}
use Rattle.std.specs.Str.{bytes_eq}
use Rattle.glsl_types.specs.Bases.{same_base}
use Rattle.glsl_types.specs.declared.bases.Base.{Base}
use Rattle.glsl_types.specs.declared.bases.Base.TheVariants.{Struct as structure}
use Rattle.glsl_types.specs.declared.types.Field.{Field}
use Rattle.glsl_types.specs.declared.types.Precision.{Precision}
use Rattle.glsl_types.specs.declared.types.Precision.TheVariants as precision
use Rattle.glsl_types.specs.declared.types.SlType.{SlType}
use Rattle.glsl_types.specs.declared.types.Struct.{Struct}

-- a structure by its number among those of its shader, from 1
abbrev pub structure_at : List Struct → ℕ → Option Struct
structure_at structs number = if number == 0 then None else slice_get structs (number - 1)

-- whether two precisions are one
abbrev pub same_precision : Precision → Precision → Bool
same_precision precision.Unset precision.Unset = true
same_precision precision.Low precision.Low = true
same_precision precision.Medium precision.Medium = true
same_precision precision.High precision.High = true
same_precision _ _ = false

-- whether two fields are one, by a test of their types
abbrev pub same_field : (SlType → SlType → Bool) → Field → Field → Bool
same_field same f g = bytes_eq f.name g.name && (same_precision f.precision g.precision && same f.kind g.kind)

-- the structures that are declared before one
abbrev pub before : List Struct → ℕ → List Struct
before structs number = take (number - 1) structs

-- whether two structures are one, by a test of the types of their fields; two that aren't there are one
abbrev pub same_structure : (SlType → SlType → Bool) → Option Struct → Option Struct → Bool
same_structure same (Some a) (Some b) = bytes_eq a.name b.name && pointwise (same_field same) a.fields b.fields
same_structure same (Some a) None = false
same_structure same None (Some b) = false
same_structure same None None = true

-- the number of a structure, of a type that is one
abbrev pub structure_of : Base → Option ℕ
structure_of (structure number) = Some number
structure_of _ = None

-- whether two types but for their array sizes are one, by a test of the types of fields
abbrev pub same_by : (ℕ → ℕ → SlType → SlType → Bool) → List Struct → List Struct → Base → Base → Option ℕ → Option ℕ → Bool
same_by same ones others a b (Some m) (Some n) = same_structure (same m n) (structure_at ones m) (structure_at others n)
same_by same ones others a b (Some m) None = false
same_by same ones others a b None n = same_base a b

-- whether types of two shaders are one, where structures stand at most so deep in one another; the fields of a structure are of types
-- that are declared before it
unfoldable pub same_to_depth : ℕ → List Struct → List Struct → SlType → SlType → Bool
same_to_depth zero ones others a b = false
same_to_depth (suc depth) ones others a b =
    a.array == b.array
    && same_by (λ m n. same_to_depth depth (before ones m) (before others n)) ones others a.base b.base (structure_of a.base)
    (structure_of b.base)

-- whether types of two shaders with these structures are one
abbrev pub same_across : List Struct → List Struct → SlType → SlType → Bool
same_across ones others = same_to_depth (length ones + 1) ones others
