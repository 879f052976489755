-- Types with their array sizes (GLSL ES 1.00.17 section 4.1.9).
use Rattle.std.specs.Prelude.{◌==◌, Bool, ◌&&◌}
use Rattle.glsl_types.specs.declared.bases.Base.{Base}
use Rattle.glsl_types.specs.declared.types.SlType.{SlType}
use Rattle.glsl_types.specs.Bases.{same_base}

-- a type that is no array
abbrev pub plain_type : Base → SlType
plain_type base = record { base = base; array = 0 }

-- whether two types are one
abbrev pub same_type : SlType → SlType → Bool
same_type a b = a.array == b.array && same_base a.base b.base
