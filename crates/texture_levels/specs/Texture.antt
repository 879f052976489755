-- One texture: its target, its parameters and its levels (OpenGL ES 2.0 sections 3.7.1, 3.7.4 and 3.7.13).
use Rattle.std.specs.Prelude.{ℕ, zero, suc, ◌+◌, ◌*◌, ◌&&◌, nat_lt, Bool, if◌then◌else◌, Option, Some, None, List, [], ◌∷◌, replicate, slice_index_or, slice_set}
use Rattle.gl_numbers.specs.declared.texture_words.TexTarget.{TexTarget}
use Rattle.gl_numbers.specs.declared.texture_words.Face.{Face}
use Rattle.gl_numbers.specs.declared.texture_words.Face.TheVariants.{Texture2d, PositiveX, NegativeX, PositiveY, NegativeY, PositiveZ, NegativeZ}
use Rattle.texel_rules.specs.declared.layouts.LevelInfo.{LevelInfo}
use Rattle.texel_rules.specs.Levels.{Levels, is_reached, level_count, level_of}
use Rattle.texel_rules.specs.TextureComplete.{Parameters, first_parameters, is_texture_complete}

-- the levels of all faces, the base of each face first
abbrev pub Slots : Type 0
Slots = List (Option LevelInfo)

-- a texture; it has no target until it is bound first
pub record Texture : Type 0 where
  pub target : Option TexTarget
  pub parameters : Parameters
  pub slots : Slots

-- how many slots a texture has: the levels of the face of a two-dimensional texture and of the six of a cube map
abbrev pub slot_count : ℕ
slot_count = 84

-- the number of a face
abbrev pub face_number : Face → ℕ
face_number Texture2d = 0
face_number PositiveX = 1
face_number NegativeX = 2
face_number PositiveY = 3
face_number NegativeY = 4
face_number PositiveZ = 5
face_number NegativeZ = 6

-- the place of a level of a face
abbrev pub place : Face → ℕ → ℕ
place face level = face_number face * level_count + level

-- the levels in these slots
abbrev pub levels_of : Slots → Levels
levels_of slots face level = if nat_lt level level_count then slice_index_or slots (place face level) None else None

-- these slots with one level specified
abbrev pub with_level : Face → ℕ → LevelInfo → Slots → Slots
with_level face level info slots = slice_set slots (place face level) (Some info)

-- these slots with the levels of a face below n built from the base, as far as they are reached
unfoldable pub built_below : ℕ → Face → LevelInfo → Slots → Slots
built_below zero face base slots = slots
built_below (suc level) face base slots =
    if nat_lt 0 level && is_reached base level then with_level face level (level_of base level) (built_below level face base slots)
    else built_below level face base slots

-- these slots with each level of these faces built from the base (generateMipmap, OpenGL ES 2.0 section 3.7.11)
abbrev pub built : List Face → LevelInfo → Slots → Slots
built [] base slots = slots
built (face ∷ faces) base slots = built faces base (built_below level_count face base slots)

-- a new texture: no target, the first parameters and no level (OpenGL ES 2.0 section 3.7.12)
abbrev pub new_texture : Texture
new_texture = record { target = None; parameters = first_parameters; slots = replicate slot_count None }

-- whether a texture is complete
abbrev pub is_complete : Texture → Bool
is_complete texture = is_texture_complete texture.target texture.parameters (levels_of texture.slots)
