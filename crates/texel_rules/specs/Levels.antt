-- Levels of a texture: their sizes and which of them there are (OpenGL ES 2.0 sections 3.7.1 and 3.7.7).
use Rattle.std.specs.Prelude.{ℕ, zero, suc, ◌/◌, ◌^◌, max, Bool, true, false, ◌==◌, ◌&&◌, nat_le, Option, Some, None, List, [], ◌∷◌}
use Rattle.gl_numbers.specs.declared.texture_words.TexTarget.{TexTarget}
use Rattle.gl_numbers.specs.declared.texture_words.TexTarget.TheVariants as Target
use Rattle.gl_numbers.specs.declared.texture_words.Face.{Face}
use Rattle.gl_numbers.specs.declared.texture_words.Face.TheVariants.{Texture2d, PositiveX, NegativeX, PositiveY, NegativeY, PositiveZ, NegativeZ}
use Rattle.gl_numbers.specs.TextureWords.{format_word, texel_type_word}
use Rattle.texel_rules.specs.declared.layouts.Layout.{Layout}
use Rattle.texel_rules.specs.declared.layouts.LevelInfo.{LevelInfo}

-- how many levels a face has at most, from 2048x2048 to 1x1
abbrev pub level_count : ℕ
level_count = 12

-- the levels of a texture, by face and number; a level may be absent
abbrev pub Levels : Type 0
Levels = Face → ℕ → Option LevelInfo

-- the faces of the textures of a target
abbrev pub faces_of : TexTarget → List Face
faces_of Target.Texture2d = Texture2d ∷ []
faces_of Target.CubeMap = PositiveX ∷ NegativeX ∷ PositiveY ∷ NegativeY ∷ PositiveZ ∷ NegativeZ ∷ []

-- the face whose base stands for the texture's
abbrev pub first_face : TexTarget → Face
first_face Target.Texture2d = Texture2d
first_face Target.CubeMap = PositiveX

-- whether two layouts have one format and one type
abbrev pub is_same_layout : Layout → Layout → Bool
is_same_layout a b = (format_word a.format == format_word b.format) && (texel_type_word a.kind == texel_type_word b.kind)

-- whether a level is there, with this size, format and type
abbrev pub is_level : LevelInfo → Option LevelInfo → Bool
is_level wanted None = false
is_level wanted (Some level) = (level.width == wanted.width) && (level.height == wanted.height) && is_same_layout level.layout wanted.layout

-- the side of a level: the base's halved `level` times, rounded down, and at least 1
abbrev pub level_side : ℕ → ℕ → ℕ
level_side base level = max 1 (base / 2 ^ level)

-- what a level is, by its base
abbrev pub level_of : LevelInfo → ℕ → LevelInfo
level_of base level = record base { width = level_side base.width level; height = level_side base.height level }

-- whether a level is one of those from the base to 1x1
abbrev pub is_reached : LevelInfo → ℕ → Bool
is_reached base level = nat_le (2 ^ level) (max base.width base.height)

-- whether a test holds at each number below n
unfoldable pub each_below : ℕ → (ℕ → Bool) → Bool
each_below zero test = true
each_below (suc n) test = each_below n test && test n

-- whether a test holds at each face of a list
abbrev pub each_face : List Face → (Face → Bool) → Bool
each_face [] test = true
each_face (face ∷ faces) test = test face && each_face faces test
