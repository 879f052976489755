-- When a texture is complete, and how its levels are built (OpenGL ES 2.0 sections 3.7.7, 3.7.10, 3.7.11 and 3.8.2).
use Rattle.std.specs.Prelude.{ℕ, Bool, true, false, ◌==◌, ◌&&◌, ◌||◌, not, nat_lt, Option, Some, None}
use Rattle.std.specs.Int.{is_power_of_two}
use Rattle.gl_numbers.specs.declared.texture_words.TexTarget.{TexTarget}
use Rattle.gl_numbers.specs.declared.texture_words.TexTarget.TheVariants as Target
use Rattle.gl_numbers.specs.TextureParameters.{clamp_to_edge, is_mipmap_filter, linear, nearest_mipmap_linear, repeat}
use Rattle.texel_rules.specs.declared.layouts.LevelInfo.{LevelInfo}
use Rattle.texel_rules.specs.Levels.{Levels, each_below, each_face, faces_of, first_face, is_level, is_reached, level_count, level_of}

-- the parameters of a texture, as GL words (OpenGL ES 2.0 section 3.7.4)
pub record Parameters : Type 0 where
  pub mag_filter : ℕ
  pub min_filter : ℕ
  pub wrap_s : ℕ
  pub wrap_t : ℕ

-- the parameters of a new texture (OpenGL ES 2.0 section 3.7.12)
abbrev pub first_parameters : Parameters
first_parameters = record { mag_filter = linear; min_filter = nearest_mipmap_linear; wrap_s = repeat; wrap_t = repeat }

-- whether both sides of a level are above 0
abbrev pub has_texels : LevelInfo → Bool
has_texels base = nat_lt 0 base.width && nat_lt 0 base.height

-- whether both sides of a level are powers of two
abbrev pub is_power_level : LevelInfo → Bool
is_power_level base = is_power_of_two base.width && is_power_of_two base.height

-- whether a base has the form of its target's: a cube's is a square
abbrev pub has_form : TexTarget → LevelInfo → Bool
has_form Target.Texture2d base = true
has_form Target.CubeMap base = base.width == base.height

-- whether the base is there on each face, with one size, format and type, has texels, and is square on a cube
abbrev pub are_bases : TexTarget → Levels → LevelInfo → Bool
are_bases target levels base =
    has_texels base && has_form target base && each_face (faces_of target) (λ face. is_level base (levels face 0))

-- whether a base may be sampled so: one that isn't a power of two only clamped, and without its other levels
abbrev pub is_sampled : Parameters → LevelInfo → Bool
is_sampled parameters base =
    is_power_level base
    || ((parameters.wrap_s == clamp_to_edge) && (parameters.wrap_t == clamp_to_edge) && not (is_mipmap_filter parameters.min_filter))

-- whether each level from the base to 1x1 is there on a face, each side half of the one before
abbrev pub are_levels : (ℕ → Option LevelInfo) → LevelInfo → Bool
are_levels levels base = each_below level_count (λ level. not (is_reached base level) || is_level (level_of base level) (levels level))

-- whether the levels that the minification filter reads are there on each face
abbrev pub are_mipmaps : TexTarget → Parameters → Levels → LevelInfo → Bool
are_mipmaps target parameters levels base =
    not (is_mipmap_filter parameters.min_filter) || each_face (faces_of target) (λ face. are_levels (levels face) base)

-- whether a texture is complete, by the base of its first face
abbrev pub is_complete_by : TexTarget → Parameters → Levels → Option LevelInfo → Bool
is_complete_by target parameters levels None = false
is_complete_by target parameters levels (Some base) =
    are_bases target levels base && is_sampled parameters base && are_mipmaps target parameters levels base

-- whether a texture is complete; one that never took a target isn't
abbrev pub is_texture_complete : Option TexTarget → Parameters → Levels → Bool
is_texture_complete None parameters levels = false
is_texture_complete (Some target) parameters levels = is_complete_by target parameters levels (levels (first_face target) 0)
