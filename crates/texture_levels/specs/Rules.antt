-- What each call refuses, each rule once, and what it does where nothing refuses (OpenGL ES 2.0 sections 3.7.1 to 3.7.13, WebGL
-- 1.0 section 5.14.8).
use Rattle.std.specs.Prelude.{◌≡◌, ℕ, ℤ, pos, negsuc, ◌+◌, ◌==◌, ◌||◌, not, nat_lt, Bool, true, false, if◌then◌else◌, Option, Some, None, is_some, Result, Ok, Err, List, [], ◌∷◌, slice_index_or}
use Rattle.std.specs.Option.{option_map_or}
use Rattle.gl_numbers.specs.declared.errors.GlError.{GlError}
use Rattle.std.specs.FinMap.{get}
use Rattle.gl_numbers.specs.declared.errors.GlError.TheVariants.{Operation}
use Rattle.gl_numbers.specs.declared.texture_words.TexTarget.{TexTarget}
use Rattle.gl_numbers.specs.declared.texture_words.Face.{Face}
use Rattle.gl_numbers.specs.Refusals.{Rule, first_refusal, invalid_enum, invalid_operation, invalid_value, when}
use Rattle.gl_numbers.specs.TextureWords.{texture_target_word}
use Rattle.gl_numbers.specs.TextureParameters.{is_magnification, is_minification, is_texture_parameter, is_wrap, texture_mag_filter, texture_min_filter, texture_wrap_s}
use Rattle.texel_rules.specs.declared.layouts.Layout.{Layout}
use Rattle.texel_rules.specs.declared.layouts.LevelInfo.{LevelInfo}
use Rattle.texel_rules.specs.Levels.{faces_of, first_face, is_same_layout}
use Rattle.texel_rules.specs.TextureComplete.{Parameters, are_bases, has_texels, is_power_level}
use Rattle.texture_levels.specs.Stored.{Stored}
use Rattle.texture_levels.specs.Texture.{Slots, Texture, built, levels_of, with_level}

-- a call returns its refusal, if it has one
abbrev pub Answers : Option GlError → Result (Unit {0}) GlError → Type 0
Answers refusal (Ok _) = refusal ≡ None
Answers refusal (Err e) = refusal ≡ Some e

-- bindTexture: the texture took the other target before (OpenGL ES 2.0 section 3.7.13)
abbrev pub other_target : TexTarget → Option TexTarget → Rule
other_target target taken =
    when (option_map_or (λ t. not (texture_target_word t == texture_target_word target)) taken false) invalid_operation

-- what taking a target is refused for
abbrev pub target_refusal : TexTarget → Option TexTarget → Option GlError
target_refusal target taken = first_refusal (other_target target taken ∷ [])

-- the texture has a target; the first that it took stays
abbrev pub with_target : TexTarget → Texture → Texture
with_target target texture = record texture { target = Some target }

-- whether a value is one of a parameter's
abbrev pub is_value : ℕ → ℤ → Bool
is_value name (negsuc n) = false
is_value name (pos n) =
    if name == texture_mag_filter then is_magnification n
    else (if name == texture_min_filter then is_minification n else is_wrap n)

-- a value as a word, if it is one of a parameter's
abbrev pub value_of : ℕ → ℤ → Option ℕ
value_of name (negsuc n) = None
value_of name (pos n) = if is_value name (pos n) then Some n else None

-- texParameteri: textures have no such parameter (OpenGL ES 2.0 section 3.7.4)
abbrev pub unknown_parameter : ℕ → Rule
unknown_parameter name = when (not (is_texture_parameter name)) invalid_enum

-- texParameteri: the parameter has no such value (OpenGL ES 2.0 section 3.7.4)
abbrev pub unknown_value : ℕ → ℤ → Rule
unknown_value name value = when (not (is_value name value)) invalid_enum

-- what texParameteri is refused for
abbrev pub parameter_refusal : ℕ → ℤ → Option GlError
parameter_refusal name value = first_refusal (unknown_parameter name ∷ unknown_value name value ∷ [])

-- a number without its sign, where it has none
abbrev pub word : ℤ → ℕ
word (pos n) = n
word (negsuc n) = 0

-- a parameter of a texture
abbrev pub parameter : ℕ → Parameters → ℕ
parameter name parameters =
    if name == texture_mag_filter then parameters.mag_filter
    else (if name == texture_min_filter then parameters.min_filter
    else (if name == texture_wrap_s then parameters.wrap_s else parameters.wrap_t))

-- a parameter with a value
abbrev pub with_parameter : ℕ → ℕ → Parameters → Parameters
with_parameter name value parameters =
    if name == texture_mag_filter then record parameters { mag_filter = value }
    else (if name == texture_min_filter then record parameters { min_filter = value }
    else (if name == texture_wrap_s then record parameters { wrap_s = value } else record parameters { wrap_t = value }))

-- the texture with a parameter changed
abbrev pub with_parameter_of : ℕ → ℕ → Texture → Texture
with_parameter_of name value texture = record texture { parameters = with_parameter name value texture.parameters }

-- a rectangle of texels, in texels
pub record Rectangle : Type 0 where
  pub x : ℤ
  pub y : ℤ
  pub width : ℤ
  pub height : ℤ

-- a rectangle written as x, y, width and height
abbrev pub rectangle : List ℤ → Rectangle
rectangle place = record {
  x = slice_index_or place 0 (pos 0);
  y = slice_index_or place 1 (pos 0);
  width = slice_index_or place 2 (pos 0);
  height = slice_index_or place 3 (pos 0);
}

-- where a part ends, if neither its place nor its length is negative
abbrev pub end_of : ℤ → ℤ → Option ℕ
end_of (pos at) (pos len) = Some (at + len)
end_of at len = None

-- whether a number is negative
abbrev pub is_negative : ℤ → Bool
is_negative (pos n) = false
is_negative (negsuc n) = true

-- texSubImage2D: a corner or a side of the rectangle is negative (OpenGL ES 2.0 section 3.7.2)
abbrev pub negative_rectangle : Rectangle → Rule
negative_rectangle r = when (is_negative r.x || is_negative r.y || is_negative r.width || is_negative r.height) invalid_value

-- texSubImage2D: the level was never specified (OpenGL ES 2.0 section 3.7.2)
abbrev pub no_level : Option LevelInfo → Rule
no_level level = when (not (is_some level)) invalid_operation

-- texSubImage2D: the rectangle isn't wholly inside the level (OpenGL ES 2.0 section 3.7.2)
abbrev pub outside_level : Rectangle → Option LevelInfo → Rule
outside_level r level =
    when (option_map_or (λ l. nat_lt l.width (word r.x + word r.width) || nat_lt l.height (word r.y + word r.height)) level false)
    invalid_value

-- texSubImage2D: the format or the type isn't the level's (WebGL 1.0 section 5.14.8)
abbrev pub other_layout : Layout → Option LevelInfo → Rule
other_layout layout level = when (option_map_or (λ l. not (is_same_layout layout l.layout)) level false) invalid_operation

-- what texSubImage2D is refused for by its level
abbrev pub sub_image_refusal : Rectangle → Layout → Option LevelInfo → Option GlError
sub_image_refusal r layout level =
    first_refusal (negative_rectangle r ∷ no_level level ∷ outside_level r level ∷ other_layout layout level ∷ [])

-- the base of the first face of a target, if there is a target
abbrev pub base_by : Option TexTarget → Slots → Option LevelInfo
base_by None slots = None
base_by (Some target) slots = levels_of slots (first_face target) 0

-- generateMipmap: the base is absent or has no texels (OpenGL ES 2.0 section 3.7.11)
abbrev pub no_base : Option LevelInfo → Rule
no_base base = when (not (option_map_or has_texels base false)) invalid_operation

-- generateMipmap: a side of the base is no power of two (OpenGL ES 2.0 section 3.7.11)
abbrev pub odd_base : Option LevelInfo → Rule
odd_base base = when (option_map_or (λ b. not (is_power_level b)) base false) invalid_operation

-- generateMipmap: the bases of a cube map aren't six squares of one size, format and type (OpenGL ES 2.0 section 3.7.11)
abbrev pub unlike_bases : TexTarget → Slots → Option LevelInfo → Rule
unlike_bases target slots base = when (option_map_or (λ b. not (are_bases target (levels_of slots) b)) base false) invalid_operation

-- what generateMipmap is refused for, by the target that the texture took
abbrev pub mipmap_refusal : Option TexTarget → Slots → Option GlError
mipmap_refusal None slots = first_refusal (no_base None ∷ [])
mipmap_refusal (Some target) slots =
    first_refusal
    (no_base (base_by (Some target) slots) ∷ odd_base (base_by (Some target) slots)
    ∷ unlike_bases target slots (base_by (Some target) slots) ∷ [])

-- what generateMipmap is refused for; a texture that isn't there has no base
abbrev pub mipmap_refusal_at : Stored → ℕ → Option GlError
mipmap_refusal_at stored h = option_map_or (λ t. mipmap_refusal t.target t.slots) (get stored h) (Some Operation)

-- a parameter of a texture, and 0 where it isn't there
abbrev pub parameter_at : Stored → ℕ → ℕ → ℕ
parameter_at stored h name = option_map_or (λ t. parameter name t.parameters) (get stored h) 0

-- the levels of a texture of this target built from its base
abbrev pub built_by : TexTarget → Option LevelInfo → Slots → Slots
built_by target None slots = slots
built_by target (Some base) slots = built (faces_of target) base slots

-- the levels of a texture built from its base, if it took a target
abbrev pub built_of : Option TexTarget → Slots → Slots
built_of None slots = slots
built_of (Some target) slots = built_by target (base_by (Some target) slots) slots

-- the texture with its levels built from its base (generateMipmap, OpenGL ES 2.0 section 3.7.11)
abbrev pub with_mipmaps : Texture → Texture
with_mipmaps texture = record texture { slots = built_of texture.target texture.slots }

-- the texture with one level specified (texImage2D, OpenGL ES 2.0 section 3.7.1)
abbrev pub with_level_of : Face → ℕ → LevelInfo → Texture → Texture
with_level_of face level info texture = record texture { slots = with_level face level info texture.slots }
