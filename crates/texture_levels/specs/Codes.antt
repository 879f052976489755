-- How textures are told apart: each is a tuple of its parts.
use Rattle.std.specs.Prelude.{◌≡◌, ℕ, ◌==◌, if◌then◌else◌, Option, refl}
use Rattle.std.specs.Coded.{Coded, code_by, coded_list, coded_option, coded×, coded_ℕ}
use Rattle.std.specs.Ordering.{nat_cmp}
use Rattle.std.specs.FinMap.{code}
use Rattle.gl_numbers.specs.declared.texture_words.TexTarget.{TexTarget}
use Rattle.gl_numbers.specs.declared.texture_words.TexTarget.TheVariants as Target
use Rattle.gl_numbers.specs.declared.texture_words.Format.{Format}
use Rattle.gl_numbers.specs.declared.texture_words.Format.TheVariants.{Alpha, Rgb, Rgba, Luminance, LuminanceAlpha}
use Rattle.gl_numbers.specs.declared.texture_words.TexelType.{TexelType}
use Rattle.gl_numbers.specs.declared.texture_words.TexelType.TheVariants.{UnsignedByte, UnsignedShort4444, UnsignedShort5551, UnsignedShort565}
use Rattle.gl_numbers.specs.TextureWords.{format_word, texel_type_word, texture_target_word}
use Rattle.texel_rules.specs.declared.layouts.LevelInfo.{LevelInfo}
use Rattle.texel_rules.specs.TextureComplete.{Parameters}
use Rattle.texture_levels.specs.Texture.{Slots, Texture}
use Rattle.texture_levels.specs.Stored.{Stored}

-- a target, by its word
abbrev target_of_word : ℕ → TexTarget
target_of_word n = if n == texture_target_word Target.Texture2d then Target.Texture2d else Target.CubeMap

-- each target again, by its word
pub target_again : (t : TexTarget) → target_of_word (texture_target_word t) ≡ t
target_again Target.Texture2d = refl
target_again Target.CubeMap = refl

-- a format, by its word
abbrev format_of_word : ℕ → Format
format_of_word n =
    if n == format_word Alpha then Alpha
    else (if n == format_word Rgb then Rgb
    else (if n == format_word Rgba then Rgba
    else (if n == format_word Luminance then Luminance else LuminanceAlpha)))

-- each format again, by its word
pub format_again : (f : Format) → format_of_word (format_word f) ≡ f
format_again Alpha = refl
format_again Rgb = refl
format_again Rgba = refl
format_again Luminance = refl
format_again LuminanceAlpha = refl

-- a type, by its word
abbrev type_of_word : ℕ → TexelType
type_of_word n =
    if n == texel_type_word UnsignedByte then UnsignedByte
    else (if n == texel_type_word UnsignedShort4444 then UnsignedShort4444
    else (if n == texel_type_word UnsignedShort5551 then UnsignedShort5551 else UnsignedShort565))

-- each type again, by its word
pub type_again : (t : TexelType) → type_of_word (texel_type_word t) ≡ t
type_again UnsignedByte = refl
type_again UnsignedShort4444 = refl
type_again UnsignedShort5551 = refl
type_again UnsignedShort565 = refl

-- a target
abbrev pub target_code : Coded TexTarget
target_code = code_by ℕ coded_ℕ texture_target_word target_of_word target_again

-- a format
abbrev pub format_code : Coded Format
format_code = code_by ℕ coded_ℕ format_word format_of_word format_again

-- a type
abbrev pub type_code : Coded TexelType
type_code = code_by ℕ coded_ℕ texel_type_word type_of_word type_again

-- a level
abbrev pub level_code : Coded LevelInfo
level_code =
    code_by ((ℕ × ℕ) × (Format × TexelType)) (coded× (coded× coded_ℕ coded_ℕ) (coded× format_code type_code))
    (λ l. ((l.width, l.height), (l.layout.format, l.layout.kind)))
    (λ p. record { width = p.0.0; height = p.0.1; layout = record { format = p.1.0; kind = p.1.1 } }) (λ _. refl)

-- the levels of a texture
abbrev pub slots_code : Coded Slots
slots_code = coded_list (coded_option level_code)

-- the parameters of a texture
abbrev pub parameters_code : Coded Parameters
parameters_code =
    code_by ((ℕ × ℕ) × (ℕ × ℕ)) (coded× (coded× coded_ℕ coded_ℕ) (coded× coded_ℕ coded_ℕ))
    (λ p. ((p.mag_filter, p.min_filter), (p.wrap_s, p.wrap_t)))
    (λ p. record { mag_filter = p.0.0; min_filter = p.0.1; wrap_s = p.1.0; wrap_t = p.1.1 }) (λ _. refl)

-- a texture
abbrev pub texture_code : Coded Texture
texture_code =
    code_by (Option TexTarget × (Parameters × Slots)) (coded× (coded_option target_code) (coded× parameters_code slots_code))
    (λ t. (t.target, (t.parameters, t.slots))) (λ p. record { target = p.0; parameters = p.1.0; slots = p.1.1 }) (λ _. refl)

-- all textures
abbrev pub stored_code : Coded Stored
stored_code = code {R = nat_cmp} coded_ℕ texture_code
