-- The words of texture targets, faces, formats and types of texels (OpenGL ES 2.0 sections 3.6.2, 3.7.1 and 3.7.13).
use Rattle.std.specs.Prelude.{ℕ, Option, Some, None, ◌==◌, if◌then◌else◌}
use Rattle.gl_numbers.specs.declared.texture_words.TexTarget.{TexTarget}
use Rattle.gl_numbers.specs.declared.texture_words.TexTarget.TheVariants.{CubeMap}
use Rattle.gl_numbers.specs.declared.texture_words.TexTarget.TheVariants as Target
use Rattle.gl_numbers.specs.declared.texture_words.Face.{Face}
use Rattle.gl_numbers.specs.declared.texture_words.Face.TheVariants.{Texture2d, PositiveX, NegativeX, PositiveY, NegativeY, PositiveZ, NegativeZ}
use Rattle.gl_numbers.specs.declared.texture_words.Format.{Format}
use Rattle.gl_numbers.specs.declared.texture_words.Format.TheVariants.{Alpha, Rgb, Rgba, Luminance, LuminanceAlpha}
use Rattle.gl_numbers.specs.declared.texture_words.TexelType.{TexelType}
use Rattle.gl_numbers.specs.declared.texture_words.TexelType.TheVariants.{UnsignedByte, UnsignedShort4444, UnsignedShort5551, UnsignedShort565}

-- the word of a target: TEXTURE_2D 0x0DE1, TEXTURE_CUBE_MAP 0x8513
abbrev pub texture_target_word : TexTarget → ℕ
texture_target_word Target.Texture2d = 3553
texture_target_word CubeMap = 34067

-- the texture target of a word, if it is one
abbrev pub texture_target_of : ℕ → Option TexTarget
texture_target_of n =
    if n == texture_target_word Target.Texture2d then Some Target.Texture2d
    else (if n == texture_target_word CubeMap then Some CubeMap else None)

-- the word of a face: TEXTURE_2D 0x0DE1, and the six faces of a cube map from 0x8515 to 0x851A
abbrev pub face_word : Face → ℕ
face_word Texture2d = 3553
face_word PositiveX = 34069
face_word NegativeX = 34070
face_word PositiveY = 34071
face_word NegativeY = 34072
face_word PositiveZ = 34073
face_word NegativeZ = 34074

-- the face of a word, if it is one
abbrev pub face_of : ℕ → Option Face
face_of n =
    if n == face_word Texture2d then Some Texture2d
    else (if n == face_word PositiveX then Some PositiveX
    else (if n == face_word NegativeX then Some NegativeX
    else (if n == face_word PositiveY then Some PositiveY
    else (if n == face_word NegativeY then Some NegativeY
    else (if n == face_word PositiveZ then Some PositiveZ
    else (if n == face_word NegativeZ then Some NegativeZ else None))))))

-- the target of the textures that have a face
abbrev pub face_target : Face → TexTarget
face_target Texture2d = Target.Texture2d
face_target PositiveX = CubeMap
face_target NegativeX = CubeMap
face_target PositiveY = CubeMap
face_target NegativeY = CubeMap
face_target PositiveZ = CubeMap
face_target NegativeZ = CubeMap

-- the word of a format: ALPHA 0x1906, RGB 0x1907, RGBA 0x1908, LUMINANCE 0x1909, LUMINANCE_ALPHA 0x190A
abbrev pub format_word : Format → ℕ
format_word Alpha = 6406
format_word Rgb = 6407
format_word Rgba = 6408
format_word Luminance = 6409
format_word LuminanceAlpha = 6410

-- the format of a word, if it is one
abbrev pub format_of : ℕ → Option Format
format_of n =
    if n == format_word Alpha then Some Alpha
    else (if n == format_word Rgb then Some Rgb
    else (if n == format_word Rgba then Some Rgba
    else (if n == format_word Luminance then Some Luminance
    else (if n == format_word LuminanceAlpha then Some LuminanceAlpha else None))))

-- the word of a type of texels: UNSIGNED_BYTE 0x1401, UNSIGNED_SHORT_4_4_4_4 0x8033, _5_5_5_1 0x8034 and _5_6_5 0x8363
abbrev pub texel_type_word : TexelType → ℕ
texel_type_word UnsignedByte = 5121
texel_type_word UnsignedShort4444 = 32819
texel_type_word UnsignedShort5551 = 32820
texel_type_word UnsignedShort565 = 33635

-- the type of texels of a word, if it is one
abbrev pub texel_type_of : ℕ → Option TexelType
texel_type_of n =
    if n == texel_type_word UnsignedByte then Some UnsignedByte
    else (if n == texel_type_word UnsignedShort4444 then Some UnsignedShort4444
    else (if n == texel_type_word UnsignedShort5551 then Some UnsignedShort5551
    else (if n == texel_type_word UnsignedShort565 then Some UnsignedShort565 else None)))
