-- What getParameter is asked for (WebGL 1.0 section 5.14.3; OpenGL ES 2.0 section 6.2), by the part of the state that has it.
use Rattle.std.specs.Prelude.{ℕ, Option, Some, None, ◌==◌, if◌then◌else◌}
use Rattle.gl_numbers.specs.Limits.{vertex_attribs_max, image_side_max, vertex_uniform_vectors_max, fragment_uniform_vectors_max, varying_vectors_max, texture_units_max, vertex_texture_units_max, combined_texture_units_max}
use Rattle.gl_numbers.specs.PixelWords.{pixel_parameter_of}
use Rattle.gl_numbers.specs.declared.buffer_words.BufferTarget.{BufferTarget}
use Rattle.gl_numbers.specs.declared.buffer_words.BufferTarget.TheVariants.{Array, ElementArray}
use Rattle.gl_numbers.specs.declared.parameters.RasterParameter.{RasterParameter}
use Rattle.gl_numbers.specs.declared.parameters.RasterParameter.TheVariants.{CullSide, Winding, DepthMask, DepthFunc, ClearStencil, Viewport, Scissor, ClearColor, ColorMask, BlendColor}
use Rattle.gl_numbers.specs.declared.parameters.Limit as Limits
use Rattle.gl_numbers.specs.declared.parameters.Limit.TheVariants as limit
use Rattle.gl_numbers.specs.declared.parameters.Parameter as Parameters
use Rattle.gl_numbers.specs.declared.parameters.Parameter.TheVariants.{Bound, Pixel, Raster, Limit}

-- the target whose bound buffer a word asks for, if it does: ARRAY_BUFFER_BINDING 0x8894, ELEMENT_ARRAY_BUFFER_BINDING 0x8895
abbrev pub bound_target_of : ℕ → Option BufferTarget
bound_target_of n = if n == 34964 then Some Array else (if n == 34965 then Some ElementArray else None)

-- the word of raster state: CULL_FACE_MODE 0x0B45, FRONT_FACE 0x0B46, DEPTH_WRITEMASK 0x0B72, DEPTH_FUNC 0x0B74, STENCIL_CLEAR_VALUE
-- 0x0B91, VIEWPORT 0x0BA2, SCISSOR_BOX 0x0C10, COLOR_CLEAR_VALUE 0x0C22, COLOR_WRITEMASK 0x0C23, BLEND_COLOR 0x8005
abbrev pub raster_parameter_word : RasterParameter → ℕ
raster_parameter_word CullSide = 2885
raster_parameter_word Winding = 2886
raster_parameter_word DepthMask = 2930
raster_parameter_word DepthFunc = 2932
raster_parameter_word ClearStencil = 2961
raster_parameter_word Viewport = 2978
raster_parameter_word Scissor = 3088
raster_parameter_word ClearColor = 3106
raster_parameter_word ColorMask = 3107
raster_parameter_word BlendColor = 32773

-- the raster state of a word, if it is any
unfoldable pub raster_parameter_of : ℕ → Option RasterParameter
raster_parameter_of n =
    if n == raster_parameter_word CullSide then Some CullSide
    else (if n == raster_parameter_word Winding then Some Winding
    else (if n == raster_parameter_word DepthMask then Some DepthMask
    else (if n == raster_parameter_word DepthFunc then Some DepthFunc
    else (if n == raster_parameter_word ClearStencil then Some ClearStencil
    else (if n == raster_parameter_word Viewport then Some Viewport
    else (if n == raster_parameter_word Scissor then Some Scissor
    else (if n == raster_parameter_word ClearColor then Some ClearColor
    else (if n == raster_parameter_word ColorMask then Some ColorMask
    else (if n == raster_parameter_word BlendColor then Some BlendColor else None)))))))))

-- the word of a limit: MAX_TEXTURE_SIZE 0x0D33, MAX_CUBE_MAP_TEXTURE_SIZE 0x851C, MAX_RENDERBUFFER_SIZE 0x84E8, MAX_VERTEX_ATTRIBS
-- 0x8869, MAX_VERTEX_UNIFORM_VECTORS 0x8DFB, MAX_VARYING_VECTORS 0x8DFC, MAX_FRAGMENT_UNIFORM_VECTORS 0x8DFD,
-- MAX_TEXTURE_IMAGE_UNITS 0x8872, MAX_VERTEX_TEXTURE_IMAGE_UNITS 0x8B4C, MAX_COMBINED_TEXTURE_IMAGE_UNITS 0x8B4D
abbrev pub limit_word : Limits.Limit → ℕ
limit_word limit.TextureSize = 3379
limit_word limit.CubeMapSize = 34076
limit_word limit.RenderbufferSize = 34024
limit_word limit.VertexAttribs = 34921
limit_word limit.VertexUniformVectors = 36347
limit_word limit.VaryingVectors = 36348
limit_word limit.FragmentUniformVectors = 36349
limit_word limit.TextureUnits = 34930
limit_word limit.VertexTextureUnits = 35660
limit_word limit.CombinedTextureUnits = 35661

-- the limit of a word, if it is one
unfoldable pub limit_of : ℕ → Option Limits.Limit
limit_of n =
    if n == limit_word limit.TextureSize then Some limit.TextureSize
    else (if n == limit_word limit.CubeMapSize then Some limit.CubeMapSize
    else (if n == limit_word limit.RenderbufferSize then Some limit.RenderbufferSize
    else (if n == limit_word limit.VertexAttribs then Some limit.VertexAttribs
    else (if n == limit_word limit.VertexUniformVectors then Some limit.VertexUniformVectors
    else (if n == limit_word limit.VaryingVectors then Some limit.VaryingVectors
    else (if n == limit_word limit.FragmentUniformVectors then Some limit.FragmentUniformVectors
    else (if n == limit_word limit.TextureUnits then Some limit.TextureUnits
    else (if n == limit_word limit.VertexTextureUnits then Some limit.VertexTextureUnits
    else (if n == limit_word limit.CombinedTextureUnits then Some limit.CombinedTextureUnits else None)))))))))

-- a limit
abbrev pub limit_value : Limits.Limit → ℕ
limit_value limit.TextureSize = image_side_max
limit_value limit.CubeMapSize = image_side_max
limit_value limit.RenderbufferSize = image_side_max
limit_value limit.VertexAttribs = vertex_attribs_max
limit_value limit.VertexUniformVectors = vertex_uniform_vectors_max
limit_value limit.VaryingVectors = varying_vectors_max
limit_value limit.FragmentUniformVectors = fragment_uniform_vectors_max
limit_value limit.TextureUnits = texture_units_max
limit_value limit.VertexTextureUnits = vertex_texture_units_max
limit_value limit.CombinedTextureUnits = combined_texture_units_max

-- one part's parameter, if the word is one, else that of the other parts
abbrev pub or_other : {P : Type 0} → (P → Parameters.Parameter) → Option P → Option Parameters.Parameter → Option Parameters.Parameter
or_other part (Some parameter) others = Some (part parameter)
or_other part None others = others

-- what a word asks for, if it is anything
unfoldable pub parameter_of : ℕ → Option Parameters.Parameter
parameter_of n =
    or_other Bound (bound_target_of n) (or_other Pixel (pixel_parameter_of n)
    (or_other Raster (raster_parameter_of n) (or_other Limit (limit_of n) None)))
