-- What refuses the calls that set raster state: each rule once, over the words that decide it, and the rules of each call in the
-- order in which they apply.
use Rattle.std.specs.Prelude.{ℕ, ℤ, not, ◌&&◌, ◌||◌, is_some, List, [], ◌∷◌}
use Rattle.gl_numbers.specs.BufferRules.{is_negative}
use Rattle.gl_numbers.specs.Capabilities.{capability_of}
use Rattle.gl_numbers.specs.RasterWords.{is_blend_equation, is_comparison, is_constant_alpha, is_constant_color, is_destination_factor, is_source_factor, is_stencil_operation, is_winding, side_of}
use Rattle.gl_numbers.specs.Refusals.{Rule, when, invalid_enum, invalid_value, invalid_operation}
use Rattle.call_records.specs.declared.color_calls.ColorCall.{ColorCall}
use Rattle.call_records.specs.declared.color_calls.ColorCall.TheVariants.{BlendColor, BlendEquationSeparate, BlendFuncSeparate, ColorMask, ClearColor}
use Rattle.call_records.specs.declared.depth_stencil_calls.DepthStencilCall.{DepthStencilCall}
use Rattle.call_records.specs.declared.depth_stencil_calls.DepthStencilCall.TheVariants.{DepthFunc, DepthMask, StencilFuncSeparate, StencilMaskSeparate, StencilOpSeparate, ClearStencil}
use Rattle.call_records.specs.declared.view_calls.ViewCall.{ViewCall}
use Rattle.call_records.specs.declared.view_calls.ViewCall.TheVariants.{Capability, CullFace, FrontFace, Viewport, Scissor}
use Rattle.call_records.specs.declared.raster_calls.RasterCall.{RasterCall}
use Rattle.call_records.specs.declared.raster_calls.RasterCall.TheVariants.{Color, DepthStencil, View}

-- the word is no capability (WebGL 1.0 section 5.14.3)
abbrev pub bad_capability : ℕ → Rule
bad_capability word = when (not (is_some (capability_of word))) invalid_enum

-- the word is none of FRONT, BACK and FRONT_AND_BACK (OpenGL ES 2.0 sections 3.5.1 and 4.1.4)
abbrev pub bad_side : ℕ → Rule
bad_side word = when (not (is_some (side_of word))) invalid_enum

-- the word is neither CW nor CCW (OpenGL ES 2.0 section 3.5.1)
abbrev pub bad_winding : ℕ → Rule
bad_winding word = when (not (is_winding word)) invalid_enum

-- the word is no comparison (OpenGL ES 2.0 sections 4.1.4 and 4.1.5)
abbrev pub bad_comparison : ℕ → Rule
bad_comparison word = when (not (is_comparison word)) invalid_enum

-- the word is no stencil operation (OpenGL ES 2.0 section 4.1.4)
abbrev pub bad_operation : ℕ → Rule
bad_operation word = when (not (is_stencil_operation word)) invalid_enum

-- the word is no blend equation (OpenGL ES 2.0 section 4.1.6)
abbrev pub bad_equation : ℕ → Rule
bad_equation word = when (not (is_blend_equation word)) invalid_enum

-- the word is no blend factor of the source (OpenGL ES 2.0 section 4.1.6)
abbrev pub bad_source_factor : ℕ → Rule
bad_source_factor word = when (not (is_source_factor word)) invalid_enum

-- the word is no blend factor of the destination (OpenGL ES 2.0 section 4.1.6)
abbrev pub bad_destination_factor : ℕ → Rule
bad_destination_factor word = when (not (is_destination_factor word)) invalid_enum

-- one factor is of the constant colour, and the other of the constant alpha value (WebGL 1.0 section 6.13)
abbrev pub mixed_constants : ℕ → ℕ → Rule
mixed_constants source destination =
    when ((is_constant_color source && is_constant_alpha destination) || (is_constant_alpha source && is_constant_color destination))
    invalid_operation

-- the width or the height is negative (OpenGL ES 2.0 sections 2.12.1 and 4.1.2)
abbrev pub negative_extent : ℤ → ℤ → Rule
negative_extent width height = when (is_negative width || is_negative height) invalid_value

-- blendFuncSeparate: each factor, and then the constants among those of colours
abbrev pub factor_rules : ℕ → ℕ → ℕ → ℕ → List Rule
factor_rules src_rgb dst_rgb src_alpha dst_alpha =
    bad_source_factor src_rgb
    ∷ bad_destination_factor dst_rgb
    ∷ bad_source_factor src_alpha
    ∷ bad_destination_factor dst_alpha
    ∷ mixed_constants src_rgb dst_rgb
    ∷ []

-- stencilOpSeparate: the face, and then each operation
abbrev pub operation_rules : ℕ → ℕ → ℕ → ℕ → List Rule
operation_rules face fail depth_fail depth_pass =
    bad_side face ∷ bad_operation fail ∷ bad_operation depth_fail ∷ bad_operation depth_pass ∷ []

-- the rules of a call about colours
abbrev pub color_rules : ColorCall → List Rule
color_rules (BlendColor red green blue alpha) = []
color_rules (BlendEquationSeparate rgb alpha) = bad_equation rgb ∷ bad_equation alpha ∷ []
color_rules (BlendFuncSeparate src_rgb dst_rgb src_alpha dst_alpha) = factor_rules src_rgb dst_rgb src_alpha dst_alpha
color_rules (ColorMask red green blue alpha) = []
color_rules (ClearColor red green blue alpha) = []

-- the rules of a call about depths and stencil values
abbrev pub depth_stencil_rules : DepthStencilCall → List Rule
depth_stencil_rules (DepthFunc func) = bad_comparison func ∷ []
depth_stencil_rules (DepthMask flag) = []
depth_stencil_rules (StencilFuncSeparate face func reference mask) = bad_side face ∷ bad_comparison func ∷ []
depth_stencil_rules (StencilMaskSeparate face mask) = bad_side face ∷ []
depth_stencil_rules (StencilOpSeparate face fail depth_fail depth_pass) = operation_rules face fail depth_fail depth_pass
depth_stencil_rules (ClearStencil value) = []

-- the rules of a call about what is drawn at all, and where
abbrev pub view_rules : ViewCall → List Rule
view_rules (Capability word on) = bad_capability word ∷ []
view_rules (CullFace word) = bad_side word ∷ []
view_rules (FrontFace word) = bad_winding word ∷ []
view_rules (Viewport x y width height) = negative_extent width height ∷ []
view_rules (Scissor x y width height) = negative_extent width height ∷ []

-- the rules of a call that sets raster state
abbrev pub raster_rules : RasterCall → List Rule
raster_rules (Color call) = color_rules call
raster_rules (DepthStencil call) = depth_stencil_rules call
raster_rules (View call) = view_rules call
