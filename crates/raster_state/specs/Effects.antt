-- What the calls that set raster state do where nothing refuses them (OpenGL ES 2.0 sections 2.12.1, 3.5.1, 4.1 and 4.2), and what
-- is read of it.
use Rattle.std.specs.Prelude.{ℕ, Bool, false, not, ◌||◌, ◌==◌, Option, Some, None, [], ◌∷◌, get_or, slice_set}
use Rattle.std.specs.Ordering.{int_eq}
use Rattle.gl_numbers.specs.Capabilities.{capability_of, place_of}
use Rattle.gl_numbers.specs.RasterWords.{side_of}
use Rattle.gl_numbers.specs.declared.capabilities.Capability as Capabilities
use Rattle.gl_numbers.specs.declared.raster_words.Side.{Side}
use Rattle.gl_numbers.specs.declared.raster_words.Side.TheVariants.{Front, Back, FrontAndBack}
use Rattle.call_records.specs.declared.color_calls.ColorCall.{ColorCall}
use Rattle.call_records.specs.declared.color_calls.ColorCall.TheVariants.{BlendColor, BlendEquationSeparate, BlendFuncSeparate, ColorMask, ClearColor}
use Rattle.call_records.specs.declared.depth_stencil_calls.DepthStencilCall.{DepthStencilCall}
use Rattle.call_records.specs.declared.depth_stencil_calls.DepthStencilCall.TheVariants.{DepthFunc, DepthMask, StencilFuncSeparate, StencilMaskSeparate, StencilOpSeparate, ClearStencil}
use Rattle.call_records.specs.declared.view_calls.ViewCall.{ViewCall}
use Rattle.call_records.specs.declared.view_calls.ViewCall.TheVariants.{Capability, CullFace, FrontFace, Viewport, Scissor}
use Rattle.call_records.specs.declared.raster_calls.RasterCall.{RasterCall}
use Rattle.call_records.specs.declared.raster_calls.RasterCall.TheVariants.{Color, DepthStencil, View}
use Rattle.raster_state.specs.declared.words.StencilSide.{StencilSide}
use Rattle.raster_state.specs.declared.words.RasterWords.{RasterWords}

-- a word as a truth value: 0 is false, and any other word is true
abbrev pub truth : ℕ → Bool
truth word = not (word == 0)

-- what a call about colours sets
abbrev pub color_effect : ColorCall → RasterWords → RasterWords
color_effect (BlendColor red green blue alpha) w = record w { blend_color = red ∷ green ∷ blue ∷ alpha ∷ [] }
color_effect (BlendEquationSeparate rgb alpha) w = record w { blend_equation = rgb ∷ alpha ∷ [] }
color_effect (BlendFuncSeparate src_rgb dst_rgb src_alpha dst_alpha) w =
    record w { blend_func = src_rgb ∷ dst_rgb ∷ src_alpha ∷ dst_alpha ∷ [] }
color_effect (ColorMask red green blue alpha) w =
    record w { color_mask = truth red ∷ truth green ∷ truth blue ∷ truth alpha ∷ [] }
color_effect (ClearColor red green blue alpha) w = record w { clear_color = red ∷ green ∷ blue ∷ alpha ∷ [] }

-- the stencil state of a side after a call that names it
abbrev pub side_after : DepthStencilCall → StencilSide → StencilSide
side_after (StencilFuncSeparate face func reference mask) side =
    record side { func = func; reference = reference; value_mask = mask }
side_after (StencilMaskSeparate face mask) side = record side { write_mask = mask }
side_after (StencilOpSeparate face fail depth_fail depth_pass) side =
    record side { ops = fail ∷ depth_fail ∷ depth_pass ∷ [] }
side_after _ side = side

-- the stencil state of the sides that are named, if any are, is changed
abbrev pub changed_sides : Option Side → (StencilSide → StencilSide) → RasterWords → RasterWords
changed_sides None change w = w
changed_sides (Some Front) change w = record w { front = change w.front }
changed_sides (Some Back) change w = record w { back = change w.back }
changed_sides (Some FrontAndBack) change w = record w { front = change w.front; back = change w.back }

-- what a call about depths and stencil values sets
abbrev pub depth_stencil_effect : DepthStencilCall → RasterWords → RasterWords
depth_stencil_effect (DepthFunc func) w = record w { depth_func = func }
depth_stencil_effect (DepthMask flag) w = record w { depth_mask = truth flag }
depth_stencil_effect (StencilFuncSeparate face func reference mask) w =
    changed_sides (side_of face) (side_after (StencilFuncSeparate face func reference mask)) w
depth_stencil_effect (StencilMaskSeparate face mask) w = changed_sides (side_of face) (side_after (StencilMaskSeparate face mask)) w
depth_stencil_effect (StencilOpSeparate face fail depth_fail depth_pass) w =
    changed_sides (side_of face) (side_after (StencilOpSeparate face fail depth_fail depth_pass)) w
depth_stencil_effect (ClearStencil value) w = record w { clear_stencil = value }

-- a capability, if it is one, is enabled or disabled
abbrev pub with_capability : Option Capabilities.Capability → Bool → RasterWords → RasterWords
with_capability None on w = w
with_capability (Some capability) on w = record w { enabled = slice_set w.enabled (place_of capability) on }

-- what a call about what is drawn at all, and where, sets
abbrev pub view_effect : ViewCall → RasterWords → RasterWords
view_effect (Capability word on) w = with_capability (capability_of word) on w
view_effect (CullFace sides) w = record w { cull_side = sides }
view_effect (FrontFace winding) w = record w { winding = winding }
view_effect (Viewport x y width height) w = record w { viewport = x ∷ y ∷ width ∷ height ∷ [] }
view_effect (Scissor x y width height) w = record w { scissor = x ∷ y ∷ width ∷ height ∷ [] }

-- what a call sets
abbrev pub raster_effect : RasterCall → RasterWords → RasterWords
raster_effect (Color call) w = color_effect call w
raster_effect (DepthStencil call) w = depth_stencil_effect call w
raster_effect (View call) w = view_effect call w

-- whether a capability is enabled
abbrev pub is_enabled : Capabilities.Capability → RasterWords → Bool
is_enabled capability w = get_or w.enabled (place_of capability) false

-- whether front and back differ in their stencil reference, value mask or write mask (WebGL 1.0 section 6.10)
abbrev pub is_stencil_split : RasterWords → Bool
is_stencil_split w =
    not (int_eq w.front.reference w.back.reference)
    || not (w.front.value_mask == w.back.value_mask)
    || not (w.front.write_mask == w.back.write_mask)
