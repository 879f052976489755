-- Capabilities, which enable and disable turn on and off (WebGL 1.0 section 5.14.3; OpenGL ES 2.0 chapters 3 and 4).
use Rattle.std.specs.Prelude.{ℕ, Option, Some, None, ◌==◌, if◌then◌else◌}
use Rattle.gl_numbers.specs.declared.capabilities.Capability.{Capability}
use Rattle.gl_numbers.specs.declared.capabilities.Capability.TheVariants.{CullFace, DepthTest, StencilTest, Dither, Blend, ScissorTest, PolygonOffsetFill, SampleAlphaToCoverage, SampleCoverage}

-- the word of a capability: CULL_FACE 0x0B44, DEPTH_TEST 0x0B71, STENCIL_TEST 0x0B90, DITHER 0x0BD0, BLEND 0x0BE2, SCISSOR_TEST
-- 0x0C11, POLYGON_OFFSET_FILL 0x8037, SAMPLE_ALPHA_TO_COVERAGE 0x809E, SAMPLE_COVERAGE 0x80A0
abbrev pub capability_word : Capability → ℕ
capability_word CullFace = 2884
capability_word DepthTest = 2929
capability_word StencilTest = 2960
capability_word Dither = 3024
capability_word Blend = 3042
capability_word ScissorTest = 3089
capability_word PolygonOffsetFill = 32823
capability_word SampleAlphaToCoverage = 32926
capability_word SampleCoverage = 32928

-- the capability of a word, if it is one
unfoldable pub capability_of : ℕ → Option Capability
capability_of n =
    if n == capability_word CullFace then Some CullFace
    else (if n == capability_word DepthTest then Some DepthTest
    else (if n == capability_word StencilTest then Some StencilTest
    else (if n == capability_word Dither then Some Dither
    else (if n == capability_word Blend then Some Blend
    else (if n == capability_word ScissorTest then Some ScissorTest
    else (if n == capability_word PolygonOffsetFill then Some PolygonOffsetFill
    else (if n == capability_word SampleAlphaToCoverage then Some SampleAlphaToCoverage
    else (if n == capability_word SampleCoverage then Some SampleCoverage else None))))))))

-- the place of a capability's flag among the flags of all
abbrev pub place_of : Capability → ℕ
place_of CullFace = 0
place_of DepthTest = 1
place_of StencilTest = 2
place_of Dither = 3
place_of Blend = 4
place_of ScissorTest = 5
place_of PolygonOffsetFill = 6
place_of SampleAlphaToCoverage = 7
place_of SampleCoverage = 8
