-- The words of types and qualifiers (GLSL ES 1.00.17 sections 4.1, 4.3, 4.5 and 6.1.1).
use Rattle.std.specs.Prelude.{ℕ, List, codes}
use Rattle.glsl_tree.specs.declared.qualifiers.Basic.{Basic}
use Rattle.glsl_tree.specs.declared.qualifiers.Basic.TheVariants as basic
use Rattle.glsl_tree.specs.declared.qualifiers.Precision.{Precision}
use Rattle.glsl_tree.specs.declared.qualifiers.Precision.TheVariants as precision
use Rattle.glsl_tree.specs.declared.qualifiers.Direction.{Direction}
use Rattle.glsl_tree.specs.declared.qualifiers.Direction.TheVariants as direction

-- the keyword of a basic type (section 4.1)
abbrev pub basic_text : Basic → List ℕ
basic_text basic.Float = codes "float"
basic_text basic.Int = codes "int"
basic_text basic.Bool = codes "bool"
basic_text basic.Vec2 = codes "vec2"
basic_text basic.Vec3 = codes "vec3"
basic_text basic.Vec4 = codes "vec4"
basic_text basic.IVec2 = codes "ivec2"
basic_text basic.IVec3 = codes "ivec3"
basic_text basic.IVec4 = codes "ivec4"
basic_text basic.BVec2 = codes "bvec2"
basic_text basic.BVec3 = codes "bvec3"
basic_text basic.BVec4 = codes "bvec4"
basic_text basic.Mat2 = codes "mat2"
basic_text basic.Mat3 = codes "mat3"
basic_text basic.Mat4 = codes "mat4"
basic_text basic.Sampler2D = codes "sampler2D"
basic_text basic.SamplerCube = codes "samplerCube"

-- the keyword of a precision (section 4.5.2)
abbrev pub precision_text : Precision → List ℕ
precision_text precision.Low = codes "lowp"
precision_text precision.Medium = codes "mediump"
precision_text precision.High = codes "highp"

-- the keyword of a parameter's direction (section 6.1.1)
abbrev pub direction_text : Direction → List ℕ
direction_text direction.In = codes "in"
direction_text direction.Out = codes "out"
direction_text direction.InOut = codes "inout"
