-- The GL words of the types of active attributes and uniforms (OpenGL ES 2.0 section 2.10.4, table 2.8).
use Rattle.std.specs.Prelude.{ℕ}
use Rattle.glsl_types.specs.declared.bases.Base.{Base}
use Rattle.glsl_types.specs.declared.bases.Base.TheVariants as base

-- the GL word of a type; a structure, which is never active itself, has none
abbrev pub type_word : Base → ℕ
type_word base.Float = 5126
type_word base.Vec2 = 35664
type_word base.Vec3 = 35665
type_word base.Vec4 = 35666
type_word base.Int = 5124
type_word base.IVec2 = 35667
type_word base.IVec3 = 35668
type_word base.IVec4 = 35669
type_word base.Bool = 35670
type_word base.BVec2 = 35671
type_word base.BVec3 = 35672
type_word base.BVec4 = 35673
type_word base.Mat2 = 35674
type_word base.Mat3 = 35675
type_word base.Mat4 = 35676
type_word base.Sampler2D = 35678
type_word base.SamplerCube = 35680
type_word (base.Struct number) = 0
