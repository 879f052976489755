-- The types of the shading language but for array sizes (GLSL ES 1.00.17 section 4.1).
use Rattle.std.specs.Prelude.{ℕ, ◌*◌, ◌==◌, Bool, true, false, if◌then◌else◌, Option, Some, None}
use Rattle.glsl_tree.specs.declared.qualifiers.Basic.{Basic}
use Rattle.glsl_tree.specs.declared.qualifiers.Basic.TheVariants as basic
use Rattle.glsl_types.specs.declared.bases.Base.{Base}
use Rattle.glsl_types.specs.declared.bases.Base.TheVariants as base
use Rattle.glsl_types.specs.declared.bases.Component.{Component}
use Rattle.glsl_types.specs.declared.bases.Component.TheVariants as component

-- the type of a keyword
abbrev pub named : Basic → Base
named basic.Float = base.Float
named basic.Int = base.Int
named basic.Bool = base.Bool
named basic.Vec2 = base.Vec2
named basic.Vec3 = base.Vec3
named basic.Vec4 = base.Vec4
named basic.IVec2 = base.IVec2
named basic.IVec3 = base.IVec3
named basic.IVec4 = base.IVec4
named basic.BVec2 = base.BVec2
named basic.BVec3 = base.BVec3
named basic.BVec4 = base.BVec4
named basic.Mat2 = base.Mat2
named basic.Mat3 = base.Mat3
named basic.Mat4 = base.Mat4
named basic.Sampler2D = base.Sampler2D
named basic.SamplerCube = base.SamplerCube

-- what the components of a type are; a sampler and a structure have none
abbrev pub component_of : Base → Option Component
component_of base.Float = Some component.Float
component_of base.Int = Some component.Int
component_of base.Bool = Some component.Bool
component_of base.Vec2 = Some component.Float
component_of base.Vec3 = Some component.Float
component_of base.Vec4 = Some component.Float
component_of base.IVec2 = Some component.Int
component_of base.IVec3 = Some component.Int
component_of base.IVec4 = Some component.Int
component_of base.BVec2 = Some component.Bool
component_of base.BVec3 = Some component.Bool
component_of base.BVec4 = Some component.Bool
component_of base.Mat2 = Some component.Float
component_of base.Mat3 = Some component.Float
component_of base.Mat4 = Some component.Float
component_of base.Sampler2D = None
component_of base.SamplerCube = None
component_of (base.Struct number) = None

-- the components of a scalar, a vector or one column of a matrix
abbrev pub size : Base → ℕ
size base.Float = 1
size base.Int = 1
size base.Bool = 1
size base.Vec2 = 2
size base.Vec3 = 3
size base.Vec4 = 4
size base.IVec2 = 2
size base.IVec3 = 3
size base.IVec4 = 4
size base.BVec2 = 2
size base.BVec3 = 3
size base.BVec4 = 4
size base.Mat2 = 2
size base.Mat3 = 3
size base.Mat4 = 4
size base.Sampler2D = 0
size base.SamplerCube = 0
size (base.Struct number) = 0

-- the columns of a matrix
abbrev pub columns : Base → ℕ
columns base.Float = 0
columns base.Int = 0
columns base.Bool = 0
columns base.Vec2 = 0
columns base.Vec3 = 0
columns base.Vec4 = 0
columns base.IVec2 = 0
columns base.IVec3 = 0
columns base.IVec4 = 0
columns base.BVec2 = 0
columns base.BVec3 = 0
columns base.BVec4 = 0
columns base.Mat2 = 2
columns base.Mat3 = 3
columns base.Mat4 = 4
columns base.Sampler2D = 0
columns base.SamplerCube = 0
columns (base.Struct number) = 0

-- the components of a type in all
abbrev pub components : Base → ℕ
components b = if columns b == 0 then size b else columns b * size b

-- a vector by its number of components, of which a scalar has one
abbrev pub by_size : ℕ → Base → Base → Base → Base → Option Base
by_size n one two three four =
    if n == 1 then Some one else (if n == 2 then Some two else (if n == 3 then Some three else (if n == 4 then Some four else None)))

-- the scalar or the vector of so many components
abbrev pub vector : Component → ℕ → Option Base
vector component.Float n = by_size n base.Float base.Vec2 base.Vec3 base.Vec4
vector component.Int n = by_size n base.Int base.IVec2 base.IVec3 base.IVec4
vector component.Bool n = by_size n base.Bool base.BVec2 base.BVec3 base.BVec4

-- the matrix of so many columns
abbrev pub matrix : ℕ → Option Base
matrix n = if n == 2 then Some base.Mat2 else (if n == 3 then Some base.Mat3 else (if n == 4 then Some base.Mat4 else None))

-- whether a type is a sampler (section 4.1.7)
abbrev pub is_sampler : Base → Bool
is_sampler base.Sampler2D = true
is_sampler base.SamplerCube = true
is_sampler _ = false

-- whether two types are one: a structure is the one that its declaration makes (section 4.1.8)
abbrev pub same_base : Base → Base → Bool
same_base base.Float base.Float = true
same_base base.Int base.Int = true
same_base base.Bool base.Bool = true
same_base base.Vec2 base.Vec2 = true
same_base base.Vec3 base.Vec3 = true
same_base base.Vec4 base.Vec4 = true
same_base base.IVec2 base.IVec2 = true
same_base base.IVec3 base.IVec3 = true
same_base base.IVec4 base.IVec4 = true
same_base base.BVec2 base.BVec2 = true
same_base base.BVec3 base.BVec3 = true
same_base base.BVec4 base.BVec4 = true
same_base base.Mat2 base.Mat2 = true
same_base base.Mat3 base.Mat3 = true
same_base base.Mat4 base.Mat4 = true
same_base base.Sampler2D base.Sampler2D = true
same_base base.SamplerCube base.SamplerCube = true
same_base (base.Struct a) (base.Struct b) = a == b
same_base _ _ = false
