-- Which values a uniform takes, and what it keeps of them (OpenGL ES 2.0 section 2.10.4).
use Rattle.std.specs.Prelude.{ℕ, ◌==◌, if◌then◌else◌, Bool, true, false, ◌&&◌, ◌||◌, Option, Some, None}
use Rattle.glsl_types.specs.Bases.{columns, component_of, components}
use Rattle.glsl_types.specs.declared.bases.Base.{Base}
use Rattle.glsl_types.specs.declared.bases.Base.TheVariants as base
use Rattle.glsl_types.specs.declared.bases.Component.{Component}
use Rattle.glsl_types.specs.declared.bases.Component.TheVariants as component
use Rattle.uniform_values.specs.Layout.{width}

-- the type of the values that a call of this kind gives: 1 to 4 floats, 5 to 8 integers, 9 to 11 matrices
abbrev pub kind_type : ℕ → Option Base
kind_type kind =
    if kind == 1 then Some base.Float
    else (if kind == 2 then Some base.Vec2
    else (if kind == 3 then Some base.Vec3
    else (if kind == 4 then Some base.Vec4
    else (if kind == 5 then Some base.Int
    else (if kind == 6 then Some base.IVec2
    else (if kind == 7 then Some base.IVec3
    else (if kind == 8 then Some base.IVec4
    else (if kind == 9 then Some base.Mat2
    else (if kind == 10 then Some base.Mat3
    else (if kind == 11 then Some base.Mat4 else None))))))))))

-- whether a uniform with components of one kind takes values with components of another: booleans take numbers of either kind, and
-- a sampler, which has no components, takes integers
abbrev pub takes : Option Component → Option Component → Bool
takes (Some component.Bool) (Some given) = true
takes (Some component.Float) (Some component.Float) = true
takes (Some component.Int) (Some component.Int) = true
takes None (Some component.Int) = true
takes own given = false

-- whether values of the type `given` can be those of a uniform: they have as many words in as many columns, of components that it takes
abbrev pub fits : Base → Base → Bool
fits own given = components given == width own && (columns given == columns own && takes (component_of own) (component_of given))

-- whether the components of a type are floats
abbrev pub is_float : Option Component → Bool
is_float (Some component.Float) = true
is_float (Some component.Int) = false
is_float (Some component.Bool) = false
is_float None = false

-- whether the components of a type are booleans
abbrev pub is_bool : Option Component → Bool
is_bool (Some component.Bool) = true
is_bool (Some component.Float) = false
is_bool (Some component.Int) = false
is_bool None = false

-- whether a word is the number 0; of floats also 0x80000000, which is -0.0 (IEEE 754 single)
abbrev pub is_zero : Base → ℕ → Bool
is_zero given word = word == 0 || (word == 2147483648 && is_float (component_of given))

-- the word that a uniform keeps of a word that it is given: of booleans 0 for the number 0 and 1 for any other, else the word itself
abbrev pub kept : Base → Base → ℕ → ℕ
kept own given word = if is_bool (component_of own) then (if is_zero given word then 0 else 1) else word
