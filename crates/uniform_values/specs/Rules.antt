-- What refuses a uniform call (OpenGL ES 2.0 section 2.10.4, WebGL 1.0 section 5.14.10): each rule once, in the order in which they
-- apply. The slot is the one that the call names, and `given` the type of the values.
use Rattle.std.specs.Prelude.{ℕ, ◌/◌, ◌%◌, ◌==◌, nat_le, nat_lt, Bool, not, ◌&&◌, ◌||◌, Option, Some, None, List, [], ◌∷◌, length}
use Rattle.std.specs.List.{list_any}
use Rattle.gl_numbers.specs.Limits.{combined_texture_units_max}
use Rattle.gl_numbers.specs.Refusals.{Rule, when, invalid_value, invalid_operation}
use Rattle.glsl_types.specs.Bases.{columns, components, is_sampler}
use Rattle.glsl_types.specs.declared.bases.Base.{Base}
use Rattle.uniform_values.specs.declared.slots.Slot.{Slot}
use Rattle.uniform_values.specs.Kinds.{fits}

-- there is no word, or the words are no whole number of values (WebGL 1.0 section 5.14.10)
abbrev pub ragged : Base → List ℕ → Rule
ragged given words = when (length words == 0 || not (length words % components given == 0)) invalid_value

-- a matrix is to be transposed (OpenGL ES 2.0 section 2.10.4)
abbrev pub transposed : Base → Bool → Rule
transposed given transpose = when (transpose && not (columns given == 0)) invalid_value

-- the uniform can't have values of this type (section 2.10.4)
abbrev pub unfit : Slot → Base → Rule
unfit slot given = when (not (fits slot.base given)) invalid_operation

-- more than one value for what is no array (section 2.10.4)
abbrev pub too_many : Slot → Base → List ℕ → Rule
too_many slot given words = when (not slot.array && nat_lt 1 (length words / components given)) invalid_operation

-- whether there is no texture unit of this number
abbrev pub is_no_unit : ℕ → Bool
is_no_unit word = nat_le combined_texture_units_max word

-- a sampler is given a unit that isn't there, also by a value past the end of the array (section 2.10.4, Samplers)
abbrev pub no_unit : Slot → List ℕ → Rule
no_unit slot words = when (is_sampler slot.base && list_any is_no_unit words) invalid_value

-- the rules of a call on a slot that is there, with a kind that is one
abbrev pub set_rules : Option Slot → Option Base → Bool → List ℕ → List Rule
set_rules (Some slot) (Some given) transpose words =
    ragged given words ∷ transposed given transpose ∷ unfit slot given ∷ too_many slot given words ∷ no_unit slot words ∷ []
set_rules (Some slot) None transpose words = []
set_rules None given transpose words = []
