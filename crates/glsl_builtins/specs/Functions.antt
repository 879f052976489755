-- The functions of GLSL ES 1.00.17 chapter 8, by the table `FUNCTIONS`.
use Rattle.std.specs.Prelude.{ℕ, nat_le, Bool, true, false, ◌&&◌, if◌then◌else◌, List, [], ◌∷◌, map, Option, Some, None}
use Rattle.std.specs.List.{find, list_any}
use Rattle.std.specs.Option.{option_map, option_map_or, option_and_then, option_or}
use Rattle.std.specs.Str.{bytes_eq}
use Rattle.std.specs.Borrow.{Bor}
use Rattle.gl_numbers.specs.declared.kinds.Stage.{Stage}
use Rattle.gl_numbers.specs.declared.kinds.Stage.TheVariants as stage
use Rattle.glsl_types.specs.declared.bases.Base.{Base}
use Rattle.glsl_types.specs.declared.bases.Base.TheVariants as base
use Rattle.glsl_types.specs.declared.bases.Component.TheVariants as component
use Rattle.glsl_types.specs.declared.types.SlType.{SlType}
use Rattle.glsl_types.specs.Bases.{vector, matrix}
use Rattle.glsl_types.specs.Types.{plain_type, same_type}
use Rattle.glsl_builtins.specs.declared.rows.Form.{Form}
use Rattle.glsl_builtins.specs.declared.rows.Form.TheVariants as form
use Rattle.glsl_builtins.specs.declared.rows.Stages.{Stages}
use Rattle.glsl_builtins.specs.declared.rows.Stages.TheVariants as stages
use Rattle.glsl_builtins.specs.declared.signatures.TheConstants.{FUNCTIONS}

-- a row of the table
pub record Row : Type 0 where
  pub names : List (List ℕ)
  pub arguments : List Form
  pub answer : Form
  pub stages : Stages

-- a row in memory
abbrev pub RowInMemory : Type 0
RowInMemory = Bor (List (Bor (List ℕ))) × Bor (List Form) × Form × Stages

-- a row without where it lies in memory
abbrev pub plain_row : RowInMemory → Row
plain_row row = record { names = map (λ name. name.now) row.0.now; arguments = row.1.now; answer = row.2; stages = row.3 }

-- the table
abbrev pub rows : List Row
rows = map (λ row. record { names = map (λ name. name.now) row.0.now; arguments = row.1.now; answer = row.2; stages = row.3 }) FUNCTIONS

-- whether a shader of a stage has what these stages have
abbrev pub is_in : Stage → Stages → Bool
is_in stage.Vertex stages.Both = true
is_in stage.Vertex stages.Vertex = true
is_in stage.Vertex stages.Fragment = false
is_in stage.Fragment stages.Both = true
is_in stage.Fragment stages.Vertex = false
is_in stage.Fragment stages.Fragment = true

-- a type of two components or more
abbrev pub from_two : ℕ → Option Base → Option Base
from_two n b = if nat_le n 1 then None else b

-- the type that a form stands for where the size of its row is n (the head of chapter 8: genType, vec, ivec, bvec, mat)
abbrev pub kind_at : ℕ → Form → Option Base
kind_at n form.General = vector component.Float n
kind_at n form.Vector = from_two n (vector component.Float n)
kind_at n form.IntVector = from_two n (vector component.Int n)
kind_at n form.BoolVector = from_two n (vector component.Bool n)
kind_at n form.Matrix = matrix n
kind_at n form.Float = Some base.Float
kind_at n form.Bool = Some base.Bool
kind_at n form.Vec2 = Some base.Vec2
kind_at n form.Vec3 = Some base.Vec3
kind_at n form.Vec4 = Some base.Vec4
kind_at n form.Sampler2D = Some base.Sampler2D
kind_at n form.SamplerCube = Some base.SamplerCube

-- whether a type is the one that a form stands for where the size is n
unfoldable pub is_at : ℕ → Form → SlType → Bool
is_at n form kind = option_map_or (λ b. same_type kind (plain_type b)) (kind_at n form) false

-- whether types are what forms stand for, one for one, where the size is n
abbrev pub fits_at : ℕ → List Form → List SlType → Bool
fits_at n [] [] = true
fits_at n [] (kind ∷ kinds) = false
fits_at n (form ∷ forms) [] = false
fits_at n (form ∷ forms) (kind ∷ kinds) = is_at n form kind && fits_at n forms kinds

-- the size at which types are what forms stand for: 1 of a scalar, 2 to 4 of vectors and matrices
abbrev pub size_for : List Form → List SlType → Option ℕ
size_for forms kinds = find (λ n. fits_at n forms kinds) (1 ∷ 2 ∷ 3 ∷ 4 ∷ [])

-- whether a row has a function of this name in a shader of this stage
abbrev pub is_named : List ℕ → Stage → Row → Bool
is_named name stage row = is_in stage row.stages && list_any (λ other. bytes_eq other name) row.names

-- what a row returns for these arguments
abbrev pub returned : List SlType → Row → Option SlType
returned kinds row = option_map plain_type (option_and_then (λ n. kind_at n row.answer) (size_for row.arguments kinds))

-- what a row's function of this name returns for these arguments
unfoldable pub answer_in : List ℕ → Stage → List SlType → Row → Option SlType
answer_in name stage kinds row = if is_named name stage row then returned kinds row else None

-- what the first of these rows that has such a function returns
abbrev pub answer_among : List ℕ → Stage → List SlType → List Row → Option SlType
answer_among name stage kinds [] = None
answer_among name stage kinds (row ∷ more) = option_or (answer_in name stage kinds row) (answer_among name stage kinds more)

-- what the function of this name returns for these arguments
unfoldable pub function : List ℕ → Stage → List SlType → Option SlType
function name stage kinds = answer_among name stage kinds rows

-- whether a shader of this stage has a function of this name
unfoldable pub is_function : List ℕ → Stage → Bool
is_function name stage = list_any (is_named name stage) rows
