-- The variables and constants of GLSL ES 1.00.17 chapter 7, by the table `VARIABLES`.
use Rattle.std.specs.Prelude.{ℕ, Bool, ◌&&◌, List, map, Option}
use Rattle.std.specs.List.{find}
use Rattle.std.specs.Option.{option_map}
use Rattle.std.specs.Str.{bytes_eq}
use Rattle.std.specs.Borrow.{Bor}
use Rattle.gl_numbers.specs.declared.kinds.Stage.{Stage}
use Rattle.glsl_types.specs.declared.bases.Base.{Base}
use Rattle.glsl_builtins.specs.declared.rows.Stages.{Stages}
use Rattle.glsl_builtins.specs.declared.variables.Builtin.{Builtin}
use Rattle.glsl_builtins.specs.declared.variables.TheConstants.{VARIABLES}
use Rattle.glsl_builtins.specs.Functions.{is_in}

-- a row of the table
pub record Row : Type 0 where
  pub name : List ℕ
  pub builtin : Builtin
  pub stages : Stages

-- what a row says of its variable
abbrev pub builtin : Base → ℕ → Bool → Option ℕ → Builtin
builtin base array writable constant = record { kind = record { base = base; array = array }; writable = writable; constant = constant }

-- a row in memory
abbrev pub RowInMemory : Type 0
RowInMemory = Bor (List ℕ) × Base × ℕ × Bool × Option ℕ × Stages

-- a row without where it lies in memory
abbrev pub plain_row : RowInMemory → Row
plain_row row = record { name = row.0.now; builtin = builtin row.1 row.2 row.3 row.4; stages = row.5 }

-- the table
abbrev pub rows : List Row
rows = map (λ row. record { name = row.0.now; builtin = builtin row.1 row.2 row.3 row.4; stages = row.5 }) VARIABLES

-- whether a row is of this name in a shader of this stage
abbrev pub is_variable : List ℕ → Stage → Row → Bool
is_variable name stage row = is_in stage row.stages && bytes_eq row.name name

-- the first of these rows that is of this name in a shader of this stage
abbrev pub variable_among : List ℕ → Stage → List Row → Option Builtin
variable_among name stage rows = option_map (λ row. row.builtin) (find (is_variable name stage) rows)

-- the variable or constant of this name in a shader of this stage
unfoldable pub variable : List ℕ → Stage → Option Builtin
variable name stage = variable_among name stage rows
