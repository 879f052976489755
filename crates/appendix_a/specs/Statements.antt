-- Statements by the limits (GLSL ES 1.00.17 appendix A section 4).
use Rattle.std.specs.Prelude.{ℕ, Bool, true, false, if◌then◌else◌, List, [], ◌∷◌, Option, Some, None, Result, Ok, Err}
use Rattle.glsl_tree.specs.declared.declarations.TypeSpecifier.{TypeSpecifier, out-TypeSpecifier}
use Rattle.glsl_tree.specs.declared.declarations.TypeSpecifier.TheOpen.{TypeSpecifier-F}
use Rattle.glsl_tree.specs.declared.declarations.Member.{Member}
use Rattle.glsl_tree.specs.declared.declarations.Declarator.{Declarator}
use Rattle.glsl_tree.specs.declared.declarations.Declarator.TheVariants as declarator
use Rattle.glsl_tree.specs.declared.declarations.Decl.TheVariants as declaration
use Rattle.glsl_tree.specs.declared.expressions.Expr.{Expr}
use Rattle.glsl_tree.specs.declared.qualifiers.Basic.{Basic}
use Rattle.glsl_tree.specs.declared.qualifiers.Basic.TheVariants as basic
use Rattle.glsl_tree.specs.declared.statements.Condition.{Condition}
use Rattle.glsl_tree.specs.declared.statements.Condition.TheVariants as condition
use Rattle.glsl_tree.specs.declared.statements.Start.{Start}
use Rattle.glsl_tree.specs.declared.statements.Start.TheVariants as start
use Rattle.glsl_tree.specs.declared.statements.Stmt.{Stmt}
use Rattle.glsl_tree.specs.declared.statements.Stmt.TheOpen.{Stmt-F}
use Rattle.glsl_tree.specs.declared.statements.Stmt.TheFolds.{fold-Stmt}
use Rattle.appendix_a.specs.declared.findings.Finding.{Finding}
use Rattle.appendix_a.specs.Ahead.{Ahead}
use Rattle.appendix_a.specs.Rules.{Outcome, and_then}
use Rattle.appendix_a.specs.Site.{Site}
use Rattle.appendix_a.specs.Expressions.{expression}
use Rattle.appendix_a.specs.Declarations.{Passage, both, declaration_passage, in_order, nothing, optional, passed, specifier}

-- # The header of a `for`

-- whether an index may have this type
abbrev pub is_number : Basic → Bool
is_number basic.Int = true
is_number basic.Float = true
is_number _ = false

abbrev pub is_number_layer : TypeSpecifier-F TypeSpecifier Member → Bool
is_number_layer (TypeSpecifier-F.Basic basic) = is_number basic
is_number_layer _ = false

-- whether a type is int or float
unfoldable pub is_index_type : TypeSpecifier → Bool
is_index_type t = is_number_layer (out-TypeSpecifier t)

-- an index that is declared: its name and its value
pub record Declared : Type 0 where
  pub name : List ℕ
  pub value : Expr

-- the index that declarators declare, if they are one with a value
abbrev pub one_index : List Declarator → Option Declared
one_index (declarator.Initialized name value ∷ []) = Some (record { name = name; value = value })
one_index _ = None

abbrev pub of_type : Bool → Option Declared → Option Declared
of_type true index = index
of_type false index = None

-- the index that the first part of a `for` declares, if it is one of type int or float
abbrev pub index_of : Start → Option Declared
index_of (start.Declaration (declaration.Variables full declarators)) = of_type (is_index_type full.kind) (one_index declarators)
index_of _ = None

-- the name of an index, and the facts of what comes after its value
pub record Begun : Type 0 where
  pub name : List ℕ
  pub after : Ahead

-- 2: a loop begins with one index of type int or float that is declared with a constant expression
abbrev pub value_outcome : List ℕ → Outcome Finding → Result Begun ℕ
value_outcome name (Ok f) = if f.0.constant then Ok (record { name = name; after = f.1 }) else Err 2
value_outcome name (Err number) = Err 2

abbrev pub begin_by : Option Declared → Site → Ahead → Result Begun ℕ
begin_by None site a = Err 2
begin_by (Some d) site a = value_outcome d.name (expression d.value site a)

abbrev pub begin : Start → Site → Ahead → Result Begun ℕ
begin first site a = begin_by (index_of first) site a

-- the condition of a loop, and the number of the index where it compares that with a constant expression
abbrev pub condition_outcome : Condition → Site → Ahead → Outcome (Option ℕ)
condition_outcome (condition.Expression e) site a = and_then (expression e site a) λ f. Ok (f.0.compared, f.1)
condition_outcome (condition.Declared full name value) site a =
    and_then (both (specifier full.kind) (passed value) site a) λ after. Ok (None, after)

abbrev pub optional_condition : Option Condition → Site → Ahead → Outcome (Option ℕ)
optional_condition None site a = Ok (None, a)
optional_condition (Some c) site a = condition_outcome c site a

-- the step of a loop, and whether it adds a constant expression to the index, or subtracts one
abbrev pub step_outcome : Option Expr → Site → Ahead → Outcome Bool
step_outcome None site a = Ok (false, a)
step_outcome (Some e) site a = and_then (expression e site a) λ f. Ok (f.0.stepped, f.1)

-- 3: a condition compares the index with a constant expression; it gives the index's number
abbrev pub compared_rule : Option ℕ → Result ℕ ℕ
compared_rule None = Err 3
compared_rule (Some number) = Ok number

-- 4: a step adds a constant expression to the index, or subtracts one
abbrev pub stepped_rule : Bool → ℕ → Result ℕ ℕ
stepped_rule true number = Ok number
stepped_rule false number = Err 4

-- the header of a `for`: rule 2 before what stands in it, then its condition and its step, then rules 3 and 4; it gives the number of
-- the index
abbrev pub header : Start → Option Condition → Option Expr → Site → Ahead → Outcome ℕ
header first test step site a =
    and_then (begin first site a) λ begun.
    let inner = record site { header = Some begun.name } in
    and_then (optional_condition test inner begun.after) λ c. and_then (step_outcome step inner c.1) λ s.
    and_then (compared_rule c.0) λ compared. and_then (stepped_rule s.0 compared) λ number. Ok (number, s.1)

-- a `for`: its header, and then its body, in which the index is not changed (rule 5)
abbrev pub for_loop : Start → Option Condition → Option Expr → Passage → Passage
for_loop first test step body site a =
    and_then (header first test step site a) λ h. body (record site { loops = h.0 ∷ site.loops }) h.1

-- # Statements

-- 1: there is no `while` and no `do`
abbrev pub refused : Passage
refused site a = Err 1

-- a second branch that may be left out
abbrev pub otherwise_passage : Option Passage → Passage
otherwise_passage None = nothing
otherwise_passage (Some branch) = branch

-- a statement whose parts come to this
abbrev pub statement_layer : Stmt-F Passage → Passage
statement_layer (Stmt-F.Block statements) = in_order statements
statement_layer (Stmt-F.Declaration d) = declaration_passage d
statement_layer (Stmt-F.Expression e) = passed e
statement_layer (Stmt-F.If test branch otherwise) = both (passed test) (both branch (otherwise_passage otherwise))
statement_layer (Stmt-F.While test body) = refused
statement_layer (Stmt-F.Do body test) = refused
statement_layer (Stmt-F.For first test step body) = for_loop first test step body
statement_layer (Stmt-F.Return value) = optional value
statement_layer _ = nothing

-- a statement in a place
unfoldable pub statement : Stmt → Passage
statement = fold-Stmt Passage statement_layer
