-- Expressions by the limits (GLSL ES 1.00.17 appendix A sections 4 and 5): the first rule that is broken in source order, parts
-- before the whole, or what is found of the expression.
use Rattle.std.specs.Prelude.{ℕ, ◌==◌, Bool, true, false, not, ◌&&◌, ◌||◌, if◌then◌else◌, List, [], ◌∷◌, drop, codes, nat_eq, Option, Some, None, Ok}
use Rattle.std.specs.List.{starts_with}
use Rattle.std.specs.Option.{option_map_or}
use Rattle.std.specs.Str.{bytes_eq}
use Rattle.gl_numbers.specs.declared.kinds.Stage.{Stage}
use Rattle.gl_numbers.specs.declared.kinds.Stage.TheVariants as stage
use Rattle.glsl_tree.specs.declared.declarations.Parameter.{Parameter}
use Rattle.glsl_tree.specs.declared.expressions.Callee.{Callee}
use Rattle.glsl_tree.specs.declared.expressions.Callee.TheVariants as callee
use Rattle.glsl_tree.specs.declared.expressions.Expr.{Expr}
use Rattle.glsl_tree.specs.declared.expressions.Expr.TheOpen.{Expr-F}
use Rattle.glsl_tree.specs.declared.expressions.Expr.TheFolds.{fold-Expr}
use Rattle.glsl_tree.specs.declared.operators.AssignmentOperator.{AssignmentOperator}
use Rattle.glsl_tree.specs.declared.operators.AssignmentOperator.TheVariants as assignment
use Rattle.glsl_tree.specs.declared.operators.BinaryOperator.{BinaryOperator}
use Rattle.glsl_tree.specs.declared.operators.BinaryOperator.TheVariants as binary
use Rattle.glsl_tree.specs.declared.operators.PrefixOperator.{PrefixOperator}
use Rattle.glsl_tree.specs.declared.operators.PrefixOperator.TheVariants as prefix
use Rattle.glsl_tree.specs.declared.qualifiers.Direction.{Direction}
use Rattle.glsl_tree.specs.declared.qualifiers.Direction.TheVariants as direction
use Rattle.appendix_a.specs.declared.findings.Arguments.{Arguments}
use Rattle.appendix_a.specs.declared.findings.Finding.{Finding}
use Rattle.appendix_a.specs.Ahead.{Ahead, place_next, past_place, known_next, past_known, is_constant}
use Rattle.appendix_a.specs.Rules.{Outcome, rule, unless, and_then}
use Rattle.appendix_a.specs.Names as names
use Rattle.appendix_a.specs.Names.{Named}
use Rattle.appendix_a.specs.Loops.{has}
use Rattle.appendix_a.specs.Site.{Site}

-- # What is found

-- an expression that is no variable; whether it is made of constants and loop indices is read off its parts
abbrev pub whole : Bool → Finding
whole made = record { constant = false; made = made; variable = None; root = None; index = false; compared = None; stepped = false }

-- an expression that breaks this rule, or none: then this is found, and whether it is constant
abbrev pub node : Option ℕ → Finding → Ahead → Outcome Finding
node broken found a = unless broken (record found { constant = is_constant (known_next a) }, past_known a)

-- # The rules

-- whether an expression is the index of a loop around it (rule 5): it may not be changed, also within brackets
abbrev pub is_index : Site → Finding → Bool
is_index site f = has site.loops f.variable

-- 5 (section 4): the body of a loop doesn't assign its index
abbrev pub assigned_rule : Site → Finding → Option ℕ
assigned_rule site target = rule 5 (is_index site target)

-- whether a parameter gives a value back (section 6.1.1)
abbrev pub gives_back : Option Direction → Bool
gives_back (Some direction.Out) = true
gives_back (Some direction.InOut) = true
gives_back _ = false

-- the parameters of a function; of anything else there are none
abbrev pub parameters_of : Option Named → List Parameter
parameters_of (Some (names.Function parameters)) = parameters
parameters_of _ = []

-- whether the first of some parameters gives a value back
abbrev pub first_gives_back : List Parameter → Bool
first_gives_back [] = false
first_gives_back (p ∷ parameters) = gives_back p.direction

-- no arguments, and one more in front of others: whether they are made of constants and loop indices, and whether one of them is the
-- index of a loop and its parameter gives a value back
abbrev pub no_arguments : Arguments
no_arguments = record { made = true; index_out = false }

abbrev pub with_argument : Site → List Parameter → Finding → Arguments → Arguments
with_argument site parameters f others = record {
  made = f.made && others.made;
  index_out = (first_gives_back parameters && is_index site f) || others.index_out;
}

-- whether an index may be any: in a vertex shader that of a uniform that has no sampler
abbrev pub is_uniform : Option Named → Bool
is_uniform (Some names.Uniform) = true
is_uniform _ = false

abbrev pub is_vertex : Stage → Bool
is_vertex stage.Vertex = true
is_vertex stage.Fragment = false

abbrev pub may_have_any : Site → Finding → Bool
may_have_any site base = is_vertex site.stage && option_map_or (λ number. is_uniform (site.named number)) base.root false

-- 6 (section 5): an index is made of constants and loop indices
abbrev pub index_rule : Site → Finding → Finding → Option ℕ
index_rule site base index = rule 6 (not index.made && not (may_have_any site base))

-- # Names and calls

-- whether a name is that of the index in the header of whose loop it stands
abbrev pub is_header : Site → List ℕ → Bool
is_header site name = option_map_or (λ index. bytes_eq index name) site.header false

abbrev pub name_finding : Site → List ℕ → ℕ → Bool → Finding
name_finding site name number constant = record {
  constant = constant;
  made = constant || (is_header site name || has site.loops (Some number));
  variable = Some number;
  root = Some number;
  index = is_header site name;
  compared = None;
  stepped = false;
}

abbrev pub name_outcome : Site → List ℕ → Ahead → Outcome Finding
name_outcome site name a =
    Ok (name_finding site name (place_next a) (is_constant (known_next a)), past_known (past_place a))

-- the functions that look up textures (section 8.7)
abbrev pub is_look_up : List ℕ → Bool
is_look_up name = starts_with nat_eq name (codes "texture")

abbrev pub is_structure : Option Named → Bool
is_structure (Some names.Structure) = true
is_structure _ = false

-- whether a call makes a value of its arguments alone: a constructor, or a built-in function but a look-up; the name of a built-in
-- function has the number 0
abbrev pub makes : Site → Callee → ℕ → Bool
makes site (callee.Basic kind) number = true
makes site (callee.Name name) number = if number == 0 then not (is_look_up name) else is_structure (site.named number)

-- the number of what is called stands behind those of the arguments' names; a basic type has none
abbrev pub past_callee : Callee → Ahead → Ahead
past_callee (callee.Basic kind) a = a
past_callee (callee.Name name) a = past_place a

-- the parameters of what is called
abbrev pub called_parameters : Site → Callee → ℕ → List Parameter
called_parameters site (callee.Basic kind) number = []
called_parameters site (callee.Name name) number = parameters_of (site.named number)

-- 5 (section 4): the body of a loop doesn't pass its index to a parameter that gives a value back
abbrev pub call_outcome : Site → Callee → ℕ → Arguments → Ahead → Outcome Finding
call_outcome site called number arguments a =
    node (rule 5 arguments.index_out) (whole (makes site called number && arguments.made)) (past_callee called a)

-- # Operators

-- whether an operator before its operand changes it
abbrev pub changes : PrefixOperator → Bool
changes prefix.Increment = true
changes prefix.Decrement = true
changes _ = false

-- `++` and `--`: a step where the operand is the index
abbrev pub increment_outcome : Site → Finding → Ahead → Outcome Finding
increment_outcome site operand a = node (assigned_rule site operand) (record (whole operand.made) { stepped = operand.index }) a

abbrev pub prefix_outcome : Site → PrefixOperator → Finding → Ahead → Outcome Finding
prefix_outcome site operator operand a =
    if changes operator then increment_outcome site operand a else node None (whole operand.made) a

-- whether an operator compares two values
abbrev pub compares : BinaryOperator → Bool
compares binary.Less = true
compares binary.Greater = true
compares binary.LessEqual = true
compares binary.GreaterEqual = true
compares binary.Equal = true
compares binary.NotEqual = true
compares _ = false

-- the number of the index, where an operator compares it with a constant expression
abbrev pub compared_index : BinaryOperator → Finding → Finding → Option ℕ
compared_index operator left right = if compares operator && (left.index && right.constant) then left.variable else None

abbrev pub binary_finding : BinaryOperator → Finding → Finding → Finding
binary_finding operator left right = record (whole (left.made && right.made)) { compared = compared_index operator left right }

-- whether an assignment adds or subtracts
abbrev pub steps : AssignmentOperator → Bool
steps assignment.Add = true
steps assignment.Subtract = true
steps _ = false

abbrev pub assign_finding : AssignmentOperator → Finding → Finding → Finding
assign_finding operator target value =
    record (whole (target.made && value.made)) { stepped = steps operator && (target.index && value.constant) }

-- # Expressions

-- an expression in a place, and the facts past its names
pub record Part : Type 0 where
  pub walk : Site → Ahead → Outcome Finding
  pub names : Ahead → Ahead

-- past the names of some expressions in order
abbrev pub past_names : List Part → Ahead → Ahead
past_names [] a = a
past_names (first ∷ more) a = past_names more (first.names a)

-- the arguments of a call in order, for these parameters
abbrev pub arguments_outcome : Site → List Parameter → List Part → Ahead → Outcome Arguments
arguments_outcome site parameters [] a = Ok (no_arguments, a)
arguments_outcome site parameters (first ∷ more) a =
    and_then (first.walk site a) λ f. and_then (arguments_outcome site (drop 1 parameters) more f.1) λ others.
    Ok (with_argument site parameters f.0 others.0, others.1)

-- past the names of an expression
abbrev pub names_layer : Expr-F Part → Ahead → Ahead
names_layer (Expr-F.Name name) a = past_place a
names_layer (Expr-F.Int text) a = a
names_layer (Expr-F.Float text) a = a
names_layer (Expr-F.Truth value) a = a
names_layer (Expr-F.Bracket inner) a = inner.names a
names_layer (Expr-F.Call called arguments) a = past_callee called (past_names arguments a)
names_layer (Expr-F.CallVoid called) a = past_callee called a
names_layer (Expr-F.Index b i) a = i.names (b.names a)
names_layer (Expr-F.Field b name) a = b.names a
names_layer (Expr-F.Postfix operand operator) a = operand.names a
names_layer (Expr-F.Prefix operator operand) a = operand.names a
names_layer (Expr-F.Binary operator l r) a = r.names (l.names a)
names_layer (Expr-F.Conditional c t f) a = f.names (t.names (c.names a))
names_layer (Expr-F.Assign operator t v) a = v.names (t.names a)

-- a call
abbrev pub call : Site → Callee → ℕ → List Part → Ahead → Outcome Finding
call site called number arguments a =
    and_then (arguments_outcome site (called_parameters site called number) arguments a) λ all.
    call_outcome site called number all.0 all.1

-- an expression whose parts come to this
abbrev pub walk_layer : Expr-F Part → Site → Ahead → Outcome Finding
walk_layer (Expr-F.Name name) site a = name_outcome site name a
walk_layer (Expr-F.Int text) site a = node None (whole true) a
walk_layer (Expr-F.Float text) site a = node None (whole true) a
walk_layer (Expr-F.Truth value) site a = node None (whole true) a
walk_layer (Expr-F.Bracket inner) site a =
    and_then (inner.walk site a) λ f. node None (record (whole f.0.made) { variable = f.0.variable; root = f.0.root }) f.1
walk_layer (Expr-F.Call called arguments) site a = call site called (place_next (past_names arguments a)) arguments a
walk_layer (Expr-F.CallVoid called) site a = call site called (place_next a) [] a
walk_layer (Expr-F.Index b i) site a =
    and_then (b.walk site a) λ base. and_then (i.walk site base.1) λ index.
    node (index_rule site base.0 index.0) (record (whole (base.0.made && index.0.made)) { root = base.0.root }) index.1
walk_layer (Expr-F.Field b name) site a =
    and_then (b.walk site a) λ base. node None (record (whole base.0.made) { root = base.0.root }) base.1
walk_layer (Expr-F.Postfix o operator) site a = and_then (o.walk site a) λ operand. increment_outcome site operand.0 operand.1
walk_layer (Expr-F.Prefix operator o) site a = and_then (o.walk site a) λ operand. prefix_outcome site operator operand.0 operand.1
walk_layer (Expr-F.Binary operator l r) site a =
    and_then (l.walk site a) λ left. and_then (r.walk site left.1) λ right. node None (binary_finding operator left.0 right.0) right.1
walk_layer (Expr-F.Conditional c t f) site a =
    and_then (c.walk site a) λ test. and_then (t.walk site test.1) λ yes. and_then (f.walk site yes.1) λ no.
    node None (whole (test.0.made && (yes.0.made && no.0.made))) no.1
walk_layer (Expr-F.Assign operator t v) site a =
    and_then (t.walk site a) λ target. and_then (v.walk site target.1) λ value.
    node (assigned_rule site target.0) (assign_finding operator target.0 value.0) value.1

abbrev pub part_layer : Expr-F Part → Part
part_layer e = record { walk = walk_layer e; names = names_layer e }

unfoldable pub part : Expr → Part
part = fold-Expr Part part_layer

-- an expression in a place: what is found of it, or the first rule that is broken
abbrev pub expression : Expr → Site → Ahead → Outcome Finding
expression e = (part e).walk

-- the facts past the names of an expression
abbrev pub past_name : Expr → Ahead → Ahead
past_name e = (part e).names
