-- Expressions (GLSL ES 1.00.17 chapter 5, and `expression` of chapter 9): how each is spelled, what may stand in it, and
-- its height.
use Rattle.std.specs.Prelude.{ℕ, ◌+◌, max, Bool, true, false, not, ◌&&◌, if◌then◌else◌, nat_le, List, [], ◌∷◌, ◌++◌, codes}
use Rattle.std.specs.List.{list_all}
use Rattle.glsl_tree.specs.declared.token.Class.{Class}
use Rattle.glsl_tree.specs.declared.token.Class.TheVariants.{Identifier, Keyword, Int, Float, Punct}
use Rattle.glsl_tree.specs.declared.expressions.Callee.{Callee}
use Rattle.glsl_tree.specs.declared.expressions.Callee.TheVariants as callee
use Rattle.glsl_tree.specs.declared.expressions.Expr.{Expr}
use Rattle.glsl_tree.specs.declared.expressions.Expr.TheOpen.{Expr-F}
use Rattle.glsl_tree.specs.declared.expressions.Expr.TheFolds.{fold-Expr}
use Rattle.glsl_tree.specs.Operators.{binary_text, assignment_text, prefix_text, postfix_text, any_level, assignment_level, conditional_level, or_level, prefix_level, postfix_level, primary_level, binary_level}
use Rattle.glsl_tree.specs.Qualifiers.{basic_text}
use Rattle.glsl_tree.specs.Spellings.{is_keyword}
use Rattle.glsl_tree.specs.Token.{PlainToken}

-- a token of a class, on no line
abbrev pub token : Class → List ℕ → PlainToken
token class text = record { text = text; class = class; line = 0 }

-- an operator or a mark
abbrev pub mark : List ℕ → PlainToken
mark text = token Punct text

-- a word of the language
abbrev pub word : List ℕ → PlainToken
word text = token Keyword text

-- a name
abbrev pub name : List ℕ → PlainToken
name text = token Identifier text

-- the comma before each part of a list but the first
abbrev pub comma : Bool → List PlainToken
comma true = []
comma false = mark (codes ",") ∷ []

-- lists of tokens with commas between them, of which the first may stand after others
abbrev pub listed : Bool → List (List PlainToken) → List PlainToken
listed is_first [] = []
listed is_first (first ∷ more) = comma is_first ++ (first ++ listed false more)

-- lists of tokens with commas between them
abbrev pub separated : List (List PlainToken) → List PlainToken
separated parts = listed true parts

-- what a call names
abbrev pub callee_token : Callee → PlainToken
callee_token (callee.Name text) = name text
callee_token (callee.Basic kind) = word (basic_text kind)

-- the tokens of an expression whose parts have these tokens
abbrev pub expression_layer : Expr-F (List PlainToken) → List PlainToken
expression_layer (Expr-F.Name text) = name text ∷ []
expression_layer (Expr-F.Int text) = token Int text ∷ []
expression_layer (Expr-F.Float text) = token Float text ∷ []
expression_layer (Expr-F.Truth value) = word (if value then codes "true" else codes "false") ∷ []
expression_layer (Expr-F.Bracket inner) = mark (codes "(") ∷ (inner ++ mark (codes ")") ∷ [])
expression_layer (Expr-F.Call called arguments) =
    callee_token called ∷ mark (codes "(") ∷ (separated arguments ++ mark (codes ")") ∷ [])
expression_layer (Expr-F.CallVoid called) =
    callee_token called ∷ mark (codes "(") ∷ word (codes "void") ∷ mark (codes ")") ∷ []
expression_layer (Expr-F.Index base index) = base ++ (mark (codes "[") ∷ (index ++ mark (codes "]") ∷ []))
expression_layer (Expr-F.Field base field) = base ++ mark (codes ".") ∷ name field ∷ []
expression_layer (Expr-F.Postfix operand operator) = operand ++ mark (postfix_text operator) ∷ []
expression_layer (Expr-F.Prefix operator operand) = mark (prefix_text operator) ∷ operand
expression_layer (Expr-F.Binary operator left right) = left ++ (mark (binary_text operator) ∷ right)
expression_layer (Expr-F.Conditional condition if_true if_false) =
    condition ++ (mark (codes "?") ∷ (if_true ++ (mark (codes ":") ∷ if_false)))
expression_layer (Expr-F.Assign operator target value) = target ++ (mark (assignment_text operator) ∷ value)

-- the tokens that an expression is spelled with
unfoldable pub expression_tokens : Expr → List PlainToken
expression_tokens = fold-Expr (List PlainToken) expression_layer

-- what is asked of an expression: its level of section 5.1, and whether each operand in it has a level that is allowed in
-- its place
pub record Grade : Type 0 where
  pub level : ℕ
  pub fits : Bool

-- whether an expression may stand where this level is asked for
abbrev pub stands : ℕ → Grade → Bool
stands level grade = grade.fits && nat_le level grade.level

-- whether a text is a name: no word that the grammar writes out or reserves is one (section 3.7)
abbrev pub is_free : List ℕ → Bool
is_free text = not (is_keyword text)

-- whether a call may name this
abbrev pub is_callee : Callee → Bool
is_callee (callee.Name text) = is_free text
is_callee (callee.Basic kind) = true

-- the grade of an expression whose parts have these grades
abbrev pub grade_layer : Expr-F Grade → Grade
grade_layer (Expr-F.Name text) = record { level = primary_level; fits = is_free text }
grade_layer (Expr-F.Int text) = record { level = primary_level; fits = true }
grade_layer (Expr-F.Float text) = record { level = primary_level; fits = true }
grade_layer (Expr-F.Truth value) = record { level = primary_level; fits = true }
grade_layer (Expr-F.Bracket inner) = record { level = primary_level; fits = stands any_level inner }
grade_layer (Expr-F.Call called arguments) =
    record { level = primary_level; fits = is_callee called && list_all (stands assignment_level) arguments }
grade_layer (Expr-F.CallVoid called) = record { level = primary_level; fits = is_callee called }
grade_layer (Expr-F.Index base index) = record { level = postfix_level; fits = stands postfix_level base && stands any_level index }
grade_layer (Expr-F.Field base field) = record { level = postfix_level; fits = stands postfix_level base && is_free field }
grade_layer (Expr-F.Postfix operand operator) = record { level = postfix_level; fits = stands postfix_level operand }
grade_layer (Expr-F.Prefix operator operand) = record { level = prefix_level; fits = stands prefix_level operand }
grade_layer (Expr-F.Binary operator left right) = record {
  level = binary_level operator;
  fits = stands (binary_level operator) left && stands (binary_level operator + 1) right;
}
grade_layer (Expr-F.Conditional condition if_true if_false) = record {
  level = conditional_level;
  fits = stands or_level condition && (stands any_level if_true && stands assignment_level if_false);
}
grade_layer (Expr-F.Assign operator target value) =
    record { level = assignment_level; fits = stands prefix_level target && stands assignment_level value }

-- the grade of an expression
unfoldable pub grade : Expr → Grade
grade = fold-Expr Grade grade_layer

-- whether an expression is well formed and may stand where this level is asked for
abbrev pub is_expression : ℕ → Expr → Bool
is_expression level e = stands level (grade e)

-- the largest of some heights, and 0 of none
unfoldable pub highest : List ℕ → ℕ
highest [] = 0
highest (height ∷ heights) = max height (highest heights)

-- the height of an expression whose parts have these heights; the name that is called and the name of a field are no
-- nodes
abbrev pub height_layer : Expr-F ℕ → ℕ
height_layer (Expr-F.Name text) = 1
height_layer (Expr-F.Int text) = 1
height_layer (Expr-F.Float text) = 1
height_layer (Expr-F.Truth value) = 1
height_layer (Expr-F.Bracket inner) = inner + 1
height_layer (Expr-F.Call called arguments) = highest arguments + 1
height_layer (Expr-F.CallVoid called) = 1
height_layer (Expr-F.Index base index) = max base index + 1
height_layer (Expr-F.Field base field) = base + 1
height_layer (Expr-F.Postfix operand operator) = operand + 1
height_layer (Expr-F.Prefix operator operand) = operand + 1
height_layer (Expr-F.Binary operator left right) = max left right + 1
height_layer (Expr-F.Conditional condition if_true if_false) = max condition (max if_true if_false) + 1
height_layer (Expr-F.Assign operator target value) = max target value + 1

-- the number of nodes on the longest path through an expression
unfoldable pub expression_height : Expr → ℕ
expression_height = fold-Expr ℕ height_layer
