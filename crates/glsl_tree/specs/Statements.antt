-- Statements (GLSL ES 1.00.17 chapter 6, and `statement` of chapter 9) and whole shaders: how each is spelled, what may
-- stand in it, and its height.
use Rattle.std.specs.Prelude.{◌≡◌, ℕ, ◌+◌, max, Bool, true, false, not, ◌&&◌, List, [], ◌∷◌, ◌++◌, map, codes, Option, Some, None}
use Rattle.std.specs.List.{list_all}
use Rattle.glsl_tree.specs.declared.statements.Condition.{Condition}
use Rattle.glsl_tree.specs.declared.statements.Condition.TheVariants as condition
use Rattle.glsl_tree.specs.declared.statements.Start.{Start}
use Rattle.glsl_tree.specs.declared.statements.Start.TheVariants as start
use Rattle.glsl_tree.specs.declared.statements.Stmt.{Stmt}
use Rattle.glsl_tree.specs.declared.statements.Stmt.TheOpen.{Stmt-F}
use Rattle.glsl_tree.specs.declared.statements.Stmt.TheFolds.{fold-Stmt}
use Rattle.glsl_tree.specs.declared.statements.Item.{Item}
use Rattle.glsl_tree.specs.declared.statements.Item.TheVariants as item
use Rattle.glsl_tree.specs.declared.statements.Unit as shader
use Rattle.glsl_tree.specs.declared.expressions.Expr.{Expr}
use Rattle.glsl_tree.specs.Operators.{any_level, assignment_level}
use Rattle.glsl_tree.specs.Expressions.{mark, word, name, expression_tokens, is_expression, expression_height, is_free, highest}
use Rattle.glsl_tree.specs.Types.{joined, is_any}
use Rattle.glsl_tree.specs.Declarations.{full_type_tokens, is_full_type, full_type_height, declaration_tokens, is_declaration, declaration_height, head_tokens, is_head, head_height}
use Rattle.glsl_tree.specs.Token.{PlainToken, plain_tokens}
use Rattle.glsl_tree.specs.declared.token.Token.{Token}

-- the tokens of an expression that may be left out
abbrev pub optional_tokens : Option Expr → List PlainToken
optional_tokens None = []
optional_tokens (Some e) = expression_tokens e

-- the tokens of a loop's condition (section 6.3)
abbrev pub condition_tokens : Condition → List PlainToken
condition_tokens (condition.Expression e) = expression_tokens e
condition_tokens (condition.Declared full text value) =
    full_type_tokens full ++ (name text ∷ mark (codes "=") ∷ expression_tokens value)

-- the tokens of a condition that may be left out
abbrev pub optional_condition_tokens : Option Condition → List PlainToken
optional_condition_tokens None = []
optional_condition_tokens (Some test) = condition_tokens test

-- the tokens of the first part in the brackets of a `for`, with its semicolon
abbrev pub start_tokens : Start → List PlainToken
start_tokens start.Empty = mark (codes ";") ∷ []
start_tokens (start.Expression e) = expression_tokens e ++ mark (codes ";") ∷ []
start_tokens (start.Declaration d) = declaration_tokens d

-- the tokens of a second branch that may be left out
abbrev pub else_tokens : Option (List PlainToken) → List PlainToken
else_tokens None = []
else_tokens (Some branch) = word (codes "else") ∷ branch

-- a word, and an expression in brackets
abbrev pub test_tokens : List ℕ → Expr → List PlainToken
test_tokens text test = word text ∷ mark (codes "(") ∷ (expression_tokens test ++ mark (codes ")") ∷ [])

-- the tokens of a `while` loop before its body
abbrev pub while_tokens : Condition → List PlainToken
while_tokens test = word (codes "while") ∷ mark (codes "(") ∷ (condition_tokens test ++ mark (codes ")") ∷ [])

-- the tokens of a `for` loop before its body
abbrev pub for_tokens : Start → Option Condition → Option Expr → List PlainToken
for_tokens first test step = word (codes "for") ∷ mark (codes "(") ∷ (start_tokens first ++ (optional_condition_tokens test
    ++ (mark (codes ";") ∷ (optional_tokens step ++ mark (codes ")") ∷ []))))

-- a word and a semicolon
abbrev pub jump_tokens : List ℕ → List PlainToken
jump_tokens text = word text ∷ mark (codes ";") ∷ []

-- the tokens of a statement whose parts have these tokens
abbrev pub statement_layer : Stmt-F (List PlainToken) → List PlainToken
statement_layer (Stmt-F.Block statements) = mark (codes "{") ∷ (joined statements ++ mark (codes "}") ∷ [])
statement_layer (Stmt-F.Declaration d) = declaration_tokens d
statement_layer Stmt-F.Empty = mark (codes ";") ∷ []
statement_layer (Stmt-F.Expression e) = expression_tokens e ++ mark (codes ";") ∷ []
statement_layer (Stmt-F.If test branch otherwise) = test_tokens (codes "if") test ++ (branch ++ else_tokens otherwise)
statement_layer (Stmt-F.While test body) = while_tokens test ++ body
statement_layer (Stmt-F.Do body test) = word (codes "do") ∷ (body ++ (test_tokens (codes "while") test ++ mark (codes ";") ∷ []))
statement_layer (Stmt-F.For first test step body) = for_tokens first test step ++ body
statement_layer Stmt-F.Break = jump_tokens (codes "break")
statement_layer Stmt-F.Continue = jump_tokens (codes "continue")
statement_layer Stmt-F.Discard = jump_tokens (codes "discard")
statement_layer (Stmt-F.Return value) = word (codes "return") ∷ (optional_tokens value ++ mark (codes ";") ∷ [])

-- the tokens that a statement is spelled with
unfoldable pub statement_tokens : Stmt → List PlainToken
statement_tokens = fold-Stmt (List PlainToken) statement_layer

-- the tokens of a block
abbrev pub block_tokens : List Stmt → List PlainToken
block_tokens statements = mark (codes "{") ∷ (joined (map statement_tokens statements) ++ mark (codes "}") ∷ [])

-- the tokens of a declaration or a function
abbrev pub item_tokens : Item → List PlainToken
item_tokens (item.Declaration d) = declaration_tokens d
item_tokens (item.Function head body) = head_tokens head ++ block_tokens body

-- the tokens of a shader, each on no line
abbrev pub unit_tokens : shader.Unit → List PlainToken
unit_tokens unit = joined (map item_tokens unit.items)

-- a token on no line
abbrev pub without_line : PlainToken → PlainToken
without_line t = record t { line = 0 }

-- the tree spells these tokens: their texts and their classes are its own
abbrev pub Spells : shader.Unit → List Token → Type 0
Spells unit tokens = map without_line (plain_tokens tokens) ≡ unit_tokens unit

-- what is asked of a statement: whether an `if` without `else` ends it, and whether what stands in it is well formed
pub record Shape : Type 0 where
  pub is_open : Bool
  pub fits : Bool

-- a statement that no open `if` ends
abbrev pub closed : Bool → Shape
closed fits = record { is_open = false; fits = fits }

-- whether an expression that may be left out is well formed
abbrev pub is_optional : Option Expr → Bool
is_optional None = true
is_optional (Some e) = is_expression any_level e

-- whether a loop's condition is well formed
abbrev pub is_condition : Condition → Bool
is_condition (condition.Expression e) = is_expression any_level e
is_condition (condition.Declared full text value) = is_full_type full && (is_free text && is_expression assignment_level value)

-- whether a condition that may be left out is well formed
abbrev pub is_optional_condition : Option Condition → Bool
is_optional_condition None = true
is_optional_condition (Some test) = is_condition test

-- whether the first part of a `for` is well formed
abbrev pub is_start : Start → Bool
is_start start.Empty = true
is_start (start.Expression e) = is_expression any_level e
is_start (start.Declaration d) = is_declaration d

-- the shape of an `if`: its `else` belongs to the nearest `if` that is open (section 6.2), so none may end the branch before it
abbrev pub choice : Bool → Shape → Option Shape → Shape
choice fits branch None = record { is_open = true; fits = fits && branch.fits }
choice fits branch (Some otherwise) =
    record { is_open = otherwise.is_open; fits = fits && (branch.fits && (not branch.is_open && otherwise.fits)) }

-- the shape of a statement whose parts have these shapes
abbrev pub shape_layer : Stmt-F Shape → Shape
shape_layer (Stmt-F.Block statements) = closed (list_all (λ s. s.fits) statements)
shape_layer (Stmt-F.Declaration d) = closed (is_declaration d)
shape_layer Stmt-F.Empty = closed true
shape_layer (Stmt-F.Expression e) = closed (is_expression any_level e)
shape_layer (Stmt-F.If test branch otherwise) = choice (is_expression any_level test) branch otherwise
shape_layer (Stmt-F.While test body) = record { is_open = body.is_open; fits = is_condition test && body.fits }
shape_layer (Stmt-F.Do body test) = closed (body.fits && is_expression any_level test)
shape_layer (Stmt-F.For first test step body) =
    record { is_open = body.is_open; fits = is_start first && (is_optional_condition test && (is_optional step && body.fits)) }
shape_layer Stmt-F.Break = closed true
shape_layer Stmt-F.Continue = closed true
shape_layer Stmt-F.Discard = closed true
shape_layer (Stmt-F.Return value) = closed (is_optional value)

-- the shape of a statement
unfoldable pub statement_shape : Stmt → Shape
statement_shape = fold-Stmt Shape shape_layer

-- whether the statements of a block are well formed
abbrev pub is_block : List Stmt → Bool
is_block statements = list_all (λ s. (statement_shape s).fits) statements

-- whether a declaration or a function is well formed
abbrev pub is_item : Item → Bool
is_item (item.Declaration d) = is_declaration d
is_item (item.Function head body) = is_head head && is_block body

-- a shader is well formed: it has a declaration or a function, and each of them is well formed
abbrev pub WellFormedTree : shader.Unit → Type 0
WellFormedTree unit = (is_any unit.items && list_all is_item unit.items) ≡ true

-- the height of an expression that may be left out
abbrev pub optional_height : Option Expr → ℕ
optional_height None = 0
optional_height (Some e) = expression_height e

-- the height of a loop's condition, where a declaration is a node
abbrev pub condition_height : Condition → ℕ
condition_height (condition.Expression e) = expression_height e
condition_height (condition.Declared full text value) = max (full_type_height full) (expression_height value) + 1

-- the height of a condition that may be left out
abbrev pub optional_condition_height : Option Condition → ℕ
optional_condition_height None = 0
optional_condition_height (Some test) = condition_height test

-- the height of the first part of a `for`
abbrev pub start_height : Start → ℕ
start_height start.Empty = 0
start_height (start.Expression e) = expression_height e
start_height (start.Declaration d) = declaration_height d

-- a height that may be left out
abbrev pub height_or_none : Option ℕ → ℕ
height_or_none None = 0
height_or_none (Some height) = height

-- the height of a statement whose parts have these heights
abbrev pub statement_height_layer : Stmt-F ℕ → ℕ
statement_height_layer (Stmt-F.Block statements) = highest statements + 1
statement_height_layer (Stmt-F.Declaration d) = declaration_height d + 1
statement_height_layer Stmt-F.Empty = 1
statement_height_layer (Stmt-F.Expression e) = expression_height e + 1
statement_height_layer (Stmt-F.If test branch otherwise) = max (expression_height test) (max branch (height_or_none otherwise)) + 1
statement_height_layer (Stmt-F.While test body) = max (condition_height test) body + 1
statement_height_layer (Stmt-F.Do body test) = max body (expression_height test) + 1
statement_height_layer (Stmt-F.For first test step body) =
    max (start_height first) (max (optional_condition_height test) (max (optional_height step) body)) + 1
statement_height_layer Stmt-F.Break = 1
statement_height_layer Stmt-F.Continue = 1
statement_height_layer Stmt-F.Discard = 1
statement_height_layer (Stmt-F.Return value) = optional_height value + 1

-- the number of nodes on the longest path through a statement
unfoldable pub statement_height : Stmt → ℕ
statement_height = fold-Stmt ℕ statement_height_layer

-- the height of a block
abbrev pub block_height : List Stmt → ℕ
block_height statements = highest (map statement_height statements) + 1

-- the height of a declaration or a function
abbrev pub item_height : Item → ℕ
item_height (item.Declaration d) = declaration_height d
item_height (item.Function head body) = max (head_height head) (block_height body) + 1

-- the number of nodes on the longest path through a shader
abbrev pub unit_height : shader.Unit → ℕ
unit_height unit = highest (map item_height unit.items) + 1
