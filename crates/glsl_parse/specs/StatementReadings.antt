-- Statements (GLSL ES 1.00.17 chapter 6, and `statement` of chapter 9) and whole shaders, read from the left.
use Rattle.std.specs.Prelude.{ℕ, zero, suc, if◌then◌else◌, List, [], ◌∷◌, ◌++◌, codes, Option, Some, None}
use Rattle.glsl_tree.specs.declared.statements.Condition.{Condition}
use Rattle.glsl_tree.specs.declared.statements.Condition.TheVariants as condition
use Rattle.glsl_tree.specs.declared.statements.Start.{Start}
use Rattle.glsl_tree.specs.declared.statements.Start.TheVariants as start
use Rattle.glsl_tree.specs.declared.statements.Stmt.{Stmt}
use Rattle.glsl_tree.specs.declared.statements.Stmt.TheVariants as statement
use Rattle.glsl_tree.specs.declared.statements.Item.{Item}
use Rattle.glsl_tree.specs.declared.statements.Item.TheVariants as item
use Rattle.glsl_tree.specs.declared.declarations.Head.{Head}
use Rattle.glsl_tree.specs.declared.declarations.Decl.TheVariants as declaration
use Rattle.glsl_tree.specs.declared.expressions.Expr.{Expr}
use Rattle.glsl_tree.specs.Operators.{any_level, assignment_level}
use Rattle.glsl_tree.specs.Token.{PlainToken}
use Rattle.glsl_parse.specs.Readings.{Reads, after, past, made, below, Turn, Stop, Go, looped}
use Rattle.glsl_parse.specs.Symbols.{leader_of, after_mark, after_word, begins_with_mark, name_at}
use Rattle.glsl_parse.specs.ExpressionReadings.{expression, after_first}
use Rattle.glsl_parse.specs.TypeReadings.{full_type}
use Rattle.glsl_parse.specs.DeclarationReadings.{declaration_at, declares, begun_at}
use Rattle.glsl_parse.specs.declared.symbols.Begun.{Begun}
use Rattle.glsl_parse.specs.declared.symbols.Begun.TheVariants as begun
use Rattle.glsl_parse.specs.declared.symbols.Header.{Header}
use Rattle.glsl_parse.specs.declared.symbols.Leader.{Leader}
use Rattle.glsl_parse.specs.declared.symbols.Leader.TheVariants as leader

-- an expression of any level
abbrev pub any_expression : ℕ → Reads Expr
any_expression n list = expression n any_level list

-- an expression, and the bracket that closes it
unfoldable pub closed_expression : ℕ → Reads Expr
closed_expression n list = after (any_expression n list) (λ e rest. past (after_mark (codes ")") rest) (λ rest. Some (e, rest)))

-- an expression in brackets
unfoldable pub test_at : ℕ → Reads Expr
test_at n list = past (after_mark (codes "(") list) (closed_expression n)

-- an expression, and a semicolon
unfoldable pub ended_expression : ℕ → Reads Expr
ended_expression n list = after (any_expression n list) (λ e rest. past (after_mark (codes ";") rest) (λ rest. Some (e, rest)))

-- the declaration in a condition, where its parts have at most this height
unfoldable pub declared_condition : ℕ → Reads Condition
declared_condition n list = after (full_type n list) (λ full rest. after (name_at rest) (λ text rest.
    past (after_mark (codes "=") rest) (λ rest. made (condition.Declared full text) (expression n assignment_level rest))))

-- the condition of a loop (section 6.3), of at most this height
unfoldable pub condition_at : ℕ → Reads Condition
condition_at room list =
    if declares list then below room (λ n. declared_condition n list) else made condition.Expression (any_expression room list)

-- a condition, and the bracket that closes it
unfoldable pub closed_condition : ℕ → Reads Condition
closed_condition n list = after (condition_at n list) (λ test rest. past (after_mark (codes ")") rest) (λ rest. Some (test, rest)))

-- a condition that may be left out, and a semicolon
unfoldable pub optional_condition : ℕ → Reads (Option Condition)
optional_condition n list = elim (after_mark (codes ";") list) [
  | Some rest ↦ Some (None, rest)
  | None ↦ after (condition_at n list) (λ test rest. past (after_mark (codes ";") rest) (λ rest. Some (Some test, rest)))
]

-- the last part in the brackets of a `for`, which may be left out, and the bracket that closes them
unfoldable pub optional_step : ℕ → Reads (Option Expr)
optional_step n list = elim (after_mark (codes ")") list) [
  | Some rest ↦ Some (None, rest)
  | None ↦ made Some (closed_expression n list)
]

-- the first part in the brackets of a `for`, with its semicolon
unfoldable pub start_at : ℕ → Reads Start
start_at n list = elim (after_mark (codes ";") list) [
  | Some rest ↦ Some (start.Empty, rest)
  | None ↦ if declares list then made start.Declaration (declaration_at n list) else made start.Expression (ended_expression n list)
]

-- the value that a function returns, which may be left out, and a semicolon
unfoldable pub optional_value : ℕ → Reads (Option Expr)
optional_value n list = elim (after_mark (codes ";") list) [
  | Some rest ↦ Some (None, rest)
  | None ↦ made Some (ended_expression n list)
]

-- one more statement of a block, unless the block ends here
unfoldable pub more_statements : Reads Stmt → List Stmt → List PlainToken → Turn (List Stmt)
more_statements inner done list = if begins_with_mark (codes "}") list then Stop else Go (made (λ s. done ++ s ∷ []) (inner list))

-- the statements before a closing brace
abbrev pub statements : Reads Stmt → Reads (List Stmt)
statements inner list = looped (more_statements inner) [] list

-- the statements of a block, and the brace that closes it
unfoldable pub statements_at : Reads Stmt → Reads (List Stmt)
statements_at inner list = after (statements inner list) (λ all rest.
    past (after_mark (codes "}") rest) (λ rest. Some (all, rest)))

-- a choice, after its first branch: the `else` that follows belongs to it (section 6.2)
unfoldable pub choice_after : Reads Stmt → Expr → Stmt → Reads Stmt
choice_after inner test branch list = elim (after_word (codes "else") list) [
  | None ↦ Some (statement.If test branch None, list)
  | Some rest ↦ made (λ otherwise. statement.If test branch (Some otherwise)) (inner rest)
]

-- a choice, after `if`
unfoldable pub choice_at : ℕ → Reads Stmt → Reads Stmt
choice_at n inner list = after (test_at n list) (λ test rest. after (inner rest) (choice_after inner test))

-- a `while` loop, after `while`
unfoldable pub while_at : ℕ → Reads Stmt → Reads Stmt
while_at n inner list = past (after_mark (codes "(") list) (λ rest.
    after (closed_condition n rest) (λ test rest. made (statement.While test) (inner rest)))

-- a `do` loop, after `do`
unfoldable pub do_at : ℕ → Reads Stmt → Reads Stmt
do_at n inner list = after (inner list) (λ body rest. past (after_word (codes "while") rest) (λ rest.
    after (test_at n rest) (λ test rest. past (after_mark (codes ";") rest) (λ rest. Some (statement.Do body test, rest)))))

-- a `for` loop, after `for`
unfoldable pub for_at : ℕ → Reads Stmt → Reads Stmt
for_at n inner list = past (after_mark (codes "(") list) (λ rest. after (start_at n rest) (λ first rest.
    after (optional_condition n rest) (λ test rest. after (optional_step n rest) (λ step rest.
    made (statement.For first test step) (inner rest)))))

-- a statement of one word, after it, with its semicolon
abbrev pub jump : Stmt → Reads Stmt
jump s list = past (after_mark (codes ";") list) (λ rest. Some (s, rest))

-- a declaration or an expression as a statement
unfoldable pub simple_at : ℕ → Reads Stmt
simple_at n list =
    if declares list then made statement.Declaration (declaration_at n list) else made statement.Expression (ended_expression n list)

-- a statement of which its first token says what it is
unfoldable pub statement_led : ℕ → Reads Stmt → Leader → Reads Stmt
statement_led n inner leader.Block list = made statement.Block (statements_at inner (after_first list))
statement_led n inner leader.Empty list = Some (statement.Empty, after_first list)
statement_led n inner leader.If list = choice_at n inner (after_first list)
statement_led n inner leader.While list = while_at n inner (after_first list)
statement_led n inner leader.Do list = do_at n inner (after_first list)
statement_led n inner leader.For list = for_at n inner (after_first list)
statement_led n inner leader.Break list = jump statement.Break (after_first list)
statement_led n inner leader.Continue list = jump statement.Continue (after_first list)
statement_led n inner leader.Discard list = jump statement.Discard (after_first list)
statement_led n inner leader.Return list = made statement.Return (optional_value n (after_first list))
statement_led n inner leader.Other list = simple_at n list

-- a statement whose parts have at most this height, where this reads a statement in it
unfoldable pub statement_of : ℕ → Reads Stmt → Reads Stmt
statement_of n inner [] = None
statement_of n inner (t ∷ rest) = statement_led n inner (leader_of t) (t ∷ rest)

-- a statement of at most this height
unfoldable pub statement_at : ℕ → Reads Stmt
statement_at zero list = None
statement_at (suc n) list = statement_of n (statement_at n) list

-- the body of a function, after its opening brace, of at most this height
unfoldable pub body_at : ℕ → Reads (List Stmt)
body_at room list = below room (λ n. statements_at (statement_at n) list)

-- a function, after its head, where its parts have at most this height
unfoldable pub function_after : ℕ → Head → Reads Item
function_after n head list = past (after_mark (codes "{") list) (λ rest. made (item.Function head) (body_at n rest))

-- a prototype or a function, after its head
unfoldable pub headed_item : ℕ → Head → Reads Item
headed_item n head list = elim (after_mark (codes ";") list) [
  | Some rest ↦ Some (item.Declaration (declaration.Prototype head), rest)
  | None ↦ function_after n head list
]

-- a declaration or a function that has begun, with what ends it
abbrev pub ended_item : ℕ → Begun → Reads Item
ended_item n (begun.Whole d) list = Some (item.Declaration d, list)
ended_item n (begun.Headed head) list = headed_item n head list

-- a declaration or a function of at most this height
unfoldable pub item_at : ℕ → Reads Item
item_at room list = below room (λ n. after (begun_at n list) (ended_item n))

-- one more declaration or function, unless the shader ends here
unfoldable pub more_items : ℕ → List Item → List PlainToken → Turn (List Item)
more_items n done [] = Stop
more_items n done (t ∷ rest) = Go (made (λ i. done ++ i ∷ []) (item_at n (t ∷ rest)))

-- the declarations and functions of a shader, of at most this height each
unfoldable pub items_at : ℕ → Reads (List Item)
items_at n [] = None
items_at n (t ∷ rest) = looped (more_items n) [] (t ∷ rest)

abbrev pub parted : Start → Option Condition → Option Expr → Header
parted first test step = record { start = first; condition = test; step = step }

-- the three parts in the brackets of a `for`, after the opening bracket, with the closing one
unfoldable pub header_at : ℕ → Reads Header
header_at n list = after (start_at n list) (λ first rest.
    after (optional_condition n rest) (λ test rest. made (parted first test) (optional_step n rest)))
