-- The spelling of a well-formed statement is read as that statement, where no `else` follows an open `if` at its end.
use Rattle.std.proofs.Common.{◌≡◌, ◌≤◌, ◌<◌, ◌+◌, ℕ, zero, suc, Bool, true, false, not, ◌&&◌, cond, List, [], ◌∷◌, ◌++◌, map, length, Option, Some, None, codes, refl, sym, ap, ◌∙◌, append_assoc, arith}
use Rattle.std.specs.List.{list_all}
use Rattle.std.proofs.lemmas.Bool.{and_parts}
use Rattle.glsl_tree.specs.declared.statements.Condition.{Condition}
use Rattle.glsl_tree.specs.declared.statements.Condition.TheVariants as condition
use Rattle.glsl_tree.specs.declared.statements.Start.{Start}
use Rattle.glsl_tree.specs.declared.statements.Start.TheVariants as start
use Rattle.glsl_tree.specs.declared.statements.Stmt.{Stmt}
use Rattle.glsl_tree.specs.declared.statements.Stmt.TheVariants as statement
use Rattle.glsl_tree.specs.declared.statements.Stmt.TheOpen.{Stmt-F}
use Rattle.glsl_tree.specs.declared.statements.Stmt.TheViews.{roll-Stmt}
use Rattle.glsl_tree.specs.declared.declarations.FullType.{FullType}
use Rattle.glsl_tree.specs.declared.declarations.Decl.{Decl}
use Rattle.glsl_tree.specs.declared.expressions.Expr.{Expr}
use Rattle.glsl_tree.specs.Operators.{any_level, assignment_level}
use Rattle.glsl_tree.specs.Expressions.{mark, word, name, grade, expression_tokens, is_expression, expression_height, is_free}
use Rattle.glsl_tree.specs.Types.{joined}
use Rattle.glsl_tree.specs.Declarations.{full_type_tokens, is_full_type, full_type_height, declaration_tokens, is_declaration, declaration_height}
use Rattle.glsl_tree.specs.Statements.{condition_tokens, optional_condition_tokens, start_tokens, test_tokens, statement_tokens, Shape, is_optional, is_condition, is_optional_condition, is_start, statement_shape, is_block, optional_height, condition_height, optional_condition_height, start_height, statement_height}
use Rattle.glsl_tree.specs.Token.{PlainToken}
use Rattle.glsl_parse.specs.Readings.{Reads, after, past, made, below, Stop, Go}
use Rattle.glsl_parse.specs.Symbols.{is_mark, is_word, leader_of, after_mark, after_word, name_at}
use Rattle.glsl_parse.specs.ExpressionReadings.{expression}
use Rattle.glsl_parse.specs.DeclarationReadings.{declaration_at, declares}
use Rattle.glsl_parse.specs.StatementReadings.{any_expression, closed_expression, test_at, ended_expression, declared_condition, condition_at, closed_condition, optional_condition, optional_step, start_at, optional_value, more_statements, statements_at, choice_after, choice_at, while_at, do_at, for_at, simple_at, statement_led, statement_of, statement_at}
use Rattle.glsl_parse.proofs.SoundItems.{Fits, all_from}
use Rattle.glsl_parse.proofs.SoundStatements.{closed_tokens, bracket_tokens, ended_tokens, closed_condition_tokens, ended_condition_tokens, closed_step_tokens, ended_value_tokens, is_statement, braced_tokens, statements_height}
use Rattle.glsl_parse.proofs.CompleteJoined.{BeginsWith, begins_on, begins_as, begins_at, at_first, joined_complete}
use Rattle.glsl_parse.proofs.CompleteExpressions.{EndsAll, ends_at_bracket, ends_at_semicolon}
use Rattle.glsl_parse.proofs.ExpressionStarts.{starts, stood, no_closing}
use Rattle.glsl_parse.proofs.CompleteTypes.{expression_closed, name_complete, full_type_complete}
use Rattle.glsl_parse.proofs.DeclarationStarts.{undeclared, mark_no_name, Leads, expression_leads, full_leads}
use Rattle.glsl_parse.proofs.CompleteDeclarations.{named_declares, declaration_declares, declaration_leads, declaration_complete}
use Rattle.glsl_parse.proofs.StatementNodes.{tokens_of, shape_of, height_of, from_layers, has_height}

closed_expression_complete : (n : ℕ) (e : Expr) (rest : List PlainToken) → is_expression any_level e ≡ true → expression_height e ≤ n
    → closed_expression n (closed_tokens e ++ rest) ≡ Some (e, rest)
unfolding closed_expression after_mark is_mark
closed_expression_complete n e rest fits high =
    ap (closed_expression n) (append_assoc (expression_tokens e) (mark (codes ")") ∷ []) rest)
    ∙ ap (λ r. after r (λ e rest. past (after_mark (codes ")") rest) (λ rest. Some (e, rest))))
    (expression_closed n any_level e (mark (codes ")")) rest (omega arith) ends_at_bracket fits high)

test_complete : (n : ℕ) (e : Expr) (rest : List PlainToken) → is_expression any_level e ≡ true → expression_height e ≤ n
    → test_at n (bracket_tokens e ++ rest) ≡ Some (e, rest)
unfolding test_at after_mark is_mark
test_complete n e rest fits high = closed_expression_complete n e rest fits high

ended_expression_complete : (n : ℕ) (e : Expr) (rest : List PlainToken) → is_expression any_level e ≡ true → expression_height e ≤ n
    → ended_expression n (ended_tokens e ++ rest) ≡ Some (e, rest)
unfolding ended_expression after_mark is_mark
ended_expression_complete n e rest fits high =
    ap (ended_expression n) (append_assoc (expression_tokens e) (mark (codes ";") ∷ []) rest)
    ∙ ap (λ r. after r (λ e rest. past (after_mark (codes ";") rest) (λ rest. Some (e, rest))))
    (expression_closed n any_level e (mark (codes ";")) rest (omega arith) ends_at_semicolon fits high)

declared_condition_complete : (n : ℕ) (full : FullType) (text : List ℕ) (value : Expr) (m : PlainToken) (rest : List PlainToken)
    → EndsAll m → Fits is_full_type full_type_height n full → is_free text ≡ true
    → is_expression assignment_level value ≡ true → expression_height value ≤ n
    → declared_condition n (full_type_tokens full ++ (name text ∷ mark (codes "=") ∷ (expression_tokens value ++ (m ∷ rest))))
    ≡ Some (condition.Declared full text value, m ∷ rest)
unfolding declared_condition after_mark is_mark
declared_condition_complete n full text value m rest ends fit free fits high =
    ap (λ r. after r (λ full rest. after (name_at rest)
    (λ text rest. past (after_mark (codes "=") rest)
    (λ rest. made (condition.Declared full text) (expression n assignment_level rest)))))
    (full_type_complete n full (name text ∷ mark (codes "=") ∷ (expression_tokens value ++ (m ∷ rest))) fit)
    ∙ ap (λ r. after r (λ text rest. past (after_mark (codes "=") rest)
    (λ rest. made (condition.Declared full text) (expression n assignment_level rest))))
    (name_complete text (mark (codes "=") ∷ (expression_tokens value ++ (m ∷ rest))) free)
    ∙ ap (made (condition.Declared full text)) (expression_closed n assignment_level value m rest (omega arith) ends fits high)

condition_complete : (room : ℕ) (c : Condition) (text : List ℕ) (rest : List PlainToken) → EndsAll (mark text) → is_condition c ≡ true
    → condition_height c ≤ room
    → condition_at room (condition_tokens c ++ (mark text ∷ rest)) ≡ Some (c, mark text ∷ rest)
unfolding condition_at
condition_complete room (condition.Expression e) text rest ends fits high =
    let k = stood any_level e fits in
    ap (λ b. cond b (below room (λ n. declared_condition n (expression_tokens e ++ (mark text ∷ rest))))
    (made condition.Expression (any_expression room (expression_tokens e ++ (mark text ∷ rest)))))
    (undeclared e k.fits (mark text ∷ rest) (mark_no_name text rest))
    ∙ ap (made condition.Expression) (expression_closed room any_level e (mark text) rest (omega arith) ends fits high)
condition_complete zero (condition.Declared full text' value) text rest ends fits high = absurd (omega arith)
condition_complete (suc n) (condition.Declared full text' value) text rest ends fits high =
    let a = and_parts _ _ fits in
    let b = and_parts _ _ a.1 in
    ap (condition_at (suc n)) (append_assoc (full_type_tokens full) (name text' ∷ mark (codes "=") ∷ expression_tokens value)
    (mark text ∷ rest))
    ∙ ap (λ b. cond b (declared_condition n (full_type_tokens full
    ++ (name text' ∷ mark (codes "=") ∷ (expression_tokens value ++ (mark text ∷ rest)))))
    (made condition.Expression (any_expression (suc n)
    (full_type_tokens full ++ (name text' ∷ mark (codes "=") ∷ (expression_tokens value ++ (mark text ∷ rest)))))))
    (named_declares full text' (mark (codes "=") ∷ (expression_tokens value ++ (mark text ∷ rest))) a.0 b.0)
    ∙ declared_condition_complete n full text' value (mark text) rest ends (record { fits = a.0; high = omega (arith, high) }) b.0 b.1
    (omega (arith, high))

closed_condition_complete : (n : ℕ) (c : Condition) (rest : List PlainToken) → is_condition c ≡ true → condition_height c ≤ n
    → closed_condition n (closed_condition_tokens c ++ rest) ≡ Some (c, rest)
unfolding closed_condition after_mark is_mark
closed_condition_complete n c rest fits high =
    ap (closed_condition n) (append_assoc (condition_tokens c) (mark (codes ")") ∷ []) rest)
    ∙ ap (λ r. after r (λ test rest. past (after_mark (codes ")") rest) (λ rest. Some (test, rest))))
    (condition_complete n c (codes ")") rest ends_at_bracket fits high)

condition_leads : (c : Condition) → is_condition c ≡ true → BeginsWith Leads (condition_tokens c)
condition_leads (condition.Expression e) fits = expression_leads e (stood any_level e fits).fits
condition_leads (condition.Declared full text value) fits = full_leads full _ (and_parts _ _ fits).0

-- no semicolon is there
no_semicolon : (list : List PlainToken) → BeginsWith Leads list → after_mark (codes ";") list ≡ None
unfolding after_mark
no_semicolon list b = at_first Leads (λ w. after_mark (codes ";") w ≡ None) list b
    (λ t more l. ap (λ b. cond b (Some more) None) l.no_semicolon)

optional_condition_complete : (n : ℕ) (c : Option Condition) (rest : List PlainToken) → is_optional_condition c ≡ true
    → optional_condition_height c ≤ n → optional_condition n (ended_condition_tokens c ++ rest) ≡ Some (c, rest)
unfolding optional_condition after_mark is_mark
optional_condition_complete n None rest fits high = refl
optional_condition_complete n (Some c) rest fits high =
    ap (optional_condition n) (append_assoc (condition_tokens c) (mark (codes ";") ∷ []) rest)
    ∙ ap (λ o. elim o [
      | Some rest ↦ Some (None, rest)
      | None ↦ after (condition_at n (condition_tokens c ++ (mark (codes ";") ∷ rest)))
          (λ test rest. past (after_mark (codes ";") rest) (λ rest. Some (Some test, rest)))
    ]) (no_semicolon (condition_tokens c ++ (mark (codes ";") ∷ rest))
    (begins_on Leads (condition_tokens c) (mark (codes ";") ∷ rest) (condition_leads c fits)))
    ∙ ap (λ r. after r (λ test rest. past (after_mark (codes ";") rest) (λ rest. Some (Some test, rest))))
    (condition_complete n c (codes ";") rest ends_at_semicolon fits high)

no_bracket : (e : Expr) (rest : List PlainToken) → (grade e).fits ≡ true → after_mark (codes ")") (expression_tokens e ++ rest) ≡ None
unfolding after_mark
no_bracket e rest fits =
    let s = starts e fits in
    ap (λ w. after_mark (codes ")") (w ++ rest)) s.are
    ∙ ap (λ b. cond b (Some (s.more ++ rest)) None) (no_closing (grade e).level s.first s.begins)

optional_step_complete : (n : ℕ) (e : Option Expr) (rest : List PlainToken) → is_optional e ≡ true → optional_height e ≤ n
    → optional_step n (closed_step_tokens e ++ rest) ≡ Some (e, rest)
unfolding optional_step after_mark is_mark
optional_step_complete n None rest fits high = refl
optional_step_complete n (Some e) rest fits high =
    ap (λ o. elim o [ Some rest ↦ Some (None, rest) | None ↦ made Some (closed_expression n (closed_tokens e ++ rest)) ])
    (ap (after_mark (codes ")")) (append_assoc (expression_tokens e) (mark (codes ")") ∷ []) rest)
    ∙ no_bracket e (mark (codes ")") ∷ rest) (stood any_level e fits).fits)
    ∙ ap (made Some) (closed_expression_complete n e rest fits high)

optional_value_complete : (n : ℕ) (e : Option Expr) (rest : List PlainToken) → is_optional e ≡ true → optional_height e ≤ n
    → optional_value n (ended_value_tokens e ++ rest) ≡ Some (e, rest)
unfolding optional_value after_mark is_mark
optional_value_complete n None rest fits high = refl
optional_value_complete n (Some e) rest fits high =
    ap (λ o. elim o [ Some rest ↦ Some (None, rest) | None ↦ made Some (ended_expression n (ended_tokens e ++ rest)) ])
    (no_semicolon (ended_tokens e ++ rest) (begins_on Leads (ended_tokens e) rest
    (begins_on Leads (expression_tokens e) (mark (codes ";") ∷ []) (expression_leads e (stood any_level e fits).fits))))
    ∙ ap (made Some) (ended_expression_complete n e rest fits high)

undeclared_ended : (e : Expr) (rest : List PlainToken) → is_expression any_level e ≡ true → declares (ended_tokens e ++ rest) ≡ false
undeclared_ended e rest fits = ap declares (append_assoc (expression_tokens e) (mark (codes ";") ∷ []) rest)
    ∙ undeclared e (stood any_level e fits).fits (mark (codes ";") ∷ rest) (mark_no_name (codes ";") rest)

empty_start : (n : ℕ) (rest : List PlainToken) → start_at n (mark (codes ";") ∷ rest) ≡ Some (start.Empty, rest)
unfolding start_at after_mark is_mark
empty_start n rest = refl

start_complete : (n : ℕ) (s : Start) (rest : List PlainToken) → is_start s ≡ true → start_height s ≤ n
    → start_at n (start_tokens s ++ rest) ≡ Some (s, rest)
unfolding start_at
start_complete n start.Empty rest fits high = empty_start n rest
start_complete n (start.Expression e) rest fits high =
    ap (λ o. elim o [
      | Some rest ↦ Some (start.Empty, rest)
      | None ↦ cond (declares (ended_tokens e ++ rest)) (made start.Declaration (declaration_at n (ended_tokens e ++ rest)))
          (made start.Expression (ended_expression n (ended_tokens e ++ rest)))
    ]) (no_semicolon (ended_tokens e ++ rest)
    (begins_on Leads (ended_tokens e) rest (begins_on Leads (expression_tokens e) (mark (codes ";") ∷ [])
    (expression_leads e (stood any_level e fits).fits))))
    ∙ ap (λ b. cond b (made start.Declaration (declaration_at n (ended_tokens e ++ rest)))
    (made start.Expression (ended_expression n (ended_tokens e ++ rest)))) (undeclared_ended e rest fits)
    ∙ ap (made start.Expression) (ended_expression_complete n e rest fits high)
start_complete n (start.Declaration d) rest fits high =
    ap (λ o. elim o [
      | Some rest ↦ Some (start.Empty, rest)
      | None ↦ cond (declares (declaration_tokens d ++ rest))
          (made start.Declaration (declaration_at n (declaration_tokens d ++ rest)))
          (made start.Expression (ended_expression n (declaration_tokens d ++ rest)))
    ]) (no_semicolon (declaration_tokens d ++ rest) (begins_on Leads (declaration_tokens d) rest (declaration_leads d fits)))
    ∙ ap (λ b. cond b (made start.Declaration (declaration_at n (declaration_tokens d ++ rest)))
    (made start.Expression (ended_expression n (declaration_tokens d ++ rest)))) (declaration_declares d rest fits)
    ∙ ap (made start.Declaration) (declaration_complete n d rest (record { fits = fits; high = high }))

-- a token that begins a statement
pub record Opens (t : PlainToken) : Type 0 where
  pub no_else : is_word (codes "else") t ≡ false
  pub no_brace : is_mark (codes "}") t ≡ false

opens_leads : (t : PlainToken) → Leads t → Opens t
opens_leads t l = record { no_else = l.no_else; no_brace = l.no_brace }

opens_brace : Opens (mark (codes "{"))
unfolding is_word is_mark
opens_brace = record { no_else = refl; no_brace = refl }

opens_semicolon : Opens (mark (codes ";"))
unfolding is_word is_mark
opens_semicolon = record { no_else = refl; no_brace = refl }

opens_if : Opens (word (codes "if"))
unfolding is_word is_mark
opens_if = record { no_else = refl; no_brace = refl }

opens_while : Opens (word (codes "while"))
unfolding is_word is_mark
opens_while = record { no_else = refl; no_brace = refl }

opens_do : Opens (word (codes "do"))
unfolding is_word is_mark
opens_do = record { no_else = refl; no_brace = refl }

opens_for : Opens (word (codes "for"))
unfolding is_word is_mark
opens_for = record { no_else = refl; no_brace = refl }

opens_break : Opens (word (codes "break"))
unfolding is_word is_mark
opens_break = record { no_else = refl; no_brace = refl }

opens_continue : Opens (word (codes "continue"))
unfolding is_word is_mark
opens_continue = record { no_else = refl; no_brace = refl }

opens_discard : Opens (word (codes "discard"))
unfolding is_word is_mark
opens_discard = record { no_else = refl; no_brace = refl }

opens_return : Opens (word (codes "return"))
unfolding is_word is_mark
opens_return = record { no_else = refl; no_brace = refl }

abbrev StatementOpens : List PlainToken → Shape → ℕ → Stmt → Type 0
StatementOpens tokens shape height s = shape.fits ≡ true → BeginsWith Opens tokens

opens_layer : (x : Stmt-F Stmt) → StatementOpens (tokens_of x) (shape_of x) (height_of x) (roll-Stmt x)
opens_layer (Stmt-F.Block all) fits = begins_at Opens _ _ opens_brace
opens_layer (Stmt-F.Declaration d) fits = begins_as Leads Opens _ opens_leads (declaration_leads d fits)
opens_layer Stmt-F.Empty fits = begins_at Opens _ _ opens_semicolon
opens_layer (Stmt-F.Expression e) fits =
    begins_as Leads Opens _ opens_leads (begins_on Leads (expression_tokens e) (mark (codes ";") ∷ [])
    (expression_leads e (stood any_level e fits).fits))
opens_layer (Stmt-F.If test branch None) fits = begins_at Opens _ _ opens_if
opens_layer (Stmt-F.If test branch (Some otherwise)) fits = begins_at Opens _ _ opens_if
opens_layer (Stmt-F.While test body) fits = begins_at Opens _ _ opens_while
opens_layer (Stmt-F.Do body test) fits = begins_at Opens _ _ opens_do
opens_layer (Stmt-F.For first test step body) fits = begins_at Opens _ _ opens_for
opens_layer Stmt-F.Break fits = begins_at Opens _ _ opens_break
opens_layer Stmt-F.Continue fits = begins_at Opens _ _ opens_continue
opens_layer Stmt-F.Discard fits = begins_at Opens _ _ opens_discard
opens_layer (Stmt-F.Return value) fits = begins_at Opens _ _ opens_return

statement_opens : (s : Stmt) → is_statement s ≡ true → BeginsWith Opens (statement_tokens s)
statement_opens = from_layers StatementOpens opens_layer

-- no `else` follows
abbrev pub NoElse : List PlainToken → Type 0
NoElse rest = after_word (codes "else") rest ≡ None

-- what reads each statement of at most this height whole, where no `else` follows an open `if` at its end
abbrev pub CompleteStatements : ℕ → Reads Stmt → Type 0
CompleteStatements n inner = (s : Stmt) (rest : List PlainToken) → Fits is_statement statement_height n s
    → ((statement_shape s).is_open ≡ true → NoElse rest) → inner (statement_tokens s ++ rest) ≡ Some (s, rest)

shapes_from : (all : List Stmt) → list_all (λ (s : Shape). s.fits) (map statement_shape all) ≡ true → list_all is_statement all ≡ true
shapes_from [] h = refl
shapes_from (s ∷ all) h = let both = and_parts _ _ h in let first = both.0 in let others =
    shapes_from all both.1 in both_true (is_statement s) (list_all is_statement all) first others
  where
    both_true : (a b : Bool) → a ≡ true → b ≡ true → (a && b) ≡ true
    both_true true b e f = f
    both_true false b e f = absurd cc

-- a branch that is not open
closed_lone : (b : Bool) (rest : List PlainToken) → not b ≡ true → b ≡ true → NoElse rest
closed_lone true rest e f = absurd cc
closed_lone false rest e f = absurd cc

module _ (n : ℕ) (inner : Reads Stmt) (complete : CompleteStatements n inner) where
  no_else_first : (s : Stmt) (rest : List PlainToken) → Fits is_statement statement_height n s → NoElse (statement_tokens s ++ rest)
  unfolding after_word
  no_else_first s rest fit = at_first Opens (λ w. after_word (codes "else") w ≡ None) (statement_tokens s ++ rest)
      (begins_on Opens (statement_tokens s) rest (statement_opens s fit.fits))
      (λ t more o. ap (λ b. cond b (Some more) None) o.no_else)

  statement_longer : (s : Stmt) → Fits is_statement statement_height n s → 0 < length (statement_tokens s)
  statement_longer s fit = at_first Opens (λ w. 0 < length w) (statement_tokens s) (statement_opens s fit.fits) (λ t more o. omega arith)

  statement_goes : (done : List Stmt) (s : Stmt) (rest : List PlainToken) → Fits is_statement statement_height n s
      → more_statements inner done (statement_tokens s ++ rest) ≡ Go (made (λ b. done ++ b ∷ []) (inner (statement_tokens s ++ rest)))
  unfolding more_statements
  statement_goes done s rest fit = at_first Opens (λ w. more_statements inner done w ≡ Go (made (λ b. done ++ b ∷ []) (inner w)))
      (statement_tokens s ++ rest) (begins_on Opens (statement_tokens s) rest (statement_opens s fit.fits))
      (λ t more o. ap (λ b. cond b Stop (Go (made (λ b. done ++ b ∷ []) (inner (t ∷ more))))) o.no_brace)

  brace_stops : (rest : List PlainToken) (done : List Stmt) → more_statements inner done (mark (codes "}") ∷ rest) ≡ Stop
  unfolding more_statements is_mark
  brace_stops rest done = refl

  brace_no_else : (rest : List PlainToken) → NoElse (mark (codes "}") ∷ rest)
  unfolding after_word is_word
  brace_no_else rest = refl

  pub statements_complete : (all : List Stmt) (rest : List PlainToken) → is_block all ≡ true → statements_height all ≤ n
      → statements_at inner (braced_tokens all ++ rest) ≡ Some (all, rest)
  unfolding statements_at after_mark is_mark
  statements_complete all rest fits high =
      ap (statements_at inner) (append_assoc (joined (map statement_tokens all)) (mark (codes "}") ∷ []) rest)
      ∙ ap (λ r. after r (λ all rest. past (after_mark (codes "}") rest) (λ rest. Some (all, rest))))
      (joined_complete inner (more_statements inner) statement_tokens (Fits is_statement statement_height n) (λ list. NoElse list)
      (λ s rest fit none. complete s rest fit (λ opened. none)) no_else_first statement_longer statement_goes
      all (mark (codes "}") ∷ rest) (all_from is_statement statement_height n all fits high) (brace_no_else rest) (brace_stops rest))

  choice_alone : (test : Expr) (branch : Stmt) (rest : List PlainToken) → is_expression any_level test ≡ true
      → expression_height test ≤ n → Fits is_statement statement_height n branch → NoElse rest
      → choice_at n inner ((bracket_tokens test ++ (statement_tokens branch ++ [])) ++ rest) ≡ Some (statement.If test branch None, rest)
  unfolding choice_at choice_after
  choice_alone test branch rest fits high fit none =
      ap (choice_at n inner) (append_assoc (bracket_tokens test) (statement_tokens branch ++ []) rest
      ∙ ap (λ w. bracket_tokens test ++ w) (append_assoc (statement_tokens branch) [] rest))
      ∙ ap (λ r. after r (λ test rest. after (inner rest) (choice_after inner test)))
      (test_complete n test (statement_tokens branch ++ rest) fits high)
      ∙ ap (λ r. after r (choice_after inner test)) (complete branch rest fit (λ opened. none))
      ∙ ap (λ o. elim o [
        | None ↦ Some (statement.If test branch None, rest)
        | Some rest ↦ made (λ otherwise. statement.If test branch (Some otherwise)) (inner rest)
      ]) none

  choice_both : (test : Expr) (branch otherwise : Stmt) (rest : List PlainToken) → is_expression any_level test ≡ true
      → expression_height test ≤ n → Fits is_statement statement_height n branch → not (statement_shape branch).is_open ≡ true
      → Fits is_statement statement_height n otherwise → ((statement_shape otherwise).is_open ≡ true → NoElse rest)
      → choice_at n inner ((bracket_tokens test ++ (statement_tokens branch ++ (word (codes "else") ∷ statement_tokens otherwise)))
      ++ rest) ≡ Some (statement.If test branch (Some otherwise), rest)
  unfolding choice_at choice_after after_word is_word
  choice_both test branch otherwise rest fits high fit shut fit' lone =
      ap (choice_at n inner) (append_assoc (bracket_tokens test)
      (statement_tokens branch ++ (word (codes "else") ∷ statement_tokens otherwise)) rest
      ∙ ap (λ w. bracket_tokens test ++ w) (append_assoc (statement_tokens branch)
      (word (codes "else") ∷ statement_tokens otherwise) rest))
      ∙ ap (λ r. after r (λ test rest. after (inner rest) (choice_after inner test)))
      (test_complete n test (statement_tokens branch ++ (word (codes "else") ∷ (statement_tokens otherwise ++ rest))) fits high)
      ∙ ap (λ r. after r (choice_after inner test)) (complete branch (word (codes "else") ∷ (statement_tokens otherwise ++ rest)) fit
      (closed_lone (statement_shape branch).is_open (word (codes "else") ∷ (statement_tokens otherwise ++ rest)) shut))
      ∙ ap (made (λ otherwise. statement.If test branch (Some otherwise))) (complete otherwise rest fit' lone)

  while_complete : (test : Condition) (body : Stmt) (rest : List PlainToken) → is_condition test ≡ true → condition_height test ≤ n
      → Fits is_statement statement_height n body → ((statement_shape body).is_open ≡ true → NoElse rest)
      → while_at n inner (mark (codes "(") ∷ ((closed_condition_tokens test ++ statement_tokens body) ++ rest))
      ≡ Some (statement.While test body, rest)
  unfolding while_at after_mark is_mark
  while_complete test body rest fits high fit lone =
      ap (λ list. after (closed_condition n list) (λ test rest. made (statement.While test) (inner rest)))
      (append_assoc (closed_condition_tokens test) (statement_tokens body) rest)
      ∙ ap (λ r. after r (λ test rest. made (statement.While test) (inner rest)))
      (closed_condition_complete n test (statement_tokens body ++ rest) fits high)
      ∙ ap (made (statement.While test)) (complete body rest fit lone)

  while_no_else : (list : List PlainToken) → NoElse (word (codes "while") ∷ list)
  unfolding after_word is_word
  while_no_else list = refl

  do_complete : (body : Stmt) (test : Expr) (rest : List PlainToken) → is_expression any_level test ≡ true
      → expression_height test ≤ n → Fits is_statement statement_height n body
      → do_at n inner ((statement_tokens body ++ (test_tokens (codes "while") test ++ mark (codes ";") ∷ [])) ++ rest)
      ≡ Some (statement.Do body test, rest)
  unfolding do_at after_word is_word after_mark is_mark
  do_complete body test rest fits high fit =
      ap (do_at n inner) (append_assoc (statement_tokens body) (test_tokens (codes "while") test ++ mark (codes ";") ∷ []) rest
      ∙ ap (λ w. statement_tokens body ++ (word (codes "while") ∷ w)) (append_assoc (bracket_tokens test) (mark (codes ";") ∷ []) rest))
      ∙ ap (λ r. after r (λ body rest. past (after_word (codes "while") rest)
      (λ rest. after (test_at n rest) (λ test rest. past (after_mark (codes ";") rest)
      (λ rest. Some (statement.Do body test, rest))))))
      (complete body (word (codes "while") ∷ (bracket_tokens test ++ (mark (codes ";") ∷ rest))) fit
      (λ opened. while_no_else (bracket_tokens test ++ (mark (codes ";") ∷ rest))))
      ∙ ap (λ r. after r (λ test rest. past (after_mark (codes ";") rest) (λ rest. Some (statement.Do body test, rest))))
      (test_complete n test (mark (codes ";") ∷ rest) fits high)

  -- the parts in the brackets of a `for`
  for_spelled : (first : Start) (test : Option Condition) (step : Option Expr) (tail : List PlainToken)
      → (start_tokens first ++ (optional_condition_tokens test ++ (mark (codes ";") ∷ closed_step_tokens step))) ++ tail
      ≡ start_tokens first ++ (ended_condition_tokens test ++ (closed_step_tokens step ++ tail))
  for_spelled first test step tail =
      append_assoc (start_tokens first) (optional_condition_tokens test ++ (mark (codes ";") ∷ closed_step_tokens step)) tail
      ∙ ap (λ w. start_tokens first ++ w) (append_assoc (optional_condition_tokens test) (mark (codes ";") ∷ closed_step_tokens step) tail
      ∙ sym (append_assoc (optional_condition_tokens test) (mark (codes ";") ∷ []) (closed_step_tokens step ++ tail)))

  for_complete : (first : Start) (test : Option Condition) (step : Option Expr) (body : Stmt) (rest : List PlainToken)
      → is_start first ≡ true → start_height first ≤ n → is_optional_condition test ≡ true → optional_condition_height test ≤ n
      → is_optional step ≡ true → optional_height step ≤ n → Fits is_statement statement_height n body
      → ((statement_shape body).is_open ≡ true → NoElse rest)
      → for_at n inner
      (mark (codes "(")
      ∷ (((start_tokens first ++ (optional_condition_tokens test ++ (mark (codes ";") ∷ closed_step_tokens step)))
      ++ statement_tokens body) ++ rest)) ≡ Some (statement.For first test step body, rest)
  unfolding for_at after_mark is_mark
  for_complete first test step body rest a ah b bh c ch fit lone =
      ap (λ list. after (start_at n list) (λ first rest. after (optional_condition n rest)
      (λ test rest. after (optional_step n rest) (λ step rest. made (statement.For first test step) (inner rest)))))
      (append_assoc (start_tokens first ++ (optional_condition_tokens test ++ (mark (codes ";") ∷ closed_step_tokens step)))
      (statement_tokens body) rest ∙ for_spelled first test step (statement_tokens body ++ rest))
      ∙ ap (λ r. after r (λ first rest. after (optional_condition n rest)
      (λ test rest. after (optional_step n rest) (λ step rest. made (statement.For first test step) (inner rest)))))
      (start_complete n first (ended_condition_tokens test ++ (closed_step_tokens step ++ (statement_tokens body ++ rest))) a ah)
      ∙ ap (λ r. after r (λ test rest. after (optional_step n rest) (λ step rest. made (statement.For first test step) (inner rest))))
      (optional_condition_complete n test (closed_step_tokens step ++ (statement_tokens body ++ rest)) b bh)
      ∙ ap (λ r. after r (λ step rest. made (statement.For first test step) (inner rest)))
      (optional_step_complete n step (statement_tokens body ++ rest) c ch)
      ∙ ap (made (statement.For first test step)) (complete body rest fit lone)

  -- what is read after a token that says what the statement is
  block_led : (list : List PlainToken) → statement_of n inner (mark (codes "{") ∷ list) ≡ made statement.Block (statements_at inner list)
  unfolding statement_of statement_led leader_of is_mark is_word
  block_led list = refl

  empty_led : (list : List PlainToken) → statement_of n inner (mark (codes ";") ∷ list) ≡ Some (statement.Empty, list)
  unfolding statement_of statement_led leader_of is_mark is_word
  empty_led list = refl

  if_led : (list : List PlainToken) → statement_of n inner (word (codes "if") ∷ list) ≡ choice_at n inner list
  unfolding statement_of statement_led leader_of is_mark is_word
  if_led list = refl

  while_led : (list : List PlainToken) → statement_of n inner (word (codes "while") ∷ list) ≡ while_at n inner list
  unfolding statement_of statement_led leader_of is_mark is_word
  while_led list = refl

  do_led : (list : List PlainToken) → statement_of n inner (word (codes "do") ∷ list) ≡ do_at n inner list
  unfolding statement_of statement_led leader_of is_mark is_word
  do_led list = refl

  for_led : (list : List PlainToken) → statement_of n inner (word (codes "for") ∷ list) ≡ for_at n inner list
  unfolding statement_of statement_led leader_of is_mark is_word
  for_led list = refl

  break_led : (rest : List PlainToken) → statement_of n inner (word (codes "break") ∷ mark (codes ";") ∷ rest)
      ≡ Some (statement.Break, rest)
  unfolding statement_of statement_led leader_of is_mark is_word after_mark
  break_led rest = refl

  continue_led : (rest : List PlainToken) → statement_of n inner (word (codes "continue") ∷ mark (codes ";") ∷ rest)
      ≡ Some (statement.Continue, rest)
  unfolding statement_of statement_led leader_of is_mark is_word after_mark
  continue_led rest = refl

  discard_led : (rest : List PlainToken) → statement_of n inner (word (codes "discard") ∷ mark (codes ";") ∷ rest)
      ≡ Some (statement.Discard, rest)
  unfolding statement_of statement_led leader_of is_mark is_word after_mark
  discard_led rest = refl

  return_led : (list : List PlainToken) → statement_of n inner (word (codes "return") ∷ list)
      ≡ made statement.Return (optional_value n list)
  unfolding statement_of statement_led leader_of is_mark is_word
  return_led list = refl

  simple_led : (list : List PlainToken) → BeginsWith Leads list → statement_of n inner list ≡ simple_at n list
  unfolding statement_of statement_led
  simple_led list b = at_first Leads (λ w. statement_of n inner w ≡ simple_at n w) list b
      (λ t more l. ap (λ k. statement_led n inner k (t ∷ more)) l.other)

  declaration_simple : (d : Decl) (rest : List PlainToken) → is_declaration d ≡ true → declaration_height d ≤ n
      → simple_at n (declaration_tokens d ++ rest) ≡ Some (statement.Declaration d, rest)
  unfolding simple_at
  declaration_simple d rest fits high =
      ap (λ b. cond b (made statement.Declaration (declaration_at n (declaration_tokens d ++ rest)))
      (made statement.Expression (ended_expression n (declaration_tokens d ++ rest)))) (declaration_declares d rest fits)
      ∙ ap (made statement.Declaration) (declaration_complete n d rest (record { fits = fits; high = high }))

  expression_simple : (e : Expr) (rest : List PlainToken) → is_expression any_level e ≡ true → expression_height e ≤ n
      → simple_at n (ended_tokens e ++ rest) ≡ Some (statement.Expression e, rest)
  unfolding simple_at
  expression_simple e rest fits high =
      ap (λ b. cond b (made statement.Declaration (declaration_at n (ended_tokens e ++ rest)))
      (made statement.Expression (ended_expression n (ended_tokens e ++ rest)))) (undeclared_ended e rest fits)
      ∙ ap (made statement.Expression) (ended_expression_complete n e rest fits high)

  abbrev ReadsStatement : List PlainToken → Shape → ℕ → Stmt → Type 0
  ReadsStatement tokens shape height s = shape.fits ≡ true → height ≤ suc n → (rest : List PlainToken)
      → (shape.is_open ≡ true → NoElse rest) → statement_of n inner (tokens ++ rest) ≡ Some (s, rest)

  rolled_as : (r : Option (Stmt × List PlainToken)) (s u : Stmt) (rest : List PlainToken) → u ≡ s → r ≡ Some (s, rest) → r
      ≡ Some (u, rest)
  rolled_as r s u rest same is = is ∙ ap (λ x. Some (x, rest)) (sym same)

  statement_layer : (x : Stmt-F Stmt) → ReadsStatement (tokens_of x) (shape_of x) (height_of x) (roll-Stmt x)
  statement_layer (Stmt-F.Block all) fits high rest lone = rolled_as _ (statement.Block all) _ rest (statement.rolls-Block all)
      (block_led (braced_tokens all ++ rest) ∙ ap (made statement.Block)
      (statements_complete all rest (shapes_from all fits) (omega (arith, high))))
  statement_layer (Stmt-F.Declaration d) fits high rest lone =
      rolled_as _ (statement.Declaration d) _ rest (statement.rolls-Declaration d)
      (simple_led (declaration_tokens d ++ rest) (begins_on Leads (declaration_tokens d) rest (declaration_leads d fits))
      ∙ declaration_simple d rest fits (omega (arith, high)))
  statement_layer Stmt-F.Empty fits high rest lone = rolled_as _ statement.Empty _ rest statement.rolls-Empty (empty_led rest)
  statement_layer (Stmt-F.Expression e) fits high rest lone = rolled_as _ (statement.Expression e) _ rest (statement.rolls-Expression e)
      (simple_led (ended_tokens e ++ rest) (begins_on Leads (ended_tokens e) rest
      (begins_on Leads (expression_tokens e) (mark (codes ";") ∷ []) (expression_leads e (stood any_level e fits).fits)))
      ∙ expression_simple e rest fits (omega (arith, high)))
  statement_layer (Stmt-F.If test branch None) fits high rest lone =
      let a = and_parts _ _ fits in
      rolled_as _ (statement.If test branch None) _ rest (statement.rolls-If test branch None)
      (if_led _ ∙ choice_alone test branch rest a.0 (omega (arith, high)) (record { fits = a.1; high = omega (arith, high) })
      (lone refl))
  statement_layer (Stmt-F.If test branch (Some otherwise)) fits high rest lone =
      let a = and_parts _ _ fits in
      let b = and_parts _ _ a.1 in
      let c = and_parts _ _ b.1 in
      rolled_as _ (statement.If test branch (Some otherwise)) _ rest (statement.rolls-If test branch (Some otherwise))
      (if_led _ ∙ choice_both test branch otherwise rest a.0 (omega (arith, high))
      (record { fits = b.0; high = omega (arith, high) }) c.0 (record { fits = c.1; high = omega (arith, high) }) lone)
  statement_layer (Stmt-F.While test body) fits high rest lone =
      let a = and_parts _ _ fits in
      rolled_as _ (statement.While test body) _ rest (statement.rolls-While test body) (while_led _
      ∙ while_complete test body rest a.0 (omega (arith, high)) (record { fits = a.1; high = omega (arith, high) }) lone)
  statement_layer (Stmt-F.Do body test) fits high rest lone =
      let a = and_parts _ _ fits in
      rolled_as _ (statement.Do body test) _ rest (statement.rolls-Do body test) (do_led _
      ∙ do_complete body test rest a.1 (omega (arith, high)) (record { fits = a.0; high = omega (arith, high) }))
  statement_layer (Stmt-F.For first test step body) fits high rest lone =
      let a = and_parts _ _ fits in
      let b = and_parts _ _ a.1 in
      let c = and_parts _ _ b.1 in
      rolled_as _ (statement.For first test step body) _ rest (statement.rolls-For first test step body)
      (for_led _ ∙ for_complete first test step body rest a.0 (omega (arith, high)) b.0 (omega (arith, high)) c.0
      (omega (arith, high)) (record { fits = c.1; high = omega (arith, high) }) lone)
  statement_layer Stmt-F.Break fits high rest lone = rolled_as _ statement.Break _ rest statement.rolls-Break (break_led rest)
  statement_layer Stmt-F.Continue fits high rest lone = rolled_as _ statement.Continue _ rest statement.rolls-Continue (continue_led rest)
  statement_layer Stmt-F.Discard fits high rest lone = rolled_as _ statement.Discard _ rest statement.rolls-Discard (discard_led rest)
  statement_layer (Stmt-F.Return value) fits high rest lone = rolled_as _ (statement.Return value) _ rest (statement.rolls-Return value)
      (return_led (ended_value_tokens value ++ rest)
      ∙ ap (made statement.Return) (optional_value_complete n value rest fits (omega (arith, high))))

  statement_of_complete : CompleteStatements (suc n) (statement_of n inner)
  statement_of_complete s rest fit lone = from_layers ReadsStatement statement_layer s fit.fits fit.high rest lone

-- each well-formed statement of at most this height is read whole
pub statement_complete : (n : ℕ) → CompleteStatements n (statement_at n)
unfolding statement_at
statement_complete zero s rest fit lone = absurd (omega (arith, fit.high, has_height s))
statement_complete (suc n) s rest fit lone = statement_of_complete n (statement_at n) (statement_complete n) s rest fit lone
