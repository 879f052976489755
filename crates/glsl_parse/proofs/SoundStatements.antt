-- What is read as a statement is a well-formed statement that spells the tokens, and an `else` that follows it
-- belongs to no open `if` in it.
use Rattle.std.proofs.Common.{◌≡◌, ◌≤◌, ◌⊎◌, inl, inr, ◌+◌, ℕ, zero, suc, Bool, true, false, not, cond, List, [], ◌∷◌, ◌++◌, map, Option, Some, None, codes, refl, sym, ap, ◌∙◌, subst, append_assoc, arith}
use Rattle.std.specs.List.{list_all}
use Rattle.std.proofs.lemmas.Bool.{and_parts, and_from}
use Rattle.glsl_tree.specs.declared.statements.Condition.{Condition}
use Rattle.glsl_tree.specs.declared.statements.Condition.TheVariants as condition
use Rattle.glsl_tree.specs.declared.statements.Start.{Start}
use Rattle.glsl_tree.specs.declared.statements.Start.TheVariants as start
use Rattle.glsl_tree.specs.declared.statements.Stmt.{Stmt}
use Rattle.glsl_tree.specs.declared.statements.Stmt.TheVariants as statement
use Rattle.glsl_tree.specs.declared.statements.Stmt.TheOpen.{Stmt-F}
use Rattle.glsl_tree.specs.declared.statements.Stmt.TheViews.{roll-Stmt}
use Rattle.glsl_tree.specs.declared.expressions.Expr.{Expr}
use Rattle.glsl_tree.specs.Operators.{any_level, assignment_level}
use Rattle.glsl_tree.specs.Expressions.{mark, word, name, expression_tokens, is_expression, expression_height, highest}
use Rattle.glsl_tree.specs.Types.{joined}
use Rattle.glsl_tree.specs.Declarations.{full_type_tokens, is_full_type, full_type_height}
use Rattle.glsl_tree.specs.Statements.{without_line, optional_tokens, condition_tokens, optional_condition_tokens, start_tokens, test_tokens, while_tokens, for_tokens, jump_tokens, statement_tokens, Shape, is_optional, is_condition, is_optional_condition, is_start, statement_shape, is_block, optional_height, condition_height, optional_condition_height, start_height, statement_height}
use Rattle.glsl_tree.specs.Token.{PlainToken}
use Rattle.glsl_parse.specs.declared.symbols.Leader.{Leader}
use Rattle.glsl_parse.specs.declared.symbols.Leader.TheVariants as leader
use Rattle.glsl_parse.specs.Readings.{Reads, after, past, made, Stop, Go, looped}
use Rattle.glsl_parse.specs.Symbols.{is_mark, is_word, leader_of, after_mark, after_word, begins_with_mark, name_at}
use Rattle.glsl_parse.specs.ExpressionReadings.{expression}
use Rattle.glsl_parse.specs.TypeReadings.{full_type}
use Rattle.glsl_parse.specs.DeclarationReadings.{declaration_at, declares}
use Rattle.glsl_parse.specs.StatementReadings.{any_expression, closed_expression, test_at, ended_expression, declared_condition, condition_at, closed_condition, optional_condition, optional_step, start_at, optional_value, more_statements, statements_at, choice_after, choice_at, while_at, do_at, for_at, jump, simple_at, statement_led, statement_of, statement_at}
use Rattle.glsl_parse.proofs.SoundReadings.{bare, OnRead, on_none, on_some, sound_after, sound_past, sound_made, sound_either, sound_found, sound_below}
use Rattle.glsl_parse.proofs.SoundSymbols.{is_mark-true, is_word-true, mark_read, word_read, name_read, IsNameRead}
use Rattle.glsl_parse.proofs.SoundLists.{closed_by, IsItem}
use Rattle.glsl_parse.proofs.SoundItems.{Fits, Sound, all_fit, all_high, AreJoined, joined_sound}
use Rattle.glsl_parse.proofs.SoundTypes.{expression_item, full_type_sound}
use Rattle.glsl_parse.proofs.SoundDeclarations.{declaration_sound}
use Rattle.glsl_parse.proofs.StatementNodes.{tokens_of, shape_of, height_of, node}

-- a part, and the mark that closes it
pub sound_closed : {A : Type 0} (text : List ℕ) (tokens : A → List PlainToken) (fit : A → Bool) (height : A → ℕ) (n : ℕ)
    (reads : Reads A) → Sound tokens fit height n reads
    → (list : List PlainToken) → OnRead (IsItem (λ a. tokens a ++ mark text ∷ []) (Fits fit height n) (bare list))
    (after (reads list) (λ a rest. past (after_mark text rest) (λ rest. Some (a, rest))))
sound_closed text tokens fit height n reads sound list =
    sound_after (IsItem tokens (Fits fit height n) (bare list))
    (IsItem (λ a. tokens a ++ mark text ∷ []) (Fits fit height n) (bare list)) (reads list) _ (sound list) (λ a mid i.
    sound_past (IsItem (λ a. tokens a ++ mark text ∷ []) (Fits fit height n) (bare list)) (after_mark text mid) _
    (λ rest f. on_some _ a rest
    (record {
      spelled = closed_by (bare list) (tokens a) (bare mid) (bare rest) (mark text) i.spelled (mark_read text mid rest f);
      good = i.good;
    })))

-- an expression and the bracket after it; the same in brackets; an expression and a semicolon
abbrev pub closed_tokens : Expr → List PlainToken
closed_tokens e = expression_tokens e ++ mark (codes ")") ∷ []

abbrev pub bracket_tokens : Expr → List PlainToken
bracket_tokens e = mark (codes "(") ∷ closed_tokens e

abbrev pub ended_tokens : Expr → List PlainToken
ended_tokens e = expression_tokens e ++ mark (codes ";") ∷ []

closed_expression_sound : (n : ℕ) → Sound closed_tokens (is_expression any_level) expression_height n (closed_expression n)
unfolding closed_expression
closed_expression_sound n list = sound_closed (codes ")") expression_tokens (is_expression any_level) expression_height n
    (expression n any_level) (expression_item n any_level (omega arith)) list

ended_expression_sound : (n : ℕ) → Sound ended_tokens (is_expression any_level) expression_height n (ended_expression n)
unfolding ended_expression
ended_expression_sound n list = sound_closed (codes ";") expression_tokens (is_expression any_level) expression_height n
    (expression n any_level) (expression_item n any_level (omega arith)) list

test_sound : (n : ℕ) → Sound bracket_tokens (is_expression any_level) expression_height n (test_at n)
unfolding test_at
test_sound n list = sound_past (IsItem bracket_tokens (Fits (is_expression any_level) expression_height n) (bare list))
    (after_mark (codes "(") list) (closed_expression n) (λ mid e.
    record {
      given = λ test rest f.
          let r = (closed_expression_sound n mid).given test rest f in
          record { spelled = mark_read (codes "(") list mid e ∙ ap (λ w. mark (codes "(") ∷ w) r.spelled; good = r.good };
    })

declared_condition_sound : (n : ℕ) → Sound condition_tokens is_condition condition_height (suc n) (declared_condition n)
unfolding declared_condition
declared_condition_sound n list = sound_after (IsItem full_type_tokens (Fits is_full_type full_type_height n) (bare list)) P
    (full_type n list) _ (full_type_sound n list) (λ full mid i.
    sound_after (IsNameRead mid) P (name_at mid) _ (record { given = λ text rest f. name_read mid text rest f }) (λ text next k.
    sound_past P (after_mark (codes "=") next) _
    (λ after_sign e. sound_made P (condition.Declared full text) (expression n assignment_level after_sign)
    (record {
      given = λ value rest f.
          let r = (expression_item n assignment_level (omega arith) after_sign).given value rest f in
          record {
            spelled = i.spelled
                ∙ ap (λ w. full_type_tokens full ++ w) (k.spelled
                ∙ ap (λ w. name text ∷ w) (mark_read (codes "=") next after_sign e ∙ ap (λ w. mark (codes "=") ∷ w) r.spelled))
                ∙ sym (append_assoc (full_type_tokens full) (name text ∷ mark (codes "=") ∷ expression_tokens value) (bare rest));
            good = record {
              fits = and_from _ _ i.good.fits (and_from _ _ k.free r.good.fits);
              high = omega
                  (arith, i.good.high, r.good.high);
            };
          };
    }))))
  where
    P : Condition → List PlainToken → Type 0
    P c rest = IsItem condition_tokens (Fits is_condition condition_height (suc n)) (bare list) c rest

condition_sound : (room : ℕ) → Sound condition_tokens is_condition condition_height room (condition_at room)
unfolding condition_at
condition_sound room list = sound_either P (declares list) _ _
    (λ e. sound_below P room _ (λ n f. subst (λ m. OnRead (IsItem condition_tokens (Fits is_condition condition_height m) (bare list))
    (declared_condition n list)) (sym f) (declared_condition_sound n list)))
    (λ e. sound_made P condition.Expression (any_expression room list) (record {
      given = λ test rest f.
          let r = (expression_item room any_level (omega arith) list).given test rest f in
          record { spelled = r.spelled; good = record { fits = r.good.fits; high = r.good.high } };
    }))
  where
    P : Condition → List PlainToken → Type 0
    P c rest = IsItem condition_tokens (Fits is_condition condition_height room) (bare list) c rest

abbrev pub closed_condition_tokens : Condition → List PlainToken
closed_condition_tokens c = condition_tokens c ++ mark (codes ")") ∷ []

closed_condition_sound : (n : ℕ) → Sound closed_condition_tokens is_condition condition_height n (closed_condition n)
unfolding closed_condition
closed_condition_sound n list = sound_closed (codes ")") condition_tokens is_condition condition_height n (condition_at n)
    (condition_sound n) list

abbrev pub ended_condition_tokens : Option Condition → List PlainToken
ended_condition_tokens c = optional_condition_tokens c ++ mark (codes ";") ∷ []

optional_condition_sound : (n : ℕ) → Sound ended_condition_tokens is_optional_condition optional_condition_height n (optional_condition n)
unfolding optional_condition
optional_condition_sound n list = sound_found P (after_mark (codes ";") list) _ _
    (λ rest e. on_some P None rest (record {
      spelled = mark_read (codes ";") list rest e;
      good = record
          { fits = refl; high = omega arith };
    }))
    (λ none. sound_after (IsItem condition_tokens (Fits is_condition condition_height n) (bare list)) P (condition_at n list) _
    (condition_sound n list) (λ test mid i.
    sound_past P (after_mark (codes ";") mid) _ (λ rest f. on_some P (Some test) rest (record {
      spelled = closed_by (bare list) (condition_tokens test) (bare mid) (bare rest) (mark (codes ";")) i.spelled
          (mark_read (codes ";") mid rest f);
      good = record { fits = i.good.fits; high = i.good.high };
    }))))
  where
    P : Option Condition → List PlainToken → Type 0
    P c rest = IsItem ended_condition_tokens (Fits is_optional_condition optional_condition_height n) (bare list) c rest

abbrev pub closed_step_tokens : Option Expr → List PlainToken
closed_step_tokens e = optional_tokens e ++ mark (codes ")") ∷ []

optional_step_sound : (n : ℕ) → Sound closed_step_tokens is_optional optional_height n (optional_step n)
unfolding optional_step
optional_step_sound n list = sound_found P (after_mark (codes ")") list) _ _
    (λ rest e. on_some P None rest (record {
      spelled = mark_read (codes ")") list rest e;
      good = record
          { fits = refl; high = omega arith };
    }))
    (λ none. sound_made P Some (closed_expression n list) (record {
      given = λ step rest f.
          let r = (closed_expression_sound n list).given step rest f in
          record { spelled = r.spelled; good = record { fits = r.good.fits; high = r.good.high } };
    }))
  where
    P : Option Expr → List PlainToken → Type 0
    P e rest = IsItem closed_step_tokens (Fits is_optional optional_height n) (bare list) e rest

abbrev pub ended_value_tokens : Option Expr → List PlainToken
ended_value_tokens e = optional_tokens e ++ mark (codes ";") ∷ []

optional_value_sound : (n : ℕ) → Sound ended_value_tokens is_optional optional_height n (optional_value n)
unfolding optional_value
optional_value_sound n list = sound_found P (after_mark (codes ";") list) _ _
    (λ rest e. on_some P None rest (record {
      spelled = mark_read (codes ";") list rest e;
      good = record
          { fits = refl; high = omega arith };
    }))
    (λ none. sound_made P Some (ended_expression n list) (record {
      given = λ value rest f.
          let r = (ended_expression_sound n list).given value rest f in
          record { spelled = r.spelled; good = record { fits = r.good.fits; high = r.good.high } };
    }))
  where
    P : Option Expr → List PlainToken → Type 0
    P e rest = IsItem ended_value_tokens (Fits is_optional optional_height n) (bare list) e rest

start_sound : (n : ℕ) → Sound start_tokens is_start start_height n (start_at n)
unfolding start_at
start_sound n list = sound_found P (after_mark (codes ";") list) _ _
    (λ rest e. on_some P start.Empty rest (record
    { spelled = mark_read (codes ";") list rest e; good = record { fits = refl; high = omega arith } }))
    (λ none. sound_either P (declares list) _ _
    (λ e. sound_made P start.Declaration (declaration_at n list) (record {
      given = λ d rest f.
          let r = (declaration_sound n list).given d rest f in
          record { spelled = r.spelled; good = record { fits = r.good.fits; high = r.good.high } };
    }))
    (λ e. sound_made P start.Expression (ended_expression n list) (record {
      given = λ first rest f.
          let r = (ended_expression_sound n list).given first rest f in
          record { spelled = r.spelled; good = record { fits = r.good.fits; high = r.good.high } };
    })))
  where
    P : Start → List PlainToken → Type 0
    P s rest = IsItem start_tokens (Fits is_start start_height n) (bare list) s rest

-- whether a statement is well formed
abbrev pub is_statement : Stmt → Bool
is_statement s = (statement_shape s).fits

-- a statement of at most this height is read from these tokens, and no `else` follows an open `if` at its end
pub record IsStatement (n : ℕ) (all : List PlainToken) (s : Stmt) (rest : List PlainToken) : Type 0 where
  pub spelled : all ≡ statement_tokens s ++ bare rest
  pub fits : is_statement s ≡ true
  pub high : statement_height s ≤ n
  pub lone : (statement_shape s).is_open ≡ true → after_word (codes "else") rest ≡ None

-- a statement that no open `if` ends
never_open : {P : Type 0} → false ≡ true → P
never_open e = absurd cc

-- where an `else` follows, no open `if` stands before it
not_open : (b : Bool) (o : Option (List PlainToken)) → (b ≡ true → o ≡ None) → (rest : List PlainToken) → o ≡ Some rest → not b ≡ true
not_open true o lone rest e = let none : o ≡ None = lone refl in absurd cc
not_open false o lone rest e = refl

made_statement : (n : ℕ) (all rest : List PlainToken) (x : Stmt-F Stmt) (s : Stmt) → roll-Stmt x ≡ s → all ≡ tokens_of x ++ bare rest
    → (shape_of x).fits ≡ true → height_of x ≤ n
    → ((shape_of x).is_open ≡ true → after_word (codes "else") rest ≡ None) → IsStatement n all s rest
made_statement n all rest x s is spelled fits high lone =
    let k = node x s is in
    record {
      spelled = spelled ∙ ap (λ w. w ++ bare rest) (sym k.spelled);
      fits = ap (λ g. g.fits) k.shaped ∙ fits;
      high = subst (λ h. h ≤ n) (sym k.high) high;
      lone = λ e. lone (sym (ap (λ g. g.is_open) k.shaped) ∙ e);
    }

-- what reads statements of at most this height reads nothing else
abbrev pub SoundStatements : ℕ → Reads Stmt → Type 0
SoundStatements n inner = (list : List PlainToken) → OnRead (IsStatement n (bare list)) (inner list)

-- the token that a statement begins with, where it says what the statement is
abbrev LedBy : PlainToken → Leader → Type 0
LedBy t leader.Block = without_line t ≡ mark (codes "{")
LedBy t leader.Empty = without_line t ≡ mark (codes ";")
LedBy t leader.If = without_line t ≡ word (codes "if")
LedBy t leader.While = without_line t ≡ word (codes "while")
LedBy t leader.Do = without_line t ≡ word (codes "do")
LedBy t leader.For = without_line t ≡ word (codes "for")
LedBy t leader.Break = without_line t ≡ word (codes "break")
LedBy t leader.Continue = without_line t ≡ word (codes "continue")
LedBy t leader.Discard = without_line t ≡ word (codes "discard")
LedBy t leader.Return = without_line t ≡ word (codes "return")
LedBy t leader.Other = Unit {0}

record IsLed (t : PlainToken) (l : Leader) : Type 0 where
  is : LedBy t l

led_if : (t : PlainToken) (b : Bool) (l m : Leader) → (b ≡ true → LedBy t l) → IsLed t m → IsLed t (cond b l m)
led_if t true l m p q = record { is = p refl }
led_if t false l m p q = q

led : (t : PlainToken) → IsLed t (leader_of t)
unfolding leader_of
led t =
    led_if t (is_mark (codes "{") t) leader.Block _ (is_mark-true (codes "{") t)
    (led_if t (is_mark (codes ";") t) leader.Empty _ (is_mark-true (codes ";") t)
    (led_if t (is_word (codes "if") t) leader.If _ (is_word-true (codes "if") t)
    (led_if t (is_word (codes "while") t) leader.While _ (is_word-true (codes "while") t)
    (led_if t (is_word (codes "do") t) leader.Do _ (is_word-true (codes "do") t)
    (led_if t (is_word (codes "for") t) leader.For _ (is_word-true (codes "for") t)
    (led_if t (is_word (codes "break") t) leader.Break _ (is_word-true (codes "break") t)
    (led_if t (is_word (codes "continue") t) leader.Continue _ (is_word-true (codes "continue") t)
    (led_if t (is_word (codes "discard") t) leader.Discard _ (is_word-true (codes "discard") t)
    (led_if t (is_word (codes "return") t) leader.Return leader.Other (is_word-true (codes "return") t) (record { is = tt }))))))))))

-- the statements of a block, with the brace that closes it
abbrev pub braced_tokens : List Stmt → List PlainToken
braced_tokens all = joined (map statement_tokens all) ++ mark (codes "}") ∷ []

abbrev pub statements_height : List Stmt → ℕ
statements_height all = highest (map statement_height all)

shapes_fit : (all : List Stmt) → list_all is_statement all ≡ true → list_all (λ (s : Shape). s.fits) (map statement_shape all) ≡ true
shapes_fit [] h = refl
shapes_fit (s ∷ all) h = let both = and_parts _ _ h in and_from _ _ both.0 (shapes_fit all both.1)

module _ (n : ℕ) (inner : Reads Stmt) (sound : SoundStatements n inner) where
  statements_take : (done : List Stmt) (list : List PlainToken)
      → (more_statements inner done list ≡ Stop) ⊎ (more_statements inner done list ≡ Go (made (λ s. done ++ s ∷ []) (inner list)))
  unfolding more_statements
  statements_take done list = go (begins_with_mark (codes "}") list)
    where
      go : (b : Bool) → (cond b Stop (Go (made (λ s. done ++ s ∷ []) (inner list))) ≡ Stop)
          ⊎ (cond b Stop (Go (made (λ s. done ++ s ∷ []) (inner list))) ≡ Go (made (λ s. done ++ s ∷ []) (inner list)))
      go true = inl refl
      go false = inr refl

  statement_item : Sound statement_tokens is_statement statement_height n inner
  statement_item list = record {
    given = λ s rest f.
        let r = (sound list).given s rest f in
        record { spelled = r.spelled; good = record { fits = r.fits; high = r.high } };
  }

  pub statements_sound : Sound braced_tokens is_block statements_height n (statements_at inner)
  unfolding statements_at
  statements_sound list =
      sound_after (AreJoined statement_tokens (Fits is_statement statement_height n) (bare list))
      (IsItem braced_tokens (Fits is_block statements_height n) (bare list)) (looped (more_statements inner) [] list) _
      (joined_sound statement_tokens (Fits is_statement statement_height n) inner (more_statements inner) statements_take
      statement_item list) (λ all mid r.
      sound_past (IsItem braced_tokens (Fits is_block statements_height n) (bare list)) (after_mark (codes "}") mid) _
      (λ rest f. on_some _ all rest (record {
        spelled = closed_by (bare list) (joined (map statement_tokens all)) (bare mid) (bare rest) (mark (codes "}")) r.spelled
            (mark_read (codes "}") mid rest f);
        good = record {
          fits = all_fit is_statement statement_height n all r.good;
          high = all_high is_statement statement_height n
              all r.good;
        };
      })))

  abbrev Read : List PlainToken → Stmt → List PlainToken → Type 0
  Read all s rest = IsStatement (suc n) all s rest

  block_sound : (list : List PlainToken) → OnRead (Read (mark (codes "{") ∷ bare list)) (made statement.Block (statements_at inner list))
  block_sound list = sound_made (Read (mark (codes "{") ∷ bare list)) statement.Block (statements_at inner list)
      (record {
        given = λ all rest f.
            let r = (statements_sound list).given all rest f in
            made_statement (suc n) (mark (codes "{") ∷ bare list) rest (Stmt-F.Block all) (statement.Block all) (statement.rolls-Block all)
            (ap (λ w. mark (codes "{") ∷ w) r.spelled)
            (shapes_fit all r.good.fits) (omega (arith, r.good.high)) never_open;
      })

  choice_sound : (list : List PlainToken) → OnRead (Read (word (codes "if") ∷ bare list)) (choice_at n inner list)
  unfolding choice_at choice_after
  choice_sound list = sound_after (IsItem bracket_tokens (Fits (is_expression any_level) expression_height n) (bare list)) P
      (test_at n list) _ (test_sound n list) (λ test mid t.
      sound_after (IsStatement n (bare mid)) P (inner mid) _ (sound mid)
      (λ branch next b. sound_found P (after_word (codes "else") next) _ _
      (λ follow e. sound_made P (λ otherwise. statement.If test branch (Some otherwise)) (inner follow)
      (record {
        given = λ otherwise rest f.
            let o = (sound follow).given otherwise rest f in
            made_statement (suc n) (word (codes "if") ∷ bare list) rest (Stmt-F.If test branch (Some otherwise))
            (statement.If test branch (Some otherwise)) (statement.rolls-If test branch (Some otherwise))
            (spelled_choice test mid t branch next b (word (codes "else") ∷ statement_tokens otherwise) rest
            (word_read (codes "else") next follow e ∙ ap (λ w. word (codes "else") ∷ w) o.spelled))
            (and_from _ _ t.good.fits (and_from _ _ b.fits
            (and_from _ _ (not_open (statement_shape branch).is_open (after_word (codes "else") next) b.lone follow e) o.fits)))
            (omega (arith, t.good.high, b.high, o.high))
            o.lone;
      }))
      (λ none. on_some P (statement.If test branch None) next
      (made_statement (suc n) (word (codes "if") ∷ bare list) next (Stmt-F.If test branch None) (statement.If test branch None)
      (statement.rolls-If test branch None)
      (spelled_choice test mid t branch next b [] next refl)
      (and_from _ _ t.good.fits b.fits) (omega (arith, t.good.high, b.high)) (λ opened. none)))))
    where
      P : Stmt → List PlainToken → Type 0
      P s rest = IsStatement (suc n) (word (codes "if") ∷ bare list) s rest

      spelled_choice : (test : Expr) (mid : List PlainToken)
          → IsItem bracket_tokens (Fits (is_expression any_level) expression_height n) (bare list) test mid
          → (branch : Stmt) (next : List PlainToken) → IsStatement n (bare mid) branch next → (others rest : List PlainToken)
          → bare next ≡ others ++ bare rest
          → word (codes "if") ∷ bare list ≡ (test_tokens (codes "if") test ++ (statement_tokens branch ++ others)) ++ bare rest
      spelled_choice test mid t branch next b others rest e =
          ap (λ w. word (codes "if") ∷ w) (t.spelled
          ∙ ap (λ w. bracket_tokens test ++ w) (b.spelled ∙ ap (λ w. statement_tokens branch ++ w) e
          ∙ sym (append_assoc (statement_tokens branch) others (bare rest))))
          ∙ sym (append_assoc (test_tokens (codes "if") test) (statement_tokens branch ++ others) (bare rest))

  while_sound : (list : List PlainToken) → OnRead (Read (word (codes "while") ∷ bare list)) (while_at n inner list)
  unfolding while_at
  while_sound list = sound_past P (after_mark (codes "(") list) _ (λ inside e.
      sound_after (IsItem closed_condition_tokens (Fits is_condition condition_height n) (bare inside)) P (closed_condition n inside)
      _ (closed_condition_sound n inside) (λ test mid t.
      sound_made P (statement.While test) (inner mid) (record {
        given = λ body rest f.
            let b = (sound mid).given body rest f in
            made_statement (suc n) (word (codes "while") ∷ bare list) rest (Stmt-F.While test body) (statement.While test body)
            (statement.rolls-While test body)
            (ap (λ w. word (codes "while") ∷ w) (mark_read (codes "(") list inside e
            ∙ ap (λ w. mark (codes "(") ∷ w) (t.spelled ∙ ap (λ w. closed_condition_tokens test ++ w) b.spelled))
            ∙ sym (append_assoc (while_tokens test) (statement_tokens body) (bare rest)))
            (and_from _ _ t.good.fits b.fits) (omega (arith, t.good.high, b.high)) b.lone;
      })))
    where
      P : Stmt → List PlainToken → Type 0
      P s rest = IsStatement (suc n) (word (codes "while") ∷ bare list) s rest

  do_sound : (list : List PlainToken) → OnRead (Read (word (codes "do") ∷ bare list)) (do_at n inner list)
  unfolding do_at
  do_sound list = sound_after (IsStatement n (bare list)) P (inner list) _ (sound list) (λ body mid b.
      sound_past P (after_word (codes "while") mid) _ (λ next e.
      sound_after (IsItem bracket_tokens (Fits (is_expression any_level) expression_height n) (bare next)) P (test_at n next) _
      (test_sound n next) (λ test end t.
      sound_past P (after_mark (codes ";") end) _ (λ rest f. on_some P (statement.Do body test) rest
      (made_statement (suc n) (word (codes "do") ∷ bare list) rest (Stmt-F.Do body test) (statement.Do body test)
      (statement.rolls-Do body test)
      (ap (λ w. word (codes "do") ∷ w) (b.spelled
      ∙ ap (λ w. statement_tokens body ++ w) (word_read (codes "while") mid next e
      ∙ ap (λ w. word (codes "while") ∷ w) (closed_by (bare next) (bracket_tokens test) (bare end) (bare rest)
      (mark (codes ";")) t.spelled (mark_read (codes ";") end rest f)))
      ∙ sym (append_assoc (statement_tokens body) (test_tokens (codes "while") test ++ mark (codes ";") ∷ []) (bare rest))))
      (and_from _ _ b.fits t.good.fits) (omega (arith, t.good.high, b.high)) never_open)))))
    where
      P : Stmt → List PlainToken → Type 0
      P s rest = IsStatement (suc n) (word (codes "do") ∷ bare list) s rest

  for_sound : (list : List PlainToken) → OnRead (Read (word (codes "for") ∷ bare list)) (for_at n inner list)
  unfolding for_at
  for_sound list = sound_past P (after_mark (codes "(") list) _ (λ inside e.
      sound_after (IsItem start_tokens (Fits is_start start_height n) (bare inside)) P (start_at n inside) _ (start_sound n inside)
      (λ first mid a.
      sound_after (IsItem ended_condition_tokens (Fits is_optional_condition optional_condition_height n) (bare mid)) P
      (optional_condition n mid) _ (optional_condition_sound n mid) (λ test next b.
      sound_after (IsItem closed_step_tokens (Fits is_optional optional_height n) (bare next)) P (optional_step n next) _
      (optional_step_sound n next) (λ step end c.
      sound_made P (statement.For first test step) (inner end) (record {
        given = λ body rest f.
            let d = (sound end).given body rest f in
            made_statement (suc n) (word (codes "for") ∷ bare list) rest (Stmt-F.For first test step body)
            (statement.For first test step body) (statement.rolls-For first test step body)
            (ap (λ w. word (codes "for") ∷ w) (mark_read (codes "(") list inside e ∙ ap (λ w. mark (codes "(") ∷ w) (a.spelled
            ∙ ap (λ w. start_tokens first ++ w) (b.spelled
            ∙ ap (λ w. ended_condition_tokens test ++ w) (c.spelled ∙ ap (λ w. closed_step_tokens step ++ w) d.spelled)
            ∙ append_assoc (optional_condition_tokens test) (mark (codes ";") ∷ [])
            (closed_step_tokens step ++ (statement_tokens body ++ bare rest))
            ∙ sym (append_assoc (optional_condition_tokens test) (mark (codes ";") ∷ closed_step_tokens step)
            (statement_tokens body ++ bare rest)))
            ∙ sym (append_assoc (start_tokens first)
            (optional_condition_tokens test ++ (mark (codes ";") ∷ closed_step_tokens step))
            (statement_tokens body ++ bare rest))))
            ∙ sym (append_assoc (for_tokens first test step) (statement_tokens body) (bare rest)))
            (and_from _ _ a.good.fits (and_from _ _ b.good.fits (and_from _ _ c.good.fits d.fits)))
            (omega (arith, a.good.high, b.good.high, c.good.high, d.high)) d.lone;
      })))))
    where
      P : Stmt → List PlainToken → Type 0
      P s rest = IsStatement (suc n) (word (codes "for") ∷ bare list) s rest

  simple_sound : (list : List PlainToken) → OnRead (Read (bare list)) (simple_at n list)
  unfolding simple_at
  simple_sound list = sound_either (Read (bare list)) (declares list) _ _
      (λ e. sound_made (Read (bare list)) statement.Declaration (declaration_at n list) (record {
        given = λ d rest f.
            let r = (declaration_sound n list).given d rest f in
            made_statement (suc n) (bare list) rest (Stmt-F.Declaration d) (statement.Declaration d) (statement.rolls-Declaration d)
            r.spelled r.good.fits (omega (arith, r.good.high)) never_open;
      }))
      (λ e. sound_made (Read (bare list)) statement.Expression (ended_expression n list) (record {
        given = λ e' rest f.
            let r = (ended_expression_sound n list).given e' rest f in
            made_statement (suc n) (bare list) rest (Stmt-F.Expression e') (statement.Expression e') (statement.rolls-Expression e')
            r.spelled r.good.fits (omega (arith, r.good.high)) never_open;
      }))

  return_sound : (list : List PlainToken) → OnRead (Read (word (codes "return") ∷ bare list))
      (made statement.Return (optional_value n list))
  return_sound list = sound_made (Read (word (codes "return") ∷ bare list)) statement.Return (optional_value n list)
      (record {
        given = λ value rest f.
            let r = (optional_value_sound n list).given value rest f in
            made_statement (suc n) (word (codes "return") ∷ bare list) rest (Stmt-F.Return value) (statement.Return value)
            (statement.rolls-Return value) (ap (λ w. word (codes "return") ∷ w) r.spelled)
            r.good.fits (omega (arith, r.good.high)) never_open;
      })

  on_tokens : (all other : List PlainToken) (r : Option (Stmt × List PlainToken)) → all ≡ other → OnRead (Read other) r
      → OnRead (Read all) r
  on_tokens all other r same p = subst (λ w. OnRead (Read w) r) (sym same) p

  jump_sound : (text : List ℕ) (x : Stmt-F Stmt) (s : Stmt) (list : List PlainToken) → roll-Stmt x ≡ s → tokens_of x
      ≡ jump_tokens text → (shape_of x).fits ≡ true → height_of x ≤ suc n → (shape_of x).is_open ≡ false
      → OnRead (Read (word text ∷ bare list)) (jump s list)
  jump_sound text x s list is tokens fits high closed =
      sound_past (Read (word text ∷ bare list)) (after_mark (codes ";") list) _
      (λ rest e. on_some (Read (word text ∷ bare list)) s rest
      (made_statement (suc n) (word text ∷ bare list) rest x s is (ap (λ w. word text ∷ w) (mark_read (codes ";") list rest e)
      ∙ ap (λ w. w ++ bare rest) (sym tokens)) fits high (λ opened. never_open (sym closed ∙ opened))))

  led_sound : (l : Leader) (t : PlainToken) (list : List PlainToken) → LedBy t l
      → OnRead (Read (bare (t ∷ list))) (statement_led n inner l (t ∷ list))
  unfolding statement_led
  led_sound leader.Block t list e = on_tokens (bare (t ∷ list)) (mark (codes "{") ∷ bare list) _ (ap (λ w. w ∷ bare list) e)
      (block_sound list)
  led_sound leader.Empty t list e = on_some (Read (bare (t ∷ list))) statement.Empty list
      (made_statement (suc n) (bare (t ∷ list)) list Stmt-F.Empty statement.Empty statement.rolls-Empty (ap (λ w. w ∷ bare list) e)
      refl (omega arith) never_open)
  led_sound leader.If t list e = on_tokens (bare (t ∷ list)) (word (codes "if") ∷ bare list) _ (ap (λ w. w ∷ bare list) e)
      (choice_sound list)
  led_sound leader.While t list e = on_tokens (bare (t ∷ list)) (word (codes "while") ∷ bare list) _ (ap (λ w. w ∷ bare list) e)
      (while_sound list)
  led_sound leader.Do t list e = on_tokens (bare (t ∷ list)) (word (codes "do") ∷ bare list) _ (ap (λ w. w ∷ bare list) e) (do_sound list)
  led_sound leader.For t list e = on_tokens (bare (t ∷ list)) (word (codes "for") ∷ bare list) _ (ap (λ w. w ∷ bare list) e)
      (for_sound list)
  led_sound leader.Break t list e = on_tokens (bare (t ∷ list)) (word (codes "break") ∷ bare list) _ (ap (λ w. w ∷ bare list) e)
      (jump_sound (codes "break") Stmt-F.Break statement.Break list statement.rolls-Break refl refl (omega arith) refl)
  led_sound leader.Continue t list e = on_tokens (bare (t ∷ list)) (word (codes "continue") ∷ bare list) _ (ap (λ w. w ∷ bare list) e)
      (jump_sound (codes "continue") Stmt-F.Continue statement.Continue list statement.rolls-Continue refl refl (omega arith) refl)
  led_sound leader.Discard t list e = on_tokens (bare (t ∷ list)) (word (codes "discard") ∷ bare list) _ (ap (λ w. w ∷ bare list) e)
      (jump_sound (codes "discard") Stmt-F.Discard statement.Discard list statement.rolls-Discard refl refl (omega arith) refl)
  led_sound leader.Return t list e = on_tokens (bare (t ∷ list)) (word (codes "return") ∷ bare list) _ (ap (λ w. w ∷ bare list) e)
      (return_sound list)
  led_sound leader.Other t list e = simple_sound (t ∷ list)

  pub statement_of_sound : SoundStatements (suc n) (statement_of n inner)
  unfolding statement_of
  statement_of_sound [] = on_none (Read [])
  statement_of_sound (t ∷ list) = led_sound (leader_of t) t list (led t).is

-- what is read as a statement is one
pub statement_sound : (n : ℕ) → SoundStatements n (statement_at n)
unfolding statement_at
statement_sound zero list = on_none (IsStatement zero (bare list))
statement_sound (suc n) list = statement_of_sound n (statement_at n) (statement_sound n) list
