-- A `for` loop by the three parts in its brackets.
use Rattle.std.proofs.Common.{◌≡◌, ℕ, List, Option, Some, None, codes, refl}
use Rattle.glsl_tree.specs.Token.{PlainToken}
use Rattle.glsl_tree.specs.declared.expressions.Expr.{Expr}
use Rattle.glsl_tree.specs.declared.statements.Condition.{Condition}
use Rattle.glsl_tree.specs.declared.statements.Start.{Start}
use Rattle.glsl_tree.specs.declared.statements.Stmt.{Stmt}
use Rattle.glsl_tree.specs.declared.statements.Stmt.TheVariants as statement
use Rattle.glsl_parse.specs.Readings.{Reads, after, past, made}
use Rattle.glsl_parse.specs.Symbols.{after_mark}
use Rattle.glsl_parse.specs.StatementReadings.{start_at, optional_condition, optional_step, for_at, header_at, parted}
use Rattle.glsl_parse.specs.declared.symbols.Header.{Header}

abbrev pub looped_over : Reads Stmt → Header → Reads Stmt
looped_over inner h rest = made (statement.For h.start h.condition h.step) (inner rest)

module _ (n : ℕ) (inner : Reads Stmt) where
  by_step : (first : Start) (test : Option Condition) (s : Option (Option Expr × List PlainToken))
      → after s (λ step rest. made (statement.For first test step) (inner rest)) ≡ after (made (parted first test) s) (looped_over inner)
  by_step first test None = refl
  by_step first test (Some found) = refl

  by_test : (first : Start) (t : Option (Option Condition × List PlainToken))
      → after t (λ test rest. after (optional_step n rest) (λ step rest. made (statement.For first test step) (inner rest)))
      ≡ after (after t (λ test rest. made (parted first test) (optional_step n rest))) (looped_over inner)
  by_test first None = refl
  by_test first (Some found) = by_step first found.0 (optional_step n found.1)

  by_start : (s : Option (Start × List PlainToken))
      → after s (λ first rest. after (optional_condition n rest) (λ test rest. after (optional_step n rest) (λ step rest. made (statement.For first test step) (inner rest))))
      ≡ after (after s (λ first rest. after (optional_condition n rest) (λ test rest. made (parted first test) (optional_step n rest)))) (looped_over inner)
  by_start None = refl
  by_start (Some found) = by_test found.0 (optional_condition n found.1)

  by_bracket : (b : Option (List PlainToken))
      → past b (λ rest. after (start_at n rest) (λ first rest. after (optional_condition n rest) (λ test rest. after (optional_step n rest) (λ step rest. made (statement.For first test step) (inner rest)))))
      ≡ past b (λ rest. after (header_at n rest) (looped_over inner))
  unfolding header_at
  by_bracket None = refl
  by_bracket (Some rest) = by_start (start_at n rest)

  pub for_is : (list : List PlainToken) → for_at n inner list ≡ past (after_mark (codes "(") list) (λ rest. after (header_at n rest) (looped_over inner))
  unfolding for_at
  for_is list = by_bracket (after_mark (codes "(") list)
