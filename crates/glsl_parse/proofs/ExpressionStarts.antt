-- The first token of an expression.
use Rattle.std.proofs.Common.{◌≡◌, ◌≤◌, ◌+◌, ℕ, suc, Bool, true, false, cond, List, ◌∷◌, ◌++◌, None, codes, refl, ap, ◌∙◌, arith}
use Rattle.std.proofs.lemmas.Bool.{and_parts, leb-true}
use Rattle.glsl_tree.specs.declared.token.Class.TheVariants.{Int, Float}
use Rattle.glsl_tree.specs.declared.operators.PrefixOperator.{PrefixOperator}
use Rattle.glsl_tree.specs.declared.operators.PrefixOperator.TheVariants as prefix
use Rattle.glsl_tree.specs.declared.qualifiers.Basic.{Basic}
use Rattle.glsl_tree.specs.declared.expressions.Callee.{Callee}
use Rattle.glsl_tree.specs.declared.expressions.Callee.TheVariants as callee
use Rattle.glsl_tree.specs.declared.expressions.Expr.{Expr}
use Rattle.glsl_tree.specs.declared.expressions.Expr.TheOpen.{Expr-F}
use Rattle.glsl_tree.specs.declared.expressions.Expr.TheViews.{roll-Expr}
use Rattle.glsl_tree.specs.Operators.{prefix_text, assignment_level, conditional_level, or_level, prefix_level, postfix_level, binary_level}
use Rattle.glsl_tree.specs.Qualifiers.{basic_text}
use Rattle.glsl_tree.specs.Expressions.{Grade, token, mark, word, name, callee_token, expression_tokens, grade, stands, is_free, is_callee, expression_height}
use Rattle.glsl_tree.specs.Token.{PlainToken}
use Rattle.glsl_parse.specs.Symbols.{is_mark, is_word, prefix_of}
use Rattle.glsl_parse.proofs.ExpressionNodes.{tokens_of, grade_of, height_of, by_height}
use Rattle.glsl_parse.proofs.CompleteSymbols.{basic_no_void}

-- a token that begins a primary expression
pub data BeginsPrimary (t : PlainToken) : Type 0 where
  at_name : (text : List ℕ) → is_free text ≡ true → t ≡ name text → BeginsPrimary t
  at_int : (text : List ℕ) → t ≡ token Int text → BeginsPrimary t
  at_float : (text : List ℕ) → t ≡ token Float text → BeginsPrimary t
  at_truth : (value : Bool) → t ≡ word (cond value (codes "true") (codes "false")) → BeginsPrimary t
  at_basic : (kind : Basic) → t ≡ word (basic_text kind) → BeginsPrimary t
  at_bracket : t ≡ mark (codes "(") → BeginsPrimary t

-- a token that begins an expression of this level
pub data Begins (level : ℕ) (t : PlainToken) : Type 0 where
  at_primary : BeginsPrimary t → Begins level t
  at_prefix : (operator : PrefixOperator) → level ≤ prefix_level → t ≡ mark (prefix_text operator) → Begins level t

-- tokens of which the first begins an expression of this level
pub record Starts (level : ℕ) (tokens : List PlainToken) : Type 0 where
  pub first : PlainToken
  pub more : List PlainToken
  pub are : tokens ≡ first ∷ more
  pub begins : Begins level first

primary_starts : (level : ℕ) (t : PlainToken) (more : List PlainToken) → BeginsPrimary t → Starts level (t ∷ more)
primary_starts level t more b = record { first = t; more = more; are = refl; begins = at_primary b }

-- what is begun by a part of a level that is no lower
pub left_starts : (level least : ℕ) (tokens more : List PlainToken) → least ≤ level → Starts level tokens → Starts least (tokens ++ more)
left_starts level least tokens more h s =
    record { first = s.first; more = s.more ++ more; are = ap (λ w. w ++ more) s.are; begins = lowered s.begins }
  where
    lowered : Begins level s.first → Begins least s.first
    lowered (at_primary b) = at_primary b
    lowered (at_prefix operator low e) = at_prefix operator (omega (arith, low, h)) e

callee_begins : (called : Callee) → is_callee called ≡ true → BeginsPrimary (callee_token called)
callee_begins (callee.Name text) e = at_name text e refl
callee_begins (callee.Basic kind) e = at_basic kind refl

-- a part that stands where this level is asked for
pub record Stood (level : ℕ) (e : Expr) : Type 0 where
  pub fits : (grade e).fits ≡ true
  pub high : level ≤ (grade e).level

pub stood : (level : ℕ) (e : Expr) → stands level (grade e) ≡ true → Stood level e
stood level e s =
    let both = and_parts (grade e).fits _ s in
    record { fits = both.0; high = leb-true level (grade e).level both.1 }

abbrev StartsAs : List PlainToken → Grade → ℕ → Expr → Type 0
StartsAs tokens g height e = g.fits ≡ true → Starts g.level tokens

starts_step : (h : ℕ) → ((e : Expr) → expression_height e ≤ h → StartsAs (expression_tokens e) (grade e) (expression_height e) e)
    → (x : Expr-F Expr) → height_of x ≤ suc h → StartsAs (tokens_of x) (grade_of x) (height_of x) (roll-Expr x)
starts_step h within x high = go x high
  where
    left : (level least : ℕ) (e : Expr) (more : List PlainToken) → least ≤ level → stands level (grade e) ≡ true
        → expression_height e ≤ h → Starts least (expression_tokens e ++ more)
    left level least e more low s high = let k =
        stood level e s in left_starts (grade e).level least (expression_tokens e) more (omega (arith, low, k.high))
        (within e high k.fits)

    go : (x : Expr-F Expr) → height_of x ≤ suc h → (grade_of x).fits ≡ true → Starts (grade_of x).level (tokens_of x)
    go (Expr-F.Name text) high fits = primary_starts _ _ _ (at_name text fits refl)
    go (Expr-F.Int text) high fits = primary_starts _ _ _ (at_int text refl)
    go (Expr-F.Float text) high fits = primary_starts _ _ _ (at_float text refl)
    go (Expr-F.Truth value) high fits = primary_starts _ _ _ (at_truth value refl)
    go (Expr-F.Bracket inner) high fits = primary_starts _ _ _ (at_bracket refl)
    go (Expr-F.Call called arguments) high fits = primary_starts _ _ _ (callee_begins called (and_parts _ _ fits).0)
    go (Expr-F.CallVoid called) high fits = primary_starts _ _ _ (callee_begins called fits)
    go (Expr-F.Index base index) high fits = left postfix_level postfix_level base _ (omega arith) (and_parts _ _ fits).0 (omega arith)
    go (Expr-F.Field base field) high fits = left postfix_level postfix_level base _ (omega arith) (and_parts _ _ fits).0 (omega arith)
    go (Expr-F.Postfix operand operator) high fits = left postfix_level postfix_level operand _ (omega arith) fits (omega arith)
    go (Expr-F.Prefix operator operand) high fits =
        record {
          first = mark (prefix_text operator);
          more = expression_tokens operand;
          are = refl;
          begins = at_prefix operator
              (omega arith) refl;
        }
    go (Expr-F.Binary operator l r) high fits =
        left (binary_level operator) (binary_level operator) l _ (omega arith) (and_parts _ _ fits).0 (omega arith)
    go (Expr-F.Conditional condition if_true if_false) high fits =
        left or_level conditional_level condition _ (omega arith) (and_parts _ _ fits).0 (omega arith)
    go (Expr-F.Assign operator target value) high fits =
        left prefix_level assignment_level target _ (omega arith) (and_parts _ _ fits).0 (omega arith)

-- a well-formed expression begins with such a token
pub starts : (e : Expr) → (grade e).fits ≡ true → Starts (grade e).level (expression_tokens e)
starts = by_height StartsAs starts_step

-- what computes the same at each token that begins an expression
module _ {B : Type 0} (f : PlainToken → B) (b : B)
    (names : (text : List ℕ) → is_free text ≡ true → f (name text) ≡ b) (ints : (text : List ℕ) → f (token Int text) ≡ b)
    (floats : (text : List ℕ) → f (token Float text) ≡ b)
    (truths : (value : Bool) → f (word (cond value (codes "true") (codes "false"))) ≡ b) (basics : (kind : Basic)
    → f (word (basic_text kind)) ≡ b) (bracket : f (mark (codes "(")) ≡ b) where
  pub at_beginning_primary : (t : PlainToken) → BeginsPrimary t → f t ≡ b
  at_beginning_primary t (at_name text free e) = ap f e ∙ names text free
  at_beginning_primary t (at_int text e) = ap f e ∙ ints text
  at_beginning_primary t (at_float text e) = ap f e ∙ floats text
  at_beginning_primary t (at_truth value e) = ap f e ∙ truths value
  at_beginning_primary t (at_basic kind e) = ap f e ∙ basics kind
  at_beginning_primary t (at_bracket e) = ap f e ∙ bracket

  pub at_beginning : ((operator : PrefixOperator) → f (mark (prefix_text operator)) ≡ b) → (level : ℕ) (t : PlainToken)
      → Begins level t → f t ≡ b
  at_beginning prefixes level t (at_primary p) = at_beginning_primary t p
  at_beginning prefixes level t (at_prefix operator low e) = ap f e ∙ prefixes operator

-- no expression begins with `)` or `void`
pub no_closing : (level : ℕ) (t : PlainToken) → Begins level t → is_mark (codes ")") t ≡ false
unfolding is_mark
no_closing = at_beginning (is_mark (codes ")")) false (λ text free. refl) (λ text. refl) (λ text. refl) (λ value. refl) (λ kind. refl)
    refl no_prefix
  where
    no_prefix : (operator : PrefixOperator) → is_mark (codes ")") (mark (prefix_text operator)) ≡ false
    no_prefix prefix.Increment = refl
    no_prefix prefix.Decrement = refl
    no_prefix prefix.Plus = refl
    no_prefix prefix.Minus = refl
    no_prefix prefix.Not = refl

pub no_void : (level : ℕ) (t : PlainToken) → Begins level t → is_word (codes "void") t ≡ false
unfolding is_word
no_void = at_beginning (is_word (codes "void")) false (λ text free. refl) (λ text. refl) (λ text. refl) no_truth basic_no_void refl
    (λ operator. refl)
  where
    no_truth : (value : Bool) → is_word (codes "void") (word (cond value (codes "true") (codes "false"))) ≡ false
    no_truth true = refl
    no_truth false = refl

-- no primary expression begins with an operator
pub no_prefix_operator : (t : PlainToken) → BeginsPrimary t → prefix_of t ≡ None
unfolding prefix_of
no_prefix_operator = at_beginning_primary prefix_of None (λ text free. refl) (λ text. refl) (λ text. refl) (λ value. refl)
    (λ kind. refl) refl
