-- The tokens, the grade and the height of an expression, from those of its parts.
use Rattle.std.proofs.Common.{◌≡◌, ◌≤◌, ℕ, zero, suc, List, sym, ap, subst, arith}
use Rattle.glsl_tree.specs.declared.expressions.Expr.{Expr}
use Rattle.glsl_tree.specs.declared.expressions.Expr.TheOpen.{Expr-F}
use Rattle.glsl_tree.specs.declared.expressions.Expr.TheFolds.{fold-roll-Expr, map-Expr}
use Rattle.glsl_tree.specs.declared.expressions.Expr.TheViews.{roll-Expr, out-Expr, roll-out-Expr}
use Rattle.glsl_tree.specs.Expressions.{Grade, expression_tokens, expression_layer, grade, grade_layer, expression_height, height_layer}
use Rattle.glsl_tree.specs.Token.{PlainToken}

abbrev pub tokens_of : Expr-F Expr → List PlainToken
tokens_of x = expression_layer (map-Expr Expr (List PlainToken) expression_tokens x)

abbrev pub grade_of : Expr-F Expr → Grade
grade_of x = grade_layer (map-Expr Expr Grade grade x)

abbrev pub height_of : Expr-F Expr → ℕ
height_of x = height_layer (map-Expr Expr ℕ expression_height x)

-- an expression with these tokens, this grade and this height
pub record IsNode (e : Expr) (x : Expr-F Expr) : Type 0 where
  pub spelled : expression_tokens e ≡ tokens_of x
  pub graded : grade e ≡ grade_of x
  pub high : expression_height e ≡ height_of x

rolled : (x : Expr-F Expr) → IsNode (roll-Expr x) x
unfolding expression_tokens grade expression_height
rolled x = record {
  spelled = fold-roll-Expr (List PlainToken) expression_layer x;
  graded = fold-roll-Expr Grade grade_layer x;
  high = fold-roll-Expr ℕ height_layer x;
}

pub node : (x : Expr-F Expr) (e : Expr) → roll-Expr x ≡ e → IsNode e x
node x e is = subst (λ f. IsNode f x) is (rolled x)

-- a law of the layers is one of the expressions
pub from_layers : (P : List PlainToken → Grade → ℕ → Expr → Type 0)
    → ((x : Expr-F Expr) → P (tokens_of x) (grade_of x) (height_of x) (roll-Expr x))
    → (e : Expr) → P (expression_tokens e) (grade e) (expression_height e) e
from_layers P law e =
    let k = node (out-Expr e) e (roll-out-Expr e) in
    let here = subst (λ f. P (tokens_of (out-Expr e)) (grade_of (out-Expr e)) (height_of (out-Expr e)) f) (roll-out-Expr e)
    (law (out-Expr e)) in
    let high = subst (λ h. P (tokens_of (out-Expr e)) (grade_of (out-Expr e)) h e) (sym k.high) here in
    let graded = subst (λ g. P (tokens_of (out-Expr e)) g (expression_height e) e) (sym k.graded) high in
    subst (λ w. P w (grade e) (expression_height e) e) (sym k.spelled) graded

positive : (x : Expr-F Expr) → 1 ≤ height_of x
positive (Expr-F.Name text) = omega arith
positive (Expr-F.Int text) = omega arith
positive (Expr-F.Float text) = omega arith
positive (Expr-F.Truth value) = omega arith
positive (Expr-F.Bracket inner) = omega arith
positive (Expr-F.Call called arguments) = omega arith
positive (Expr-F.CallVoid called) = omega arith
positive (Expr-F.Index base index) = omega arith
positive (Expr-F.Field base field) = omega arith
positive (Expr-F.Postfix operand operator) = omega arith
positive (Expr-F.Prefix operator operand) = omega arith
positive (Expr-F.Binary operator left right) = omega arith
positive (Expr-F.Conditional condition if_true if_false) = omega arith
positive (Expr-F.Assign operator target value) = omega arith

abbrev IsHigh : List PlainToken → Grade → ℕ → Expr → Type 0
IsHigh tokens g height e = 1 ≤ height

-- each expression is a node at least
pub has_height : (e : Expr) → 1 ≤ expression_height e
has_height = from_layers IsHigh positive

-- induction over the height: a law holds of an expression where it holds of all that are less high
module _ (P : List PlainToken → Grade → ℕ → Expr → Type 0)
    (step : (h : ℕ) → ((e : Expr) → expression_height e ≤ h → P (expression_tokens e) (grade e) (expression_height e) e)
    → (x : Expr-F Expr) → height_of x ≤ suc h → P (tokens_of x) (grade_of x) (height_of x) (roll-Expr x)) where
  abbrev Within : ℕ → List PlainToken → Grade → ℕ → Expr → Type 0
  Within h tokens g height e = height ≤ h → P tokens g height e

  within : (h : ℕ) (e : Expr) → Within h (expression_tokens e) (grade e) (expression_height e) e
  within zero e = from_layers (Within zero) (λ x low. absurd (omega (arith, low, positive x))) e
  within (suc h) e = from_layers (Within (suc h)) (λ x low. step h (within h) x low) e

  pub by_height : (e : Expr) → P (expression_tokens e) (grade e) (expression_height e) e
  by_height e = within (expression_height e) e (omega arith)
