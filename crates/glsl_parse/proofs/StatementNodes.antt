-- The tokens, the shape and the height of a statement, from those of its parts.
use Rattle.std.proofs.Common.{◌≡◌, ◌≤◌, ℕ, List, sym, ap, subst, arith}
use Rattle.glsl_tree.specs.declared.statements.Stmt.{Stmt}
use Rattle.glsl_tree.specs.declared.statements.Stmt.TheOpen.{Stmt-F}
use Rattle.glsl_tree.specs.declared.statements.Stmt.TheFolds.{fold-roll-Stmt, map-Stmt}
use Rattle.glsl_tree.specs.declared.statements.Stmt.TheViews.{roll-Stmt, out-Stmt, roll-out-Stmt}
use Rattle.glsl_tree.specs.Statements.{Shape, statement_tokens, statement_layer, statement_shape, shape_layer, statement_height, statement_height_layer}
use Rattle.glsl_tree.specs.Token.{PlainToken}

abbrev pub tokens_of : Stmt-F Stmt → List PlainToken
tokens_of x = statement_layer (map-Stmt Stmt (List PlainToken) statement_tokens x)

abbrev pub shape_of : Stmt-F Stmt → Shape
shape_of x = shape_layer (map-Stmt Stmt Shape statement_shape x)

abbrev pub height_of : Stmt-F Stmt → ℕ
height_of x = statement_height_layer (map-Stmt Stmt ℕ statement_height x)

-- a statement with these parts
pub record IsNode (s : Stmt) (x : Stmt-F Stmt) : Type 0 where
  pub spelled : statement_tokens s ≡ tokens_of x
  pub shaped : statement_shape s ≡ shape_of x
  pub high : statement_height s ≡ height_of x

rolled : (x : Stmt-F Stmt) → IsNode (roll-Stmt x) x
unfolding statement_tokens statement_shape statement_height
rolled x = record {
  spelled = fold-roll-Stmt (List PlainToken) statement_layer x;
  shaped = fold-roll-Stmt Shape shape_layer x;
  high = fold-roll-Stmt ℕ statement_height_layer x;
}

pub node : (x : Stmt-F Stmt) (s : Stmt) → roll-Stmt x ≡ s → IsNode s x
node x s is = subst (λ f. IsNode f x) is (rolled x)

-- a law of the layers is one of the statements
pub from_layers : (P : List PlainToken → Shape → ℕ → Stmt → Type 0)
    → ((x : Stmt-F Stmt) → P (tokens_of x) (shape_of x) (height_of x) (roll-Stmt x))
    → (s : Stmt) → P (statement_tokens s) (statement_shape s) (statement_height s) s
from_layers P law e =
    let k = node (out-Stmt e) e (roll-out-Stmt e) in
    let here = subst (λ f. P (tokens_of (out-Stmt e)) (shape_of (out-Stmt e)) (height_of (out-Stmt e)) f) (roll-out-Stmt e)
    (law (out-Stmt e)) in
    let high = subst (λ h. P (tokens_of (out-Stmt e)) (shape_of (out-Stmt e)) h e) (sym k.high) here in
    let shaped = subst (λ g. P (tokens_of (out-Stmt e)) g (statement_height e) e) (sym k.shaped) high in
    subst (λ w. P w (statement_shape e) (statement_height e) e) (sym k.spelled) shaped

positive : (x : Stmt-F Stmt) → 1 ≤ height_of x
positive (Stmt-F.Block statements) = omega arith
positive (Stmt-F.Declaration d) = omega arith
positive Stmt-F.Empty = omega arith
positive (Stmt-F.Expression e) = omega arith
positive (Stmt-F.If test branch otherwise) = omega arith
positive (Stmt-F.While test body) = omega arith
positive (Stmt-F.Do body test) = omega arith
positive (Stmt-F.For first test step body) = omega arith
positive Stmt-F.Break = omega arith
positive Stmt-F.Continue = omega arith
positive Stmt-F.Discard = omega arith
positive (Stmt-F.Return value) = omega arith

abbrev IsHigh : List PlainToken → Shape → ℕ → Stmt → Type 0
IsHigh tokens shape height s = 1 ≤ height

-- each statement is a node at least
pub has_height : (s : Stmt) → 1 ≤ statement_height s
has_height = from_layers IsHigh positive
