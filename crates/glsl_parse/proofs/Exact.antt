-- The reading of a whole shader is the grammar: it finds the tree that spells the tokens, and nothing where no tree does.
use Rattle.std.proofs.Common.{◌≡◌, ◌≤◌, ℕ, suc, List, [], ◌∷◌, Option, Some, None, refl, sym, ap, ◌∙◌, arith}
use Rattle.std.specs.List.{list_all}
use Rattle.std.proofs.lemmas.Bool.{and_parts, and_from}
use Rattle.glsl_tree.specs.declared.token.Token.{Token}
use Rattle.glsl_tree.specs.declared.statements.Unit as shader
use Rattle.glsl_tree.specs.Types.{is_any}
use Rattle.glsl_tree.specs.Statements.{is_item, unit_height, Spells, WellFormedTree}
use Rattle.glsl_tree.specs.Token.{PlainToken, plain_tokens}
use Rattle.glsl_parse.specs.StatementReadings.{items_at}
use Rattle.glsl_parse.proofs.SoundReadings.{bare, same_read}
use Rattle.glsl_parse.proofs.SoundUnits.{items_sound}
use Rattle.glsl_parse.proofs.CompleteUnits.{items_complete}
use Rattle.glsl_parse.proofs.Lineless.{lineless, line_items}

-- a shader of at most this height that is well formed and spells the tokens
pub record IsTree (n : ℕ) (tokens : List Token) (unit : shader.Unit) : Type 0 where
  pub well_formed : WellFormedTree unit
  pub high : unit_height unit ≤ suc n
  pub spells : Spells unit tokens

-- what is read is such a tree, and all tokens are read
pub tree_read : (n : ℕ) (tokens : List Token) (unit : shader.Unit) (rest : List PlainToken) → items_at n (plain_tokens tokens)
    ≡ Some (unit.items, rest) → IsTree n tokens unit × (rest ≡ [])
tree_read n tokens unit rest e =
    let r = (items_sound n (plain_tokens tokens)).given unit.items rest e in (
      record {
        well_formed = and_from (is_any unit.items) (list_all is_item unit.items) r.any r.fits;
        high = omega (arith, r.high);
        spells = r.spelled;
      },
      r.nothing,
    )

-- what is found without lines, and no token after it, is found with them
with_lines : {A : Type 0} (r : Option (A × List PlainToken)) (a : A) → lineless r ≡ Some (a, []) → r ≡ Some (a, [])
with_lines None a e = absurd cc
with_lines (Some found) a e =
    let same = same_read found.0 a (bare found.1) [] e in
    ap (λ x. Some (x, found.1)) same.0 ∙ ap (λ w. Some (a, w)) (empty found.1 same.1)
  where
    empty : (list : List PlainToken) → bare list ≡ [] → list ≡ []
    empty [] e = refl
    empty (t ∷ list) e = absurd cc

-- each such tree is read
pub read_tree : (n : ℕ) (tokens : List Token) (unit : shader.Unit) → IsTree n tokens unit → items_at n (plain_tokens tokens)
    ≡ Some (unit.items, [])
read_tree n tokens unit t =
    let both = and_parts (is_any unit.items) (list_all is_item unit.items) t.well_formed in
    with_lines (items_at n (plain_tokens tokens)) unit.items
    (sym (line_items n (plain_tokens tokens)) ∙ ap (items_at n) t.spells
    ∙ items_complete n unit.items both.0 both.1 (omega (arith, t.high)))

-- no tokens have two trees
pub one_tree : (n : ℕ) (tokens : List Token) (a b : shader.Unit) → IsTree n tokens a → IsTree n tokens b → a.items ≡ b.items
one_tree n tokens a b s t = (same_read a.items b.items [] [] (sym (read_tree n tokens a s) ∙ read_tree n tokens b t)).0

-- tokens that are not read have none
pub no_tree : (n : ℕ) (tokens : List Token) (unit : shader.Unit) → items_at n (plain_tokens tokens) ≡ None → IsTree n tokens unit → ⊥
no_tree n tokens unit e t = let is = read_tree n tokens unit t in absurd cc
