-- A whole shader: what `parse` promises, from what all its tokens are read as.
use Rattle.std.proofs.Common.{◌≡◌, ◌≤◌, List, [], Some, None, sym, ap, ◌∙◌, arith}
use Rattle.glsl_tree.specs.declared.token.Token.{Token}
use Rattle.glsl_tree.specs.declared.statements.Item.{Item}
use Rattle.glsl_tree.specs.declared.statements.Unit as shader
use Rattle.glsl_tree.specs.Statements.{unit_height, Spells, WellFormedTree}
use Rattle.glsl_tree.specs.Token.{plain_tokens}
use Rattle.glsl_parse.specs.StatementReadings.{items_at}
use Rattle.glsl_parse.specs.Answers.{Refuses}
use Rattle.glsl_parse.specs.declared.errors.Parse.{Parse}
use Rattle.glsl_parse.specs.declared.errors.Parse.TheVariants as parse
use Rattle.glsl_parse.proofs.Exact.{IsTree, tree_read, read_tree, no_tree}
use Rattle.glsl_parse.proofs.SoundReadings.{same_read}

abbrev made : List Item → shader.Unit
made all = record { items = all }

module _ (tokens : List Token) (all : List Item) (is : items_at 127 (plain_tokens tokens) ≡ Some (all, [])) where
  is_tree : IsTree 127 tokens (made all)
  is_tree = (tree_read 127 tokens (made all) [] is).0

  pub whole_fits : WellFormedTree (made all)
  whole_fits = is_tree.well_formed

  pub whole_low : unit_height (made all) ≤ 128
  whole_low = omega (arith, is_tree.high)

  pub whole_spells : Spells (made all) tokens
  whole_spells = is_tree.spells

  pub whole_only : (other : shader.Unit) → WellFormedTree other → unit_height other ≤ 128 → Spells other tokens → other ≡ made all
  whole_only other fits low spells =
      let other_is : IsTree 127 tokens other = record { well_formed = fits; high = omega (arith, low); spells = spells } in
      let same = same_read other.items all [] [] (sym (read_tree 127 tokens other other_is) ∙ is) in
      ap made same.0

pub whole_none : (tokens : List Token) → items_at 127 (plain_tokens tokens) ≡ None → (other : shader.Unit) → WellFormedTree other → unit_height other ≤ 128 → Spells other tokens → ⊥
whole_none tokens none other fits low spells = no_tree 127 tokens other none (record { well_formed = fits; high = omega (arith, low); spells = spells })

-- an error that is Syntax
pub whole_syntax : (tokens : List Token) (e : Parse) → Refuses e (items_at 127 (plain_tokens tokens)) → e ≡ parse.Syntax
    → (other : shader.Unit) → WellFormedTree other → unit_height other ≤ 128 → Spells other tokens → ⊥
whole_syntax tokens parse.Syntax none same other fits low spells = whole_none tokens none other fits low spells
whole_syntax tokens parse.Memory none same other fits low spells = absurd cc

pub ruleset whole = (whole_fits, whole_low, whole_spells, whole_only, whole_syntax)
