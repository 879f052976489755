-- The arguments of a call, one token at a time.
use Rattle.std.proofs.Common.{◌≡◌, ◌<◌, ◌≤◌, ◌+◌, ◌-◌, ◌++◌, ℕ, zero, suc, Bool, true, false, cond, eqb, ◌&&◌, List, [], ◌∷◌, length, take, drop, get_or, Some, None, refl, sym, ap, ◌∙◌, arith}
use Rattle.std.proofs.lemmas.Bool.{cond-true, cond-false, and_parts, eqb-true}
use Rattle.std.proofs.lemmas.List.{take_more, map_push, drop-append-le, length-take-le}
use Rattle.glsl_tree.specs.Token.{PlainToken}
use Rattle.glsl_preproc.specs.Views.{plain_piece, plain_pieces}
use Rattle.glsl_preproc.specs.declared.pieces.Piece.{Piece}
use Rattle.glsl_preproc.specs.Replacement.{arguments_from, opens, closes, is_comma}
use Rattle.glsl_preproc.proofs.Items.{first_dropped, dropped_none}

module _ (list : List Piece) (at next : ℕ) (x : Piece) (n : next ≡ at + 1) (inside : at < length list) (is : x ≡ get_or list at x) where
  -- at the token of a place, with the tokens behind it
  first : (whole : List (List PlainToken)) (current : List PlainToken) (depth : ℕ)
      → arguments_from whole current depth (1 + at) (plain_pieces (drop at list)) ≡ arguments_from whole current depth next (plain_piece x ∷ plain_pieces (drop next list))
  first whole current depth = ap (λ k. arguments_from whole current depth k (plain_pieces (drop at list))) (omega arith)
      ∙ first_dropped (λ l. arguments_from whole current depth next (plain_pieces l)) list at next x (omega arith) inside is

  pub args_open : (whole : List (List PlainToken)) (current : List PlainToken) (depth : ℕ) → opens (plain_piece x) ≡ true
      → arguments_from whole current depth (1 + at) (plain_pieces (drop at list)) ≡ arguments_from whole (current ++ plain_piece x ∷ []) (depth + 1) (next + 1) (plain_pieces (drop next list))
  unfolding arguments_from
  args_open whole current depth o = first whole current depth ∙ cond-true _ _ _ o

  pub args_end : (whole : List (List PlainToken)) (current : List PlainToken) (depth : ℕ) → opens (plain_piece x) ≡ false → (eqb depth 0 && closes (plain_piece x)) ≡ true
      → arguments_from whole current depth (1 + at) (plain_pieces (drop at list)) ≡ Some (whole ++ current ∷ [], next + 1)
  unfolding arguments_from
  args_end whole current depth o f = first whole current depth ∙ cond-false _ _ _ o ∙ cond-true _ _ _ f

  pub args_part : (whole : List (List PlainToken)) (current : List PlainToken) (depth : ℕ) → opens (plain_piece x) ≡ false → (eqb depth 0 && closes (plain_piece x)) ≡ false → (eqb depth 0 && is_comma (plain_piece x)) ≡ true
      → arguments_from whole current depth (1 + at) (plain_pieces (drop at list)) ≡ arguments_from (whole ++ current ∷ []) [] 0 (next + 1) (plain_pieces (drop next list))
  unfolding arguments_from
  args_part whole current depth o f g = first whole current depth ∙ cond-false _ _ _ o ∙ cond-false _ _ _ f ∙ cond-true _ _ _ g

  pub args_other : (whole : List (List PlainToken)) (current : List PlainToken) (depth : ℕ) → opens (plain_piece x) ≡ false → (eqb depth 0 && closes (plain_piece x)) ≡ false → (eqb depth 0 && is_comma (plain_piece x)) ≡ false
      → arguments_from whole current depth (1 + at) (plain_pieces (drop at list)) ≡ arguments_from whole (current ++ plain_piece x ∷ []) (cond (closes (plain_piece x)) (depth - 1) depth) (next + 1) (plain_pieces (drop next list))
  unfolding arguments_from
  args_other whole current depth o f g = first whole current depth ∙ cond-false _ _ _ o ∙ cond-false _ _ _ f ∙ cond-false _ _ _ g

  -- the tokens of an argument, with one more
  pub longer : (start : ℕ) → start ≤ at → plain_pieces (drop start (take next list)) ≡ plain_pieces (drop start (take at list)) ++ plain_piece x ∷ []
  longer start h =
      let long : length (take at list) ≡ at = length-take-le at list (omega arith) in
      ap (λ k. plain_pieces (drop start (take k list))) n
      ∙ ap (λ l. plain_pieces (drop start l)) (take_more list at x inside ∙ ap (λ y. take at list ++ y ∷ []) (sym is))
      ∙ ap plain_pieces (drop-append-le start (take at list) (x ∷ []) (omega arith))
      ∙ map_push plain_piece (drop start (take at list)) x

-- the tokens of an argument that begins
pub begun : (list : List Piece) (at : ℕ) → plain_pieces (drop at (take at list)) ≡ []
begun [] zero = refl
begun [] (suc at) = refl
begun (x ∷ list) zero = refl
begun (x ∷ list) (suc at) = begun list at

pub args_none : (whole : List (List PlainToken)) (current : List PlainToken) (depth count : ℕ) (list : List Piece) (at : ℕ) → length list ≤ at → arguments_from whole current depth count (plain_pieces (drop at list)) ≡ None
unfolding arguments_from
args_none whole current depth count list at h = dropped_none (λ l. arguments_from whole current depth count (plain_pieces l)) list at h

pub depth_zero : (depth : ℕ) (b : Bool) → (eqb depth 0 && b) ≡ true → depth ≡ 0
depth_zero depth b e = let parts = and_parts (eqb depth 0) b e in eqb-true depth 0 parts.0
