-- A list with its `defined` answered, one token at a time.
use Rattle.std.proofs.Common.{◌≡◌, ◌<◌, ◌++◌, ℕ, zero, suc, List, [], ◌∷◌, length, drop, get_or, Option, Some, None, refl, sym, ap, ◌∙◌}
use Rattle.std.proofs.lemmas.List.{drop-map}
use Rattle.glsl_tree.specs.Token.{PlainToken, plain, plain_tokens}
use Rattle.glsl_tree.specs.declared.token.Token.{Token}
use Rattle.glsl_preproc.specs.Macros.{MacroMap, is_defined}
use Rattle.glsl_preproc.specs.Conditions.{Asked, Other, Of, Broken, asked_at, answer_token, answered_from}
use Rattle.glsl_preproc.proofs.Items.{at_first, at_none}

skipped : (macros : MacroMap) (done : List PlainToken) (k : ℕ) (list : List PlainToken) → answered_from macros done k list ≡ answered_from macros done 0 (drop k list)
unfolding answered_from
skipped macros done zero list = refl
skipped macros done (suc k) [] = refl
skipped macros done (suc k) (t ∷ list) = skipped macros done k list

abbrev pub answered_step : MacroMap → List PlainToken → PlainToken → List PlainToken → Asked → Option (List PlainToken)
answered_step macros done t rest Other = answered_from macros (done ++ t ∷ []) 0 rest
answered_step macros done t rest (Of name n) = answered_from macros (done ++ answer_token (is_defined macros name) ∷ []) n rest
answered_step macros done t rest Broken = None

step_is : (macros : MacroMap) (done : List PlainToken) (t : PlainToken) (rest : List PlainToken) → answered_from macros done 0 (t ∷ rest) ≡ answered_step macros done t rest (asked_at t rest)
unfolding answered_from
step_is macros done t rest = by_asked (asked_at t rest)
  where
    by_asked : (a : Asked) → elim a [
      | Other ↦ answered_from macros (done ++ t ∷ []) 0 rest
      | Of name n ↦ answered_from macros (done ++ answer_token (is_defined macros name) ∷ []) n rest
      | Broken ↦ None
    ] ≡ answered_step macros done t rest a
    by_asked Other = refl
    by_asked (Of name n) = refl
    by_asked Broken = refl

pub answered_at : (macros : MacroMap) (done : List PlainToken) (rest : List Token) (x : Token) (a : Asked) → 0 < length rest → x ≡ get_or rest 0 x → a ≡ asked_at (plain x) (plain_tokens (drop 1 rest))
    → answered_from macros done 0 (plain_tokens rest) ≡ answered_step macros done (plain x) (plain_tokens (drop 1 rest)) a
answered_at macros done rest x a h e asked = at_first (λ l. answered_from macros done 0 (plain_tokens l)) rest x h e ∙ step_is macros done (plain x) (plain_tokens (drop 1 rest)) ∙ ap (answered_step macros done (plain x) (plain_tokens (drop 1 rest))) (sym asked)

pub answered_skip : (macros : MacroMap) (done : List PlainToken) (k : ℕ) (rest : List Token) → answered_from macros done k (plain_tokens rest) ≡ answered_from macros done 0 (plain_tokens (drop k rest))
answered_skip macros done k rest = skipped macros done k (plain_tokens rest) ∙ ap (answered_from macros done 0) (drop-map plain k rest)

pub answered_end : (macros : MacroMap) (done : List PlainToken) (rest : List Token) → length rest ≡ 0 → answered_from macros done 0 (plain_tokens rest) ≡ Some done
unfolding answered_from
answered_end macros done rest h = at_none (λ l. answered_from macros done 0 (plain_tokens l)) rest h
