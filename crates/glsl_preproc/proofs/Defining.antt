-- What `#define` and `#undef` do.
use Rattle.std.proofs.Common.{◌≡◌, ◌<◌, ◌≤◌, ◌+◌, ◌++◌, ℕ, Bool, true, false, not, cond, ◌&&◌, List, [], ◌∷◌, length, drop, get_or, Option, Some, None, refl, sym, ap, arith}
use Rattle.std.proofs.lemmas.Bool.{cond-true, cond-false}
use Rattle.std.specs.List.{list_any}
use Rattle.std.specs.Str.{bytes_eq}
use Rattle.glsl_tree.specs.Token.{PlainToken, plain, plain_tokens}
use Rattle.glsl_tree.specs.declared.token.Token.{Token}
use Rattle.glsl_preproc.specs.Macros.{MacroMap, PlainMacro, same_macro, is_name_token, with_macro}
use Rattle.glsl_preproc.specs.Replacement.{closes, is_comma}
use Rattle.glsl_preproc.specs.Directives.{defined_again, parameters_from}
use Rattle.glsl_preproc.specs.DirectiveViews.{standing}
use Rattle.glsl_preproc.specs.declared.directives.Standing.TheVariants.{New, Same, Other}

other_new : (b : Bool) → New ≡ cond b Same Other → ⊥
other_new true e = cc
other_new false e = cc

other_same : (b : Bool) → Same ≡ cond b Same Other → b ≡ true
other_same true e = refl
other_same false e = absurd cc

other_other : (b : Bool) → Other ≡ cond b Same Other → b ≡ false
other_other true e = absurd cc
other_other false e = refl

pub defined_new : (macros : MacroMap) (m : PlainMacro) (o : Option PlainMacro) → New ≡ standing m o → defined_again macros m o ≡ Some (with_macro macros m)
defined_new macros m None e = refl
defined_new macros m (Some old) e = absurd (other_new (same_macro old m) e)

pub defined_same : (macros : MacroMap) (m : PlainMacro) (o : Option PlainMacro) → Same ≡ standing m o → defined_again macros m o ≡ Some macros
defined_same macros m None e = absurd cc
defined_same macros m (Some old) e = cond-true (same_macro old m) _ _ (other_same (same_macro old m) e)

pub defined_other : (macros : MacroMap) (m : PlainMacro) (o : Option PlainMacro) → Other ≡ standing m o → defined_again macros m o ≡ None
defined_other macros m None e = absurd cc
defined_other macros m (Some old) e = cond-false (same_macro old m) _ _ (other_other (same_macro old m) e)

-- Parameters.
two_and_rest : (xs : List Token) (x y : Token) → 2 ≤ length xs → x ≡ get_or xs 0 x → y ≡ get_or xs 1 y → xs ≡ x ∷ y ∷ drop 2 xs
two_and_rest [] x y h d e = absurd (omega arith)
two_and_rest (a ∷ []) x y h d e = absurd (omega arith)
two_and_rest (a ∷ b ∷ xs) x y h d e = λ i. sym d i ∷ sym e i ∷ xs

abbrev pub parameters_step : List (List ℕ) → ℕ → PlainToken → PlainToken → List PlainToken → Option (List (List ℕ) × ℕ)
parameters_step done count name separator rest = cond (is_name_token name && not (list_any (λ p. bytes_eq p name.text) done))
    (cond (closes separator) (Some (done ++ name.text ∷ [], count + 2)) (cond (is_comma separator) (parameters_from (done ++ name.text ∷ []) (count + 2) rest) None)) None

pub parameters_two : (done : List (List ℕ)) (count : ℕ) (xs : List Token) (x y : Token) → 2 ≤ length xs → x ≡ get_or xs 0 x → y ≡ get_or xs 1 y → parameters_from done count (plain_tokens xs) ≡ parameters_step done count (plain x) (plain y) (plain_tokens (drop 2 xs))
unfolding parameters_from
parameters_two done count xs x y h d e = ap (λ l. parameters_from done count (plain_tokens l)) (two_and_rest xs x y h d e)

pub parameters_few : (done : List (List ℕ)) (count : ℕ) (xs : List Token) → length xs < 2 → parameters_from done count (plain_tokens xs) ≡ None
unfolding parameters_from
parameters_few done count [] h = refl
parameters_few done count (a ∷ []) h = refl
parameters_few done count (a ∷ b ∷ xs) h = absurd (omega arith)
