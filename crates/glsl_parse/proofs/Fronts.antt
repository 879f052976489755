-- Readings of a list without tokens, and of one by its first token.
use Rattle.std.proofs.Common.{◌≡◌, ◌<◌, ◌-◌, ℕ, zero, suc, List, [], ◌∷◌, length, Some, None, refl, ap, ◌∙◌, arith}
use Rattle.std.specs.Prelude.{slice_get}
use Rattle.glsl_tree.specs.declared.token.Token.{Token}
use Rattle.glsl_tree.specs.Token.{plain, plain_tokens}
use Rattle.glsl_parse.specs.Symbols.{leader_of}
use Rattle.glsl_parse.specs.TypeReadings.{type_specifier, type_of}
use Rattle.glsl_parse.specs.StatementReadings.{statement_at, statement_of, statement_led}
use Rattle.glsl_parse.proofs.Rooms.{statement_some}

pub no_type : (room : ℕ) (list : List Token) → length list ≡ 0 → type_specifier room (plain_tokens list) ≡ None
unfolding type_specifier type_of
no_type zero list e = refl
no_type (suc n) [] e = refl
no_type (suc n) (t ∷ rest) e = absurd (omega arith)

pub no_statement : (room : ℕ) (list : List Token) → slice_get list 0 ≡ None → statement_at room (plain_tokens list) ≡ None
unfolding statement_at statement_of
no_statement zero list e = refl
no_statement (suc n) [] e = refl
no_statement (suc n) (t ∷ rest) e = absurd cc

pub led_statement : (room : ℕ) (list : List Token) (token : Token) → 0 < room → slice_get list 0 ≡ Some token
    → statement_at room (plain_tokens list) ≡ statement_led (room - 1) (statement_at (room - 1)) (leader_of (plain token)) (plain_tokens list)
unfolding statement_of
led_statement room [] token h e = absurd cc
led_statement room (t ∷ rest) token h e =
    let same : t ≡ token = cc in
    statement_some room (plain_tokens (t ∷ rest)) h
    ∙ ap (λ s. statement_led (room - 1) (statement_at (room - 1)) (leader_of (plain s)) (plain_tokens (t ∷ rest))) same
