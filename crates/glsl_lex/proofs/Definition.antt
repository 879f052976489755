-- The last three tokens.
use Rattle.std.proofs.Common.{◌≡◌, ◌<◌, ℕ, List, [], ◌∷◌, length, drop, map, get_or, refl, sym, ap, ◌∙◌, arith, false}
use Rattle.glsl_tree.specs.SourceTokens.{is_definition}
use Rattle.std.proofs.lemmas.List.{drop-map}
use Rattle.glsl_tree.specs.Token.{plain, plain_tokens, PlainToken}
use Rattle.glsl_tree.specs.declared.token.Token.{Token}

three_items : {X : Type 0} (xs : List X) (a b c : X) → length xs ≡ 3 → a ≡ get_or xs 0 a → b ≡ get_or xs 1 b → c ≡ get_or xs 2 c → xs ≡ a ∷ b ∷ c ∷ []
three_items [] a b c n p q r = absurd (omega arith)
three_items (x ∷ []) a b c n p q r = absurd (omega arith)
three_items (x ∷ y ∷ []) a b c n p q r = absurd (omega arith)
three_items (x ∷ y ∷ z ∷ []) a b c n p q r = λ i. sym p i ∷ sym q i ∷ sym r i ∷ []
three_items (x ∷ y ∷ z ∷ w ∷ xs) a b c n p q r = absurd (omega arith)

pub last_three : (k : ℕ) (tokens : List Token) (a b c : Token) → length (drop k tokens) ≡ 3 → a ≡ get_or (drop k tokens) 0 a → b ≡ get_or (drop k tokens) 1 b → c ≡ get_or (drop k tokens) 2 c
    → drop k (plain_tokens tokens) ≡ plain a ∷ plain b ∷ plain c ∷ []
last_three k tokens a b c n p q r = drop-map plain k tokens ∙ ap (map plain) (three_items (drop k tokens) a b c n p q r)

pub too_few : (tokens : List PlainToken) → length tokens < 3 → is_definition tokens ≡ false
unfolding is_definition
too_few [] h = refl
too_few (a ∷ []) h = refl
too_few (a ∷ b ∷ []) h = refl
too_few (a ∷ b ∷ c ∷ tokens) h = absurd (omega arith)
