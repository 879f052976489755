-- Two lists compared from the front.
use Rattle.std.proofs.Common.{◌≡◌, ◌<◌, ℕ, false, ◌&&◌, eqb, List, [], ◌∷◌, length, drop, get_or, refl, sym, arith}
use Rattle.std.proofs.lemmas.Bool.{ne_eqb}
use Rattle.std.specs.Prelude.{Vec}
use Rattle.std.specs.Str.{bytes_eq}
use Rattle.std.specs.declared.alloc.Global.{Global}
use Rattle.glsl_tree.specs.Token.{plain, plain_tokens}
use Rattle.glsl_tree.specs.declared.token.Token.{Token}
use Rattle.glsl_preproc.specs.Macros.{same_token, same_body, same_names}
use Rattle.glsl_preproc.specs.Views.{texts}
use Rattle.glsl_preproc.proofs.Items.{first_and_rest}

pub body_first : (xs ys : List Token) (x y : Token) → 0 < length xs → 0 < length ys → x ≡ get_or xs 0 x → y ≡ get_or ys 0 y
    → same_body (plain_tokens xs) (plain_tokens ys) ≡ (same_token (plain x) (plain y) && same_body (plain_tokens (drop 1 xs)) (plain_tokens (drop 1 ys)))
unfolding same_body
body_first xs ys x y h k d e = λ i. same_body (plain_tokens (first_and_rest xs x h d i)) (plain_tokens (first_and_rest ys y k e i))

pub body_left : (xs ys : List Token) → length xs ≡ 0 → same_body (plain_tokens xs) (plain_tokens ys) ≡ eqb (length ys) 0
unfolding same_body
body_left [] [] h = refl
body_left [] (y ∷ ys) h = sym (ne_eqb (length (y ∷ ys)) 0 (λ e. absurd (omega arith)))
body_left (x ∷ xs) ys h = absurd (omega arith)

pub body_right : (xs ys : List Token) → 0 < length xs → length ys ≡ 0 → same_body (plain_tokens xs) (plain_tokens ys) ≡ false
unfolding same_body
body_right [] ys h k = absurd (omega arith)
body_right (x ∷ xs) [] h k = refl
body_right (x ∷ xs) (y ∷ ys) h k = absurd (omega arith)

pub names_first : (xs ys : List (Vec ℕ Global)) (x y : Vec ℕ Global) → 0 < length xs → 0 < length ys → x ≡ get_or xs 0 x → y ≡ get_or ys 0 y
    → same_names (texts xs) (texts ys) ≡ (bytes_eq x.items y.items && same_names (texts (drop 1 xs)) (texts (drop 1 ys)))
unfolding same_names
names_first xs ys x y h k d e = λ i. same_names (texts (first_and_rest xs x h d i)) (texts (first_and_rest ys y k e i))

pub names_left : (xs ys : List (Vec ℕ Global)) → length xs ≡ 0 → same_names (texts xs) (texts ys) ≡ eqb (length ys) 0
unfolding same_names
names_left [] [] h = refl
names_left [] (y ∷ ys) h = sym (ne_eqb (length (y ∷ ys)) 0 (λ e. absurd (omega arith)))
names_left (x ∷ xs) ys h = absurd (omega arith)

pub names_right : (xs ys : List (Vec ℕ Global)) → 0 < length xs → length ys ≡ 0 → same_names (texts xs) (texts ys) ≡ false
unfolding same_names
names_right [] ys h k = absurd (omega arith)
names_right (x ∷ xs) [] h k = refl
names_right (x ∷ xs) (y ∷ ys) h k = absurd (omega arith)
