-- The tokens of a text, from its front on.
use Rattle.std.proofs.Common.{◌≡◌, ℕ, zero, suc, ◌-◌, ◌<◌, List, [], ◌∷◌, length, take, drop, get_or, Result, Ok, Err, refl, sym, ap, ◌∙◌, arith}
use Rattle.glsl_tree.specs.Token.{PlainToken}
use Rattle.glsl_tree.specs.SourceTokens.{Before, Piece, Gap, Spelled, Foreign, piece_at, after_gap, after_token, tokens_from}
use Rattle.glsl_tree.specs.declared.token.Class.{Class}

skipped : (before : Before) (k : ℕ) (text : List ℕ) → tokens_from before k text ≡ tokens_from before 0 (drop k text)
unfolding tokens_from
skipped before zero text = refl
skipped before (suc k) [] = refl
skipped before (suc k) (b ∷ text) = skipped before k text

-- the same behind a piece, which has a byte at least
behind : (before : Before) (b n : ℕ) (text : List ℕ) → 0 < n → tokens_from before (n - 1) text ≡ tokens_from before 0 (drop n (b ∷ text))
behind before b zero text h = absurd (omega arith)
behind before b (suc n) text h = ap (λ k. tokens_from before k text) (omega arith) ∙ skipped before n text

abbrev read : Before → ℕ → List ℕ → Piece → Result (List PlainToken) ℕ
read before b text (Gap n lines) = tokens_from (after_gap before lines) (n - 1) text
read before b text (Spelled class n) = tokens_from (after_token before class (take n (b ∷ text))) (n - 1) text
read before b text Foreign = Err before.line

read_is : (before : Before) (b : ℕ) (text : List ℕ) → tokens_from before 0 (b ∷ text) ≡ read before b text (piece_at b (b ∷ text))
unfolding tokens_from
read_is before b text = by_piece (piece_at b (b ∷ text))
  where
    by_piece : (p : Piece) → elim p [
      | Gap n lines ↦ tokens_from (after_gap before lines) (n - 1) text
      | Spelled class n ↦ tokens_from (after_token before class (take n (b ∷ text))) (n - 1) text
      | Foreign ↦ Err before.line
    ] ≡ read before b text p
    by_piece (Gap n lines) = refl
    by_piece (Spelled class n) = refl
    by_piece Foreign = refl

pub read_gap : (before : Before) (text : List ℕ) (n lines : ℕ) → 0 < length text → 0 < n → Gap n lines ≡ piece_at (get_or text 0 0) text → tokens_from before 0 text ≡ tokens_from (after_gap before lines) 0 (drop n text)
read_gap before [] n lines h k e = absurd (omega arith)
read_gap before (b ∷ text) n lines h k e = read_is before b text ∙ ap (read before b text) (sym e) ∙ behind (after_gap before lines) b n text k

pub read_token : (before : Before) (text : List ℕ) (class : Class) (n : ℕ) → 0 < length text → 0 < n → Spelled class n ≡ piece_at (get_or text 0 0) text → tokens_from before 0 text ≡ tokens_from (after_token before class (take n text)) 0 (drop n text)
read_token before [] class n h k e = absurd (omega arith)
read_token before (b ∷ text) class n h k e = read_is before b text ∙ ap (read before b text) (sym e) ∙ behind (after_token before class (take n (b ∷ text))) b n text k

pub read_foreign : (before : Before) (text : List ℕ) → 0 < length text → Foreign ≡ piece_at (get_or text 0 0) text → tokens_from before 0 text ≡ Err before.line
read_foreign before [] h e = absurd (omega arith)
read_foreign before (b ∷ text) h e = read_is before b text ∙ ap (read before b text) (sym e)

pub read_end : (before : Before) (text : List ℕ) → length text ≡ 0 → tokens_from before 0 text ≡ Ok before.tokens
unfolding tokens_from
read_end before [] h = refl
read_end before (b ∷ text) h = absurd (omega arith)
