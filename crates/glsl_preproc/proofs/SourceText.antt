-- In the tokens of a source the class Params stands behind `#`, `define` and a name.
use Rattle.std.proofs.Common.{◌≡◌, ◌-◌, ◌++◌, ℕ, zero, suc, Bool, true, false, not, ◌&&◌, ◌||◌, eqb, cond, List, [], ◌∷◌, length, take, drop, get_or, Option, Some, None, Result, Err, IfSome, IfOk, All, codes, bytes_eq, refl, sym, ap, subst, ◌∙◌, arith}
use Rattle.std.proofs.lemmas.Bool.{and_parts, and_from}
use Rattle.std.proofs.lemmas.Slice.Eq.{bytes_eq-Decides}
use Rattle.std.proofs.lemmas.List.Elements.{All-nil, All-head, All-tail, All-push}
use Rattle.glsl_tree.specs.Characters.{is_blank, is_line_break, is_letter, is_digit}
use Rattle.glsl_tree.specs.Comments.{Comment, NoComment, LineComment, BlockComment, OpenComment, comment_at, is_line_end_pair, line_end_len, line_ends}
use Rattle.glsl_tree.specs.Spellings.{is_name, is_keyword, is_int, is_float, is_punctuator, class_of, is_within_limits}
use Rattle.glsl_tree.specs.Token.{PlainToken}
use Rattle.glsl_tree.specs.SourceTokens.{longest, Piece, Gap, Spelled, Foreign, token_at, end_or_token, piece_at, Before, is_word, is_hash, is_definition, opens_parameters, after_token, after_gap, tokens_from, at_start, source_tokens, SourceTokens}
use Rattle.glsl_tree.specs.declared.token.Class.{Class}
use Rattle.glsl_tree.specs.declared.token.Class.TheVariants.{Identifier, Keyword, Int, Float, Punct, Hash, NewLine, Params}
use Rattle.glsl_preproc.specs.Macros.{is_text, is_name_token}
use Rattle.glsl_preproc.specs.Directives.{is_hash_token, is_params}
use Rattle.glsl_preproc.specs.TextTokens.{defining, are_params_behind, ParamsBehindDefine}
use Rattle.glsl_preproc.proofs.TextDefinitions.{defining_at_end}

-- a token `define` is a name
abbrev NamesDefine : Class → List ℕ → Type 0
NamesDefine class text = bytes_eq text (codes "define") ≡ true → is_word class ≡ true

abbrev IsNamed : PlainToken → Type 0
IsNamed t = NamesDefine t.class t.text

-- what is spelled is no token of the class Params, and is a name where it is `define`
abbrev IsSpelled : Class → List ℕ → Type 0
IsSpelled class text = NamesDefine class text × (is_params class ≡ false)

class_spelled : (text : List ℕ) → IfSome (class_of text) (λ c. IsSpelled c text)
unfolding class_of is_name is_letter is_digit
class_spelled text = by_tests (is_name text) (is_keyword text) (is_int text) (is_float text) (is_punctuator text) (bytes_eq text (codes "#")) refl
  where
    other : is_name text ≡ false → (c : Class) → bytes_eq text (codes "define") ≡ true → is_word c ≡ true
    other e c h = let same : text ≡ codes "define" = (bytes_eq-Decides text (codes "define")).0 h in let named : true ≡ false = sym (ap is_name same) ∙ e in absurd cc

    by_tests : (name key whole real mark hash : Bool) → is_name text ≡ name
        → IfSome (cond name (Some (cond key Keyword Identifier)) (cond whole (Some Int) (cond real (Some Float) (cond mark (Some Punct) (cond hash (Some Hash) None))))) (λ c. IsSpelled c text)
    by_tests true true whole real mark hash e = (λ h. refl, refl)
    by_tests true false whole real mark hash e = (λ h. refl, refl)
    by_tests false key true real mark hash e = (other e Int, refl)
    by_tests false key false true mark hash e = (other e Float, refl)
    by_tests false key false false true hash e = (other e Punct, refl)
    by_tests false key false false false true e = (other e Hash, refl)
    by_tests false key false false false false e = tt

-- the longest token is spelled by its front
longest_spelled : (text : List ℕ) (n : ℕ) → IfSome (longest class_of text n) (λ found. IsSpelled found.0 (take found.1 text))
unfolding longest
longest_spelled text zero = by_class (class_of []) (class_spelled [])
  where
    by_class : (o : Option Class) → IfSome o (λ c. IsSpelled c []) → IfSome (elim o as (λ _. Option (Class × ℕ)) [ Some c ↦ Some (c, 0) | None ↦ None ]) (λ found. IsSpelled found.0 (take found.1 text))
    by_class None h = tt
    by_class (Some c) h = h
longest_spelled text (suc n) = by_class (class_of (take (suc n) text)) (class_spelled (take (suc n) text)) (longest_spelled text n)
  where
    by_class : (o : Option Class) → IfSome o (λ c. IsSpelled c (take (suc n) text)) → IfSome (longest class_of text n) (λ found. IsSpelled found.0 (take found.1 text))
        → IfSome (elim o as (λ _. Option (Class × ℕ)) [ Some c ↦ Some (c, suc n) | None ↦ longest class_of text n ]) (λ found. IsSpelled found.0 (take found.1 text))
    by_class None h less = less
    by_class (Some c) h less = h

abbrev IsSpelledPiece : List ℕ → Piece → Type 0
IsSpelledPiece text (Gap n lines) = Unit {0}
IsSpelledPiece text (Spelled class n) = IsSpelled class (take n text)
IsSpelledPiece text Foreign = Unit {0}

token_spelled : (text : List ℕ) → IsSpelledPiece text (token_at text)
unfolding token_at
token_spelled text = by_found (longest class_of text (length text)) (longest_spelled text (length text))
  where
    by_limits : (found : Class × ℕ) → IsSpelled found.0 (take found.1 text) → (b : Bool) → IsSpelledPiece text (cond b (Spelled found.0 found.1) Foreign)
    by_limits found h true = h
    by_limits found h false = tt

    by_found : (o : Option (Class × ℕ)) → IfSome o (λ found. IsSpelled found.0 (take found.1 text))
        → IsSpelledPiece text (elim o as (λ _. Piece) [ Some found ↦ cond (is_within_limits found.0 (take found.1 text)) (Spelled found.0 found.1) Foreign | None ↦ Foreign ])
    by_found None h = tt
    by_found (Some found) h = by_limits found h (is_within_limits found.0 (take found.1 text))

-- a line end is no `define`
end_spelled : (b : ℕ) (bytes : List ℕ) (n : ℕ) → line_end_len (b ∷ bytes) ≡ suc n → IsSpelled NewLine (take (suc n) (b ∷ bytes))
unfolding line_end_len is_line_end_pair is_line_break
end_spelled b bytes n e = (λ h. absurd (never bytes (ap (λ l. get_or l 0 0) ((bytes_eq-Decides (take (suc n) (b ∷ bytes)) (codes "define")).0 h))), refl)
  where
    none : (rest : List ℕ) → line_end_len (100 ∷ rest) ≡ 0
    none [] = refl
    none (c ∷ rest) = refl

    never : (rest : List ℕ) → b ≡ 100 → ⊥
    never rest d = let long : 0 ≡ suc n = sym (none bytes) ∙ ap (λ x. line_end_len (x ∷ bytes)) (sym d) ∙ e in omega arith

piece_spelled : (b : ℕ) (bytes : List ℕ) → IsSpelledPiece (b ∷ bytes) (piece_at b (b ∷ bytes))
unfolding piece_at
piece_spelled b bytes = by_comment (comment_at (b ∷ bytes))
  where
    by_len : (n : ℕ) → line_end_len (b ∷ bytes) ≡ n → IsSpelledPiece (b ∷ bytes) (end_or_token (b ∷ bytes) n)
    by_len zero e = token_spelled (b ∷ bytes)
    by_len (suc n) e = end_spelled b bytes n e

    by_blank : (blank : Bool) → IsSpelledPiece (b ∷ bytes) (cond blank (Gap 1 0) (end_or_token (b ∷ bytes) (line_end_len (b ∷ bytes))))
    by_blank true = tt
    by_blank false = by_len (line_end_len (b ∷ bytes)) refl

    by_comment : (c : Comment) → IsSpelledPiece (b ∷ bytes) (elim c as (λ _. Piece) [
      | LineComment n ↦ Gap n 0
      | BlockComment n ↦ Gap n (line_ends (take n (b ∷ bytes)))
      | OpenComment ↦ Foreign
      | NoComment ↦ cond (is_blank b) (Gap 1 0) (end_or_token (b ∷ bytes) (line_end_len (b ∷ bytes)))
    ])
    by_comment (LineComment n) = tt
    by_comment (BlockComment n) = tt
    by_comment OpenComment = tt
    by_comment NoComment = by_blank (is_blank b)

-- `#`, `define` and a name at the end of a list
hash_true : (t : PlainToken) → is_hash t.class ≡ true → is_hash_token t ≡ true
hash_true t h = by_class t.class h
  where
    by_class : (c : Class) → is_hash c ≡ true → is_hash_token (record { text = t.text; class = c; line = t.line }) ≡ true
    by_class Hash e = refl
    by_class Identifier e = absurd cc
    by_class Keyword e = absurd cc
    by_class Int e = absurd cc
    by_class Float e = absurd cc
    by_class Punct e = absurd cc
    by_class NewLine e = absurd cc
    by_class Params e = absurd cc

hash_false : (t : PlainToken) → is_word t.class ≡ true → is_hash_token t ≡ false
hash_false t h = by_class t.class h
  where
    by_class : (c : Class) → is_word c ≡ true → is_hash_token (record { text = t.text; class = c; line = t.line }) ≡ false
    by_class Identifier e = refl
    by_class Keyword e = refl
    by_class Hash e = absurd cc
    by_class Int e = refl
    by_class Float e = refl
    by_class Punct e = refl
    by_class NewLine e = refl
    by_class Params e = refl

hash_begins : (k : ℕ) (t : PlainToken) → is_hash t.class ≡ true → defining k t ≡ 1
unfolding defining
hash_begins k t h = ap (λ x. cond x 1 (cond (eqb k 1 && is_name_token t && is_text (codes "define") t) 2 (cond (eqb k 2 && is_name_token t) 3 0))) (hash_true t h)

define_follows : (t : PlainToken) → is_word t.class ≡ true → bytes_eq t.text (codes "define") ≡ true → defining 1 t ≡ 2
unfolding defining
define_follows t w h = ap (λ x. cond x 1 (cond (is_name_token t && is_text (codes "define") t) 2 0)) (hash_false t w) ∙ ap (λ x. cond x 2 0) (and_from (is_name_token t) (is_text (codes "define") t) w h)

name_follows : (t : PlainToken) → is_word t.class ≡ true → defining 2 t ≡ 3
unfolding defining
name_follows t w = ap (λ x. cond x 1 (cond (is_name_token t) 3 0)) (hash_false t w) ∙ ap (λ x. cond x 3 0) w

three_are : (k : ℕ) (a b c : PlainToken) → IsNamed b → is_definition (a ∷ b ∷ c ∷ []) ≡ true → defining (defining (defining k a) b) c ≡ 3
unfolding is_definition
three_are k a b c named h =
    let parts = and_parts (is_hash a.class && bytes_eq b.text (codes "define")) (is_word c.class) h in
    let first = and_parts (is_hash a.class) (bytes_eq b.text (codes "define")) parts.0 in
    ap (λ j. defining (defining j b) c) (hash_begins k a first.0) ∙ ap (λ j. defining j c) (define_follows b (named first.1) first.1) ∙ name_follows c parts.1

three_behind : (k : ℕ) (tokens : List PlainToken) → All IsNamed tokens → is_definition (drop (length tokens - 3) tokens) ≡ true → defining_at_end k tokens ≡ 3
unfolding is_definition defining_at_end
three_behind k [] named h = absurd cc
three_behind k (a ∷ []) named h = absurd cc
three_behind k (a ∷ b ∷ []) named h = absurd cc
three_behind k (a ∷ b ∷ c ∷ []) named h = three_are k a b c (All-head IsNamed b (c ∷ []) (All-tail IsNamed a (b ∷ c ∷ []) named)) h
three_behind k (a ∷ b ∷ c ∷ d ∷ rest) named h =
    let less : length (a ∷ b ∷ c ∷ d ∷ rest) - 3 ≡ suc (length (b ∷ c ∷ d ∷ rest) - 3) = omega arith in
    three_behind (defining k a) (b ∷ c ∷ d ∷ rest) (All-tail IsNamed a (b ∷ c ∷ d ∷ rest) named) (sym (ap (λ n. is_definition (drop n (a ∷ b ∷ c ∷ d ∷ rest))) less) ∙ h)

-- Lists one behind the other.
behind_both : (k : ℕ) (tokens : List PlainToken) (t : PlainToken) → are_params_behind k tokens ≡ true → (not (is_params t.class) || eqb (defining_at_end k tokens) 3) ≡ true → are_params_behind k (tokens ++ t ∷ []) ≡ true
unfolding are_params_behind defining_at_end
behind_both k [] t h e = and_from (not (is_params t.class) || eqb k 3) true e refl
behind_both k (u ∷ tokens) t h e =
    let parts = and_parts (not (is_params u.class) || eqb k 3) (are_params_behind (defining k u) tokens) h in
    and_from (not (is_params u.class) || eqb k 3) (are_params_behind (defining k u) (tokens ++ t ∷ [])) parts.0 (behind_both (defining k u) tokens t parts.1 e)

-- what holds of the tokens so far
abbrev IsFine : Before → Type 0
IsFine before = ParamsBehindDefine before.tokens × All IsNamed before.tokens

token_fine : (before : Before) (class : Class) (text : List ℕ) → IsFine before → IsSpelled class text → IsFine (after_token before class text)
unfolding after_token opens_parameters
token_fine before class text f s = by_opens (opens_parameters before text) refl
  where
    made : Bool → PlainToken
    made opens = record { text = text; class = cond opens Params class; line = before.line }

    by_opens : (opens : Bool) → opens_parameters before text ≡ opens → ParamsBehindDefine (before.tokens ++ made opens ∷ []) × All IsNamed (before.tokens ++ made opens ∷ [])
    by_opens true e =
        let parts = and_parts (bytes_eq text (codes "(") && before.joined) (is_definition (drop (length before.tokens - 3) before.tokens)) e in
        let bracket = and_parts (bytes_eq text (codes "(")) before.joined parts.0 in
        let three = three_behind 0 before.tokens f.1 parts.1 in
        let named : bytes_eq text (codes "define") ≡ true → is_word Params ≡ true = λ h. let same = ap (λ l. get_or l 0 0) (sym ((bytes_eq-Decides text (codes "(")).0 bracket.0) ∙ (bytes_eq-Decides text (codes "define")).0 h) in absurd (omega arith) in
        (behind_both 0 before.tokens (made true) f.0 (ap (λ n. eqb n 3) three), All-push IsNamed before.tokens (made true) f.1 named)
    by_opens false e = (behind_both 0 before.tokens (made false) f.0 (ap (λ b. not b || eqb (defining_at_end 0 before.tokens) 3) s.1), All-push IsNamed before.tokens (made false) f.1 s.0)

tokens_fine : (bytes : List ℕ) (before : Before) (k : ℕ) → IsFine before → IfOk (tokens_from before k bytes) ParamsBehindDefine
unfolding tokens_from after_gap
tokens_fine [] before k f = f.0
tokens_fine (b ∷ bytes) before (suc k) f = tokens_fine bytes before k f
tokens_fine (b ∷ bytes) before zero f = by_piece (piece_at b (b ∷ bytes)) (piece_spelled b bytes) (λ u k g. tokens_fine bytes u k g)
  where
    by_piece : (p : Piece) → IsSpelledPiece (b ∷ bytes) p → ((u : Before) (k : ℕ) → IsFine u → IfOk (tokens_from u k bytes) ParamsBehindDefine)
        → IfOk (elim p as (λ _. Result (List PlainToken) ℕ) [
          | Gap n lines ↦ tokens_from (after_gap before lines) (n - 1) bytes
          | Spelled class n ↦ tokens_from (after_token before class (take n (b ∷ bytes))) (n - 1) bytes
          | Foreign ↦ Err before.line
        ]) ParamsBehindDefine
    by_piece (Gap n lines) h goes = goes (after_gap before lines) (n - 1) f
    by_piece (Spelled class n) h goes = goes (after_token before class (take n (b ∷ bytes))) (n - 1) (token_fine before class (take n (b ∷ bytes)) f h)
    by_piece Foreign h goes = tt

-- the tokens of a source have the class Params only behind `#`, `define` and a name
pub source_params : (source : List ℕ) (tokens : List PlainToken) → SourceTokens source tokens → ParamsBehindDefine tokens
unfolding are_params_behind
source_params source tokens h = let P : Result (List PlainToken) ℕ → Type 0 = λ r. IfOk r ParamsBehindDefine in let fine : P (source_tokens source) = tokens_fine source at_start 0 start in subst P h fine
  where
    start : IsFine at_start
    start = (refl, All-nil IsNamed)
