-- The token that the scanner finds is a front of the text.
use Rattle.std.proofs.Common.{◌≡◌, ℕ, zero, suc, ◌<◌, ◌≤◌, List, [], ◌∷◌, length, take, get_or, Option, Some, None, cond, refl, sym, ap, ◌∙◌, arith}
use Rattle.glsl_tree.specs.Spellings.{class_of, is_within_limits, is_name, is_int, is_decimal, is_octal, is_hexadecimal, is_float, is_float_behind, is_punctuator}
use Rattle.glsl_tree.specs.SourceTokens.{longest, Piece, Spelled, Foreign, token_at}
use Rattle.glsl_tree.specs.declared.token.Class.{Class}
use Rattle.glsl_lex.specs.Fronts.{first_token}
use Rattle.glsl_lex.proofs.Longest.{at_zero, zero_is}
use Rattle.glsl_lex.proofs.LongestToken.{longest_first}

abbrev Within : {C : Type 0} → C × ℕ → ℕ → Type 0
Within found n = (0 < found.1) × (found.1 ≤ n)

one_longer : {C : Type 0} (o : Option C) (n : ℕ) (rest : Option (C × ℕ)) (found : C × ℕ) → elim o [ Some c ↦ Some (c, suc n) | None ↦ rest ] ≡ Some found → (rest ≡ Some found → Within found n) → Within found (suc n)
one_longer (Some c) n rest found e h = let same : found.1 ≡ suc n = cc in (omega arith, omega arith)
one_longer None n rest found e h = let within : Within found n = h e in (omega arith, omega arith)

longest_within : {C : Type 0} (class : List ℕ → Option C) (text : List ℕ) (n : ℕ) (found : C × ℕ) → class [] ≡ None → longest class text n ≡ Some found → Within found n
unfolding longest
longest_within class text zero found z e = let none : None ≡ Some found = sym (ap at_zero z) ∙ sym (zero_is class text) ∙ e in absurd cc
longest_within class text (suc n) found z e = one_longer (class (take (suc n) text)) n (longest class text n) found e (longest_within class text n found z)

nothing_empty : class_of [] ≡ None
unfolding class_of is_name is_int is_decimal is_octal is_hexadecimal is_float is_float_behind is_punctuator
nothing_empty = refl

-- the same of a text that is not empty
pub longest_of : (text : List ℕ) → 0 < length text → longest class_of text (length text) ≡ first_token (get_or text 0 0) text
longest_of [] h = absurd (omega arith)
longest_of (b ∷ rest) h = longest_first b rest

pub token_within : (text : List ℕ) (class : Class) (n : ℕ) → 0 < length text → Some (class, n) ≡ first_token (get_or text 0 0) text → (0 < n) × (n ≤ length text)
token_within text class n h e = longest_within class_of text (length text) (class, n) nothing_empty (longest_of text h ∙ sym e)

-- what the definition takes at the front, from what the scanner finds
abbrev pub taken : List ℕ → Option (Class × ℕ) → Piece
taken text None = Foreign
taken text (Some found) = cond (is_within_limits found.0 (take found.1 text)) (Spelled found.0 found.1) Foreign

taken_longest : (text : List ℕ) → token_at text ≡ taken text (longest class_of text (length text))
unfolding token_at
taken_longest text = by_found (longest class_of text (length text))
  where
    by_found : (o : Option (Class × ℕ)) → elim o [ Some found ↦ cond (is_within_limits found.0 (take found.1 text)) (Spelled found.0 found.1) Foreign | None ↦ Foreign ] ≡ taken text o
    by_found None = refl
    by_found (Some found) = refl

pub token_taken : (text : List ℕ) → 0 < length text → token_at text ≡ taken text (first_token (get_or text 0 0) text)
token_taken text h = taken_longest text ∙ ap (taken text) (longest_of text h)
