-- The longest token at the front of a text.
use Rattle.std.proofs.Common.{◌≡◌, ℕ, zero, suc, ◌+◌, Bool, true, false, cond, ◌&&◌, ◌||◌, List, [], ◌∷◌, length, take, drop, Option, Some, None, refl, sym, ap, ◌∙◌, arith, ltb, eqb, inl, inr, subst, codes}
use Rattle.std.specs.List.{prefix_len, list_all, list_any}
use Rattle.std.specs.Str.{bytes_eq}
use Rattle.std.proofs.lemmas.Bool.{cond-false, le-ltb, eqb-true, or_parts, and_parts, both_ways}
use Rattle.std.proofs.lemmas.Bool.Decides.{nat_tests}
use Rattle.glsl_tree.specs.Characters.{is_among, is_letter, is_digit}
use Rattle.glsl_tree.specs.Spellings.{class_of, is_name, is_name_character, is_keyword, is_int, is_float, is_punctuator, begins_with_digit}
use Rattle.glsl_tree.specs.SourceTokens.{longest}
use Rattle.glsl_tree.specs.declared.token.Class.{Class}
use Rattle.glsl_tree.specs.declared.token.Class.TheVariants.{Identifier, Keyword, Float, Punct, Hash}
use Rattle.glsl_lex.specs.Fronts.{exponent_len, punctuator_len, name_at, mark_of, first_token, begins_number, number_at}
use Rattle.glsl_lex.proofs.Longest.{at_zero, one_more, seek, seek_same, seek_empty, longest_is, prefix_len-more, two_ways, seek_run, either, longer, seek_join, counted, seek_first, seek_first_none}
use Rattle.glsl_lex.proofs.LongestNumber.{ints, floats, seek_number, seek_point, seek_points, no_ints, no_floats, is_pointed}

abbrev names : List ℕ → Option Class
names t = cond (is_name t) (Some (cond (is_keyword t) Keyword Identifier)) None

abbrev marks : List ℕ → Option Class
marks t = cond (is_punctuator t) (Some Punct) None

abbrev hashes : List ℕ → Option Class
hashes t = cond (bytes_eq t (codes "#")) (Some Hash) None

-- The classes are told apart one after another.
cond_either : {C : Type 0} (x : Bool) (c : C) (o : Option C) → cond x (Some c) o ≡ either (cond x (Some c) None) o
cond_either true c o = refl
cond_either false c o = refl

class_either : (t : List ℕ) → class_of t ≡ either (names t) (either (ints t) (either (floats t) (either (marks t) (hashes t))))
unfolding class_of
class_either t = cond_either (is_name t) _ _ ∙ ap (either (names t)) (cond_either (is_int t) _ _ ∙ ap (either (ints t)) (cond_either (is_float t) _ _ ∙ ap (either (floats t)) (cond_either (is_punctuator t) _ _)))

seek_class : (text : List ℕ) → seek text class_of ≡ longer (seek text names) (longer (seek text ints) (longer (seek text floats) (longer (seek text marks) (seek text hashes))))
seek_class text = seek_same text class_of (λ t. either (names t) (either (ints t) (either (floats t) (either (marks t) (hashes t))))) class_either
    ∙ seek_join text names (λ t. either (ints t) (either (floats t) (either (marks t) (hashes t))))
    ∙ ap (longer (seek text names)) (seek_join text ints (λ t. either (floats t) (either (marks t) (hashes t)))
    ∙ ap (longer (seek text ints)) (seek_join text floats (λ t. either (marks t) (hashes t))
    ∙ ap (longer (seek text floats)) (seek_join text marks hashes)))

-- Names.
seek_name : (b : ℕ) (rest : List ℕ) → is_letter b ≡ true → seek (b ∷ rest) names ≡ Some (name_at (b ∷ rest))
unfolding is_name
seek_name b rest e = seek_first b rest names (λ t. cond (list_all is_name_character t) (Some (cond (is_keyword (b ∷ t)) Keyword Identifier)) None) refl
    (λ t. ap (λ x. cond (x && list_all is_name_character t) (Some (cond (is_keyword (b ∷ t)) Keyword Identifier)) None) e)
    ∙ ap (λ found. one_more found None) (seek_run is_name_character rest (λ t. cond (is_keyword (b ∷ t)) Keyword Identifier))
    ∙ ap (λ n. Some (cond (is_keyword (take n (b ∷ rest))) Keyword Identifier, n)) (sym (prefix_len-more is_name_character b rest (ap (λ x. x || is_digit b) e)))

no_names : (b : ℕ) (rest : List ℕ) → is_letter b ≡ false → seek (b ∷ rest) names ≡ None
unfolding is_name
no_names b rest e = seek_first_none b rest names refl (λ t. ap (λ x. cond (x && list_all is_name_character t) (Some (cond (is_keyword (b ∷ t)) Keyword Identifier)) None) e)

letter_no_digit : (b : ℕ) → is_letter b ≡ true → is_digit b ≡ false
unfolding is_letter is_digit
letter_no_digit b e = grind (arith, nat_tests, e)

-- a byte of a kind that none of some bytes has is none of them
apart : (p : ℕ → Bool) (text : List ℕ) (b : ℕ) → p b ≡ true → list_any p text ≡ false → is_among text b ≡ false
unfolding is_among
apart p [] b e h = refl
apart p (c ∷ text) b e h =
    let parts : (p c ≡ false) × (list_any p text ≡ false) = or_parts (p c) (list_any p text) h in
    ap (λ x. x || list_any (λ d. eqb d b) text) (not_b parts.0) ∙ apart p text b e parts.1
  where
    not_b : p c ≡ false → eqb c b ≡ false
    not_b at_c = elim (two_ways (eqb c b)) [ inl same ↦ absurd (both_ways (p c) at_c (ap p (eqb-true c b same) ∙ e)) | inr other ↦ other ]

-- Operators and marks.
abbrev singles : List ℕ
singles = codes ".+-/*%<>[](){}^|&~=!:;,?"

abbrev twice : List ℕ
twice = codes "+-<>&|^"

abbrev equals : List ℕ
equals = codes "+-*/%<>=!&|^"

abbrev shifts : List ℕ
shifts = codes "<>"

pub record IsNoMark (b : ℕ) : Type 0 where
  pub single : is_among singles b ≡ false
  pub double : is_among twice b ≡ false
  pub equal : is_among equals b ≡ false
  pub shift : is_among shifts b ≡ false

no_mark : (p : ℕ → Bool) (b : ℕ) → p b ≡ true → list_any p singles ≡ false → list_any p twice ≡ false → list_any p equals ≡ false → list_any p shifts ≡ false → IsNoMark b
no_mark p b e h i j k = record { single = apart p singles b e h; double = apart p twice b e i; equal = apart p equals b e j; shift = apart p shifts b e k }

no_punctuator : (b : ℕ) (t : List ℕ) → IsNoMark b → is_punctuator (b ∷ t) ≡ false
unfolding is_punctuator
no_punctuator b [] h = h.single
no_punctuator b (c ∷ []) h = ap (λ x. (eqb b c && x) || (eqb c 61 && is_among equals b)) h.double ∙ ap (λ x. (eqb b c && false) || (eqb c 61 && x)) h.equal ∙ nothing (eqb b c) (eqb c 61)
  where
    nothing : (x y : Bool) → ((x && false) || (y && false)) ≡ false
    nothing true true = refl
    nothing true false = refl
    nothing false true = refl
    nothing false false = refl
no_punctuator b (c ∷ d ∷ []) h = ap (λ x. eqb b c && eqb d 61 && x) h.shift ∙ nothing (eqb b c && eqb d 61)
  where
    nothing : (x : Bool) → (x && false) ≡ false
    nothing true = refl
    nothing false = refl
no_punctuator b (c ∷ d ∷ e ∷ t) h = refl

no_marks : (b : ℕ) (rest : List ℕ) → IsNoMark b → seek (b ∷ rest) marks ≡ None
unfolding is_punctuator
no_marks b rest h = seek_first_none b rest marks refl (λ t. ap (λ x. cond x (Some Punct) None) (no_punctuator b t h))

letter_no_mark : (b : ℕ) → is_letter b ≡ true → IsNoMark b
unfolding is_letter
letter_no_mark b e = no_mark is_letter b e refl refl refl refl

digit_no_mark : (b : ℕ) → is_digit b ≡ true → IsNoMark b
unfolding is_digit
digit_no_mark b e = no_mark is_digit b e refl refl refl refl

one : (s : Bool) → one_more (at_zero (cond s (Some Punct) None)) None ≡ counted Punct (cond s 1 0)
one true = refl
one false = refl

two : (p s : Bool) → one_more (one_more (at_zero (cond p (Some Punct) None)) (at_zero (cond s (Some Punct) None))) None ≡ counted Punct (cond p 2 (cond s 1 0))
two true s = refl
two false true = refl
two false false = refl

three : (x y z p s : Bool) → one_more (one_more (one_more (at_zero (cond (x && y && z) (Some Punct) None)) (at_zero (cond p (Some Punct) None))) (at_zero (cond s (Some Punct) None))) None
    ≡ counted Punct (cond (y && (x && z)) 3 (cond p 2 (cond s 1 0)))
three true true true p s = refl
three true true false p s = two p s
three true false z p s = two p s
three false true z p s = two p s
three false false z p s = two p s

seek_marks : (b : ℕ) (rest : List ℕ) → seek (b ∷ rest) marks ≡ counted Punct (punctuator_len (b ∷ rest))
unfolding is_punctuator punctuator_len
seek_marks b [] = one (is_among singles b)
seek_marks b (c ∷ []) = two ((eqb b c && is_among twice b) || (eqb c 61 && is_among equals b)) (is_among singles b)
seek_marks b (c ∷ d ∷ rest) = ap (λ found. one_more (one_more (one_more found (at_zero (marks (b ∷ c ∷ [])))) (at_zero (marks (b ∷ [])))) None) (seek_empty rest (λ t. marks (b ∷ c ∷ d ∷ t)) (λ e t. refl))
    ∙ three (eqb b c) (eqb d 61) (is_among shifts b) ((eqb b c && is_among twice b) || (eqb c 61 && is_among equals b)) (is_among singles b)

-- a point alone
seek_point_alone : (rest : List ℕ) → seek (46 ∷ rest) marks ≡ Some (Punct, 1)
unfolding is_punctuator is_among
seek_point_alone rest = ap (λ found. one_more found None) (seek_empty rest (λ t. marks (46 ∷ t)) each)
  where
    nothing : (x y : Bool) → ((x && false) || (y && false)) ≡ false
    nothing true true = refl
    nothing true false = refl
    nothing false true = refl
    nothing false false = refl

    neither : (x : Bool) → (x && false) ≡ false
    neither true = refl
    neither false = refl

    each : (c : ℕ) (t : List ℕ) → marks (46 ∷ c ∷ t) ≡ None
    each c [] = ap (λ x. cond x (Some Punct) None) (nothing (eqb 46 c) (eqb c 61))
    each c (d ∷ []) = ap (λ x. cond x (Some Punct) None) (neither (eqb 46 c && eqb d 61))
    each c (d ∷ e ∷ t) = refl

-- `#`.
seek_hashes : (b : ℕ) (rest : List ℕ) → seek (b ∷ rest) hashes ≡ cond (eqb b 35) (Some (Hash, 1)) None
seek_hashes b rest = ap (λ found. one_more found None) (seek_empty rest (λ t. hashes (b ∷ t)) (λ c t. neither (eqb b 35))) ∙ alone (eqb b 35)
  where
    neither : (x : Bool) → cond (x && false) (Some Hash) None ≡ None
    neither true = refl
    neither false = refl

    alone : (x : Bool) → one_more (at_zero (cond (x && true) (Some Hash) None)) None ≡ cond x (Some (Hash, 1)) None
    alone true = refl
    alone false = refl

no_hashes : (b : ℕ) (rest : List ℕ) → eqb b 35 ≡ false → seek (b ∷ rest) hashes ≡ None
no_hashes b rest e = seek_hashes b rest ∙ ap (λ x. cond x (Some (Hash, 1)) None) e

-- a byte of a kind is none that has another kind
other : (p : ℕ → Bool) (b c : ℕ) → p b ≡ true → p c ≡ false → eqb b c ≡ false
other p b c at_b at_c = elim (two_ways (eqb b c)) [
  | inl same ↦ absurd (both_ways (p c) at_c (sym (ap p (eqb-true b c same)) ∙ at_b))
  | inr apart ↦ apart
]

-- Where a number begins.
begins_digit : (b : ℕ) (rest : List ℕ) → is_digit b ≡ true → begins_number (b ∷ rest) ≡ true
unfolding begins_number
begins_digit b [] e = e
begins_digit b (c ∷ rest) e = ap (λ x. cond x (is_digit c) (is_digit b)) (other is_digit b 46 e (unfold is_digit in refl)) ∙ e

begins_none : (b : ℕ) (rest : List ℕ) → is_digit b ≡ false → is_pointed b rest ≡ false → begins_number (b ∷ rest) ≡ false
unfolding begins_number
begins_none b [] e h = e
begins_none b (c ∷ rest) e h = elim (two_ways (eqb b 46)) [
  | inl z ↦ ap (λ x. cond x (is_digit c) (is_digit b)) z ∙ sym (ap (λ x. x && is_digit c) z) ∙ h
  | inr z ↦ ap (λ x. cond x (is_digit c) (is_digit b)) z ∙ e
]

-- Each first byte in turn.
longer_none : (found : Option (Class × ℕ)) → longer found None ≡ found
longer_none None = refl
longer_none (Some found) = refl

abbrev first_found : ℕ → List ℕ → Bool → Bool → Option (Class × ℕ)
first_found b text letter number = cond letter (Some (name_at text)) (cond number (Some (number_at text)) (mark_of b (punctuator_len text)))

at_letter : (b : ℕ) (rest : List ℕ) → is_letter b ≡ true → seek (b ∷ rest) class_of ≡ Some (name_at (b ∷ rest))
at_letter b rest e =
    let digit : is_digit b ≡ false = letter_no_digit b e in
    let pointed : is_pointed b rest ≡ false = ap (λ x. x && begins_with_digit rest) (other is_letter b 46 e (unfold is_letter in refl)) in
    seek_class (b ∷ rest)
    ∙ (λ i. longer (seek_name b rest e i) (longer (no_ints b rest digit i) (longer (no_floats b rest digit pointed i)
    (longer (no_marks b rest (letter_no_mark b e) i) (no_hashes b rest (other is_letter b 35 e (unfold is_letter in refl)) i)))))

at_digit : (b : ℕ) (rest : List ℕ) → is_letter b ≡ false → is_digit b ≡ true → seek (b ∷ rest) class_of ≡ Some (number_at (b ∷ rest))
at_digit b rest e digit = seek_class (b ∷ rest)
    ∙ (λ i. longer (no_names b rest e i) (longer (seek (b ∷ rest) ints) (longer (seek (b ∷ rest) floats)
    (longer (no_marks b rest (digit_no_mark b digit) i) (no_hashes b rest (other is_digit b 35 digit (unfold is_digit in refl)) i)))))
    ∙ ap (longer (seek (b ∷ rest) ints)) (longer_none (seek (b ∷ rest) floats))
    ∙ seek_number b rest digit

at_point : (c : ℕ) (rest : List ℕ) → is_digit c ≡ true → seek (46 ∷ c ∷ rest) class_of ≡ Some (number_at (46 ∷ c ∷ rest))
at_point c rest digit = seek_class (46 ∷ c ∷ rest)
    ∙ (λ i. longer (no_names 46 (c ∷ rest) (unfold is_letter in refl) i) (longer (no_ints 46 (c ∷ rest) (unfold is_digit in refl) i) (longer (seek_points c rest digit i)
    (longer (seek_point_alone (c ∷ rest) i) (no_hashes 46 (c ∷ rest) refl i)))))
    ∙ ap (λ x. cond x (Some (Punct, 1)) (Some found)) (le-ltb found.1 1 (omega arith))
    ∙ sym (seek_points c rest digit) ∙ seek_point c rest digit
  where
    found : Class × ℕ
    found = (Float, suc (suc (prefix_len is_digit rest + exponent_len (drop (prefix_len is_digit rest) rest))))

mark_found : (b n : ℕ) → longer (counted Punct n) (cond (eqb b 35) (Some (Hash, 1)) None) ≡ mark_of b n
mark_found b zero = refl
mark_found b (suc n) = by_hash (eqb b 35)
  where
    by_hash : (x : Bool) → longer (Some (Punct, suc n)) (cond x (Some (Hash, 1)) None) ≡ Some (Punct, suc n)
    by_hash true = cond-false (ltb (suc n) 1) _ _ (le-ltb (suc n) 1 (omega arith))
    by_hash false = refl

at_mark : (b : ℕ) (rest : List ℕ) → is_letter b ≡ false → is_digit b ≡ false → is_pointed b rest ≡ false → seek (b ∷ rest) class_of ≡ mark_of b (punctuator_len (b ∷ rest))
at_mark b rest e digit pointed = seek_class (b ∷ rest)
    ∙ (λ i. longer (no_names b rest e i) (longer (no_ints b rest digit i) (longer (no_floats b rest digit pointed i) (longer (seek_marks b rest i) (seek_hashes b rest i)))))
    ∙ mark_found b (punctuator_len (b ∷ rest))

seek_pointed : (b : ℕ) (rest : List ℕ) → is_letter b ≡ false → is_pointed b rest ≡ true → (seek (b ∷ rest) class_of ≡ Some (number_at (b ∷ rest))) × (begins_number (b ∷ rest) ≡ true)
unfolding begins_number
seek_pointed b [] e h = absurd (both_ways (is_pointed b []) (nothing (eqb b 46)) h)
  where
    nothing : (x : Bool) → (x && false) ≡ false
    nothing true = refl
    nothing false = refl
seek_pointed b (c ∷ rest) e h =
    let parts : (eqb b 46 ≡ true) × (is_digit c ≡ true) = and_parts (eqb b 46) (is_digit c) h in
    let same : b ≡ 46 = eqb-true b 46 parts.0 in
    let P : ℕ → Type 0 = λ a. (seek (a ∷ c ∷ rest) class_of ≡ Some (number_at (a ∷ c ∷ rest))) × (begins_number (a ∷ c ∷ rest) ≡ true) in
    subst P (sym same) (at_point c rest parts.1, parts.1)

-- the longest token is the one that the scanner finds
pub longest_first : (b : ℕ) (rest : List ℕ) → longest class_of (b ∷ rest) (length (b ∷ rest)) ≡ first_token b (b ∷ rest)
unfolding first_token
longest_first b rest = longest_is (b ∷ rest) class_of ∙ elim (two_ways (is_letter b)) [
  | inl e ↦ at_letter b rest e ∙ ap (λ x. first_found b (b ∷ rest) x (begins_number (b ∷ rest))) (sym e)
  | inr e ↦ elim (two_ways (is_digit b)) [
    | inl d ↦ at_digit b rest e d ∙ (λ i. first_found b (b ∷ rest) (sym e i) (sym (begins_digit b rest d) i))
    | inr d ↦ elim (two_ways (is_pointed b rest)) [
      | inl h ↦ (let both = seek_pointed b rest e h in both.0 ∙ (λ i. first_found b (b ∷ rest) (sym e i) (sym both.1 i)))
      | inr h ↦ at_mark b rest e d h ∙ (λ i. first_found b (b ∷ rest) (sym e i) (sym (begins_none b rest d h) i))
    ]
  ]
]
