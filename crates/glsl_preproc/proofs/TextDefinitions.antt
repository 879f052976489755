-- Where the class Params may stand, and the macros that directives define of such lines.
use Rattle.std.proofs.Common.{◌≡◌, ◌++◌, ◌⊎◌, inl, inr, ℕ, Bool, true, false, not, ◌&&◌, ◌||◌, eqb, cond, List, [], ◌∷◌, Option, Some, None, IfSome, All, codes, refl, sym, ap, subst, ◌∙◌}
use Rattle.std.proofs.lemmas.Bool.{and_parts, and_from}
use Rattle.std.proofs.lemmas.List.Elements.{All-nil, All-cons, All-head, All-tail, All-drop}
use Rattle.std.specs.BTreeMap.{is_at}
use Rattle.std.specs.Ordering.{nat_cmp}
use Rattle.std.specs.Cmp.Lexicographic.{slice_cmp}
use Rattle.std.proofs.lemmas.Map.Views.{All-values-insert_entry, All-map-remove_entry}
use Rattle.glsl_tree.specs.Token.{PlainToken}
use Rattle.glsl_tree.specs.declared.token.Class.{Class}
use Rattle.glsl_tree.specs.declared.token.Class.TheVariants.{Identifier, Keyword, Int, Float, Punct, Hash, NewLine, Params}
use Rattle.glsl_preproc.specs.Macros.{MacroMap, PlainMacro, is_text, is_name_token, is_reserved, find_macro, with_macro, without_macro, same_macro}
use Rattle.glsl_preproc.specs.Directives.{is_hash_token, is_params, parameters_at, with_parameters, macro_of, definition_of, defined_again, after_definition, after_define, after_undef}
use Rattle.glsl_preproc.specs.Expansion.{stray_hash, before_hash, is_line_end}
use Rattle.glsl_preproc.specs.TextTokens.{IsTextToken, defining, are_params_behind}
use Rattle.glsl_preproc.proofs.Ways.{two_ways}
use Rattle.glsl_preproc.proofs.TextMacros.{IsText, HasTextBody, AreTextMacros}

-- Where the class Params may stand.
abbrev pub Fits : ℕ → List PlainToken → Type 0
Fits k list = are_params_behind k list ≡ true

abbrev pub IsNoHash : PlainToken → Type 0
IsNoHash t = is_hash_token t ≡ false

abbrev pub IsNoEnd : PlainToken → Type 0
IsNoEnd t = is_line_end t ≡ false

pub fits_first : (k : ℕ) (t : PlainToken) (rest : List PlainToken) → Fits k (t ∷ rest) → ((not (is_params t.class) || eqb k 3) ≡ true) × Fits (defining k t) rest
unfolding are_params_behind
fits_first k t rest h = and_parts (not (is_params t.class) || eqb k 3) (are_params_behind (defining k t) rest) h

no_params : (b : Bool) → (not b || false) ≡ true → b ≡ false
no_params true h = absurd cc
no_params false h = refl

-- behind another token than `#` the three begin anew, or go on
begun_anew : (t : PlainToken) → IsNoHash t → defining 0 t ≡ 0
unfolding defining
begun_anew t h = ap (λ b. cond b 1 0) h

pub behind_hash : (t : PlainToken) → IsNoHash t → (defining 1 t ≡ 0) ⊎ (defining 1 t ≡ 2)
unfolding defining
behind_hash t h = by_tests (is_hash_token t) (is_name_token t && is_text (codes "define") t) h
  where
    next : Bool → Bool → ℕ
    next hash define = cond hash 1 (cond define 2 0)

    by_tests : (hash define : Bool) → hash ≡ false → (next hash define ≡ 0) ⊎ (next hash define ≡ 2)
    by_tests true define e = absurd cc
    by_tests false true e = inr refl
    by_tests false false e = inl refl

behind_define : (t : PlainToken) → IsNoHash t → (defining 2 t ≡ 0) ⊎ (defining 2 t ≡ 3)
unfolding defining
behind_define t h = by_tests (is_hash_token t) (is_name_token t) h
  where
    next : Bool → Bool → ℕ
    next hash name = cond hash 1 (cond name 3 0)

    by_tests : (hash name : Bool) → hash ≡ false → (next hash name ≡ 0) ⊎ (next hash name ≡ 3)
    by_tests true name e = absurd cc
    by_tests false true e = inr refl
    by_tests false false e = inl refl

behind_name_of : (t : PlainToken) → IsNoHash t → defining 3 t ≡ 0
unfolding defining
behind_name_of t h = ap (λ b. cond b 1 0) h

text_class : (text : List ℕ) (line : ℕ) (c : Class) → IsNoHash (record { text = text; class = c; line = line }) → IsNoEnd (record { text = text; class = c; line = line }) → is_params c ≡ false → IsTextToken (record { text = text; class = c; line = line })
text_class text line Identifier h e p = refl
text_class text line Keyword h e p = refl
text_class text line Int h e p = refl
text_class text line Float h e p = refl
text_class text line Punct h e p = refl
text_class text line Hash h e p = absurd cc
text_class text line NewLine h e p = absurd cc
text_class text line Params h e p = absurd cc

-- where none of the three stands before it, a line without `#` is a text
pub line_text : (list : List PlainToken) → Fits 0 list → All IsNoHash list → All IsNoEnd list → IsText list
line_text [] f h e = All-nil IsTextToken
line_text (t ∷ rest) f h e =
    let first = fits_first 0 t rest f in
    let hash : IsNoHash t = All-head IsNoHash t rest h in
    let anew : Fits 0 rest = subst (λ k. Fits k rest) (begun_anew t hash) first.1 in
    All-cons IsTextToken t rest (text_class t.text t.line t.class hash (All-head IsNoEnd t rest e) (no_params (is_params t.class) first.0)) (line_text rest anew (All-tail IsNoHash t rest h) (All-tail IsNoEnd t rest e))

hash_first : (t : PlainToken) (rest : List PlainToken) → stray_hash (t ∷ rest) ≡ None → IsNoHash t × (stray_hash rest ≡ None)
unfolding stray_hash
hash_first t rest h = by_hash (is_hash_token t) h
  where
    by_hash : (b : Bool) → cond b (Some t.line) (stray_hash rest) ≡ None → (b ≡ false) × (stray_hash rest ≡ None)
    by_hash true e = absurd cc
    by_hash false e = (refl, e)

pub no_hash : (list : List PlainToken) → stray_hash list ≡ None → All IsNoHash list
no_hash [] h = All-nil IsNoHash
no_hash (t ∷ rest) h = let first = hash_first t rest h in All-cons IsNoHash t rest first.0 (no_hash rest first.1)

-- the tokens of a text line up to a `#`
pub before_text : (list : List PlainToken) → Fits 0 list → All IsNoEnd list → IsText (before_hash list)
before_text [] f e = All-nil IsTextToken
before_text (t ∷ rest) f e = by_hash (two_ways (is_hash_token t)) (λ g. before_text rest g (All-tail IsNoEnd t rest e))
  where
    by_hash : (is_hash_token t ≡ true) ⊎ (is_hash_token t ≡ false) → (Fits 0 rest → IsText (before_hash rest)) → IsText (before_hash (t ∷ rest))
    by_hash (inl h) goes = let P : Bool → Type 0 = λ b. IsText (cond b [] (t ∷ before_hash rest)) in subst P (sym h) (All-nil IsTextToken)
    by_hash (inr h) goes =
        let first = fits_first 0 t rest f in
        let anew : Fits 0 rest = subst (λ k. Fits k rest) (begun_anew t h) first.1 in
        let this : IsTextToken t = text_class t.text t.line t.class h (All-head IsNoEnd t rest e) (no_params (is_params t.class) first.0) in
        let P : Bool → Type 0 = λ b. IsText (cond b [] (t ∷ before_hash rest)) in
        subst P (sym h) (All-cons IsTextToken t (before_hash rest) this (goes anew))

-- Macros.
body_text : (name : List ℕ) (k : ℕ) (list : List PlainToken) → (k ≡ 0) ⊎ (k ≡ 3) → Fits k list → All IsNoHash list → All IsNoEnd list → IfSome (macro_of name list) HasTextBody
body_text name k [] w f h e = All-nil IsTextToken
body_text name k (t ∷ rest) w f h e = by_params (two_ways (is_params t.class))
  where
    hash : IsNoHash t
    hash = All-head IsNoHash t rest h

    anew : (k ≡ 0) ⊎ (k ≡ 3) → defining k t ≡ 0
    anew (inl z) = ap (λ j. defining j t) z ∙ begun_anew t hash
    anew (inr z) = ap (λ j. defining j t) z ∙ behind_name_of t hash

    behind : IsText rest
    behind = line_text rest (subst (λ j. Fits j rest) (anew w) (fits_first k t rest f).1) (All-tail IsNoHash t rest h) (All-tail IsNoEnd t rest e)

    by_list : (o : Option (List (List ℕ) × ℕ)) → IfSome (with_parameters name rest o) HasTextBody
    by_list None = tt
    by_list (Some found) = All-drop IsTextToken found.1 rest behind

    P : Bool → Type 0
    P b = IfSome (cond b (with_parameters name rest (parameters_at rest)) (Some (record { name = name; parameters = None; body = t ∷ rest }))) HasTextBody

    by_params : (is_params t.class ≡ true) ⊎ (is_params t.class ≡ false) → IfSome (macro_of name (t ∷ rest)) HasTextBody
    by_params (inl p) = subst P (sym p) (by_list (parameters_at rest))
    by_params (inr p) = subst P (sym p) (All-cons IsTextToken t rest (text_class t.text t.line t.class hash (All-head IsNoEnd t rest e) p) behind)

definition_text : (k : ℕ) (list : List PlainToken) → (k ≡ 0) ⊎ (k ≡ 2) → Fits k list → All IsNoHash list → All IsNoEnd list → IfSome (definition_of list) HasTextBody
unfolding definition_of
definition_text k [] w f h e = tt
definition_text k (t ∷ rest) w f h e = by_name (is_name_token t && not (is_reserved t.text))
  where
    hash : IsNoHash t
    hash = All-head IsNoHash t rest h

    more : (k ≡ 0) ⊎ (k ≡ 2) → (defining k t ≡ 0) ⊎ (defining k t ≡ 3)
    more (inl z) = inl (ap (λ j. defining j t) z ∙ begun_anew t hash)
    more (inr z) = elim (behind_define t hash) [ inl q ↦ inl (ap (λ j. defining j t) z ∙ q) | inr q ↦ inr (ap (λ j. defining j t) z ∙ q) ]

    by_name : (b : Bool) → IfSome (cond b (macro_of t.text rest) None) HasTextBody
    by_name true = body_text t.text (defining k t) rest (more w) (fits_first k t rest f).1 (All-tail IsNoHash t rest h) (All-tail IsNoEnd t rest e)
    by_name false = tt

-- one more macro, and one less
pub with_text : (macros : MacroMap) (m : PlainMacro) → AreTextMacros macros → HasTextBody m → AreTextMacros (with_macro macros m)
unfolding with_macro
with_text macros m h b = All-values-insert_entry (slice_cmp nat_cmp) m.name m HasTextBody macros h b

without_text : (macros : MacroMap) (name : List ℕ) → AreTextMacros macros → AreTextMacros (without_macro macros name)
unfolding without_macro
without_text macros name h = All-map-remove_entry (is_at (slice_cmp nat_cmp name)) (λ e. e.1) HasTextBody macros h

defined_text : (macros : MacroMap) (o : Option PlainMacro) → AreTextMacros macros → IfSome o HasTextBody → IfSome (after_definition macros o) AreTextMacros
defined_text macros None m h = tt
defined_text macros (Some macro) m h = by_old (find_macro macros macro.name)
  where
    by_same : (b : Bool) → IfSome (cond b (Some macros) None) AreTextMacros
    by_same true = m
    by_same false = tt

    by_old : (o : Option PlainMacro) → IfSome (defined_again macros macro o) AreTextMacros
    by_old None = with_text macros macro m h
    by_old (Some old) = by_same (same_macro old macro)

pub define_text : (macros : MacroMap) (k : ℕ) (list : List PlainToken) → AreTextMacros macros → (k ≡ 0) ⊎ (k ≡ 2) → Fits k list → All IsNoHash list → All IsNoEnd list → IfSome (after_define macros list) AreTextMacros
unfolding after_define
define_text macros k list m w f h e = defined_text macros (definition_of list) m (definition_text k list w f h e)

pub undef_text : (macros : MacroMap) (list : List PlainToken) → AreTextMacros macros → IfSome (after_undef macros list) AreTextMacros
unfolding after_undef
undef_text macros [] m = tt
undef_text macros (t ∷ []) m = by_name (is_name_token t && not (is_reserved t.text))
  where
    by_name : (b : Bool) → IfSome (cond b (Some (without_macro macros t.text)) None) AreTextMacros
    by_name true = without_text macros t.text m
    by_name false = tt
undef_text macros (t ∷ u ∷ rest) m = tt

-- how many of `#`, `define` and a name stand at the end of a list
unfoldable pub defining_at_end : ℕ → List PlainToken → ℕ
defining_at_end k [] = k
defining_at_end k (t ∷ rest) = defining_at_end (defining k t) rest

-- Lists one behind the other.
pub fits_parts : (k : ℕ) (line rest : List PlainToken) → Fits k (line ++ rest) → Fits k line × Fits (defining_at_end k line) rest
unfolding are_params_behind defining_at_end
fits_parts k [] rest h = (refl, h)
fits_parts k (t ∷ line) rest h =
    let first = fits_first k t (line ++ rest) h in
    let parts = fits_parts (defining k t) line rest first.1 in
    (and_from (not (is_params t.class) || eqb k 3) (are_params_behind (defining k t) line) first.0 parts.0, parts.1)

pub defining_end : (k : ℕ) (t : PlainToken) → is_line_end t ≡ true → defining k t ≡ 0
unfolding defining
defining_end k t e = by_class t.class e
  where
    next : Bool → Bool → ℕ
    next one two = cond (one && false && is_text (codes "define") t) 2 (cond (two && false) 3 0)

    by_tests : (one two : Bool) → next one two ≡ 0
    by_tests true true = refl
    by_tests true false = refl
    by_tests false true = refl
    by_tests false false = refl

    by_class : (c : Class) → is_line_end (record { text = t.text; class = c; line = t.line }) ≡ true → defining k (record { text = t.text; class = c; line = t.line }) ≡ 0
    by_class NewLine e = by_tests (eqb k 1) (eqb k 2)
    by_class Identifier e = absurd cc
    by_class Keyword e = absurd cc
    by_class Int e = absurd cc
    by_class Float e = absurd cc
    by_class Punct e = absurd cc
    by_class Hash e = absurd cc
    by_class Params e = absurd cc
