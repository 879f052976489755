-- What a token is that a symbol is found in.
use Rattle.std.proofs.Common.{◌≡◌, ℕ, Bool, true, false, cond, List, [], ◌∷◌, Option, Some, None, option_map, codes, refl, sym, ap, ◌∙◌, subst}
use Rattle.std.specs.Str.{bytes_eq}
use Rattle.std.proofs.lemmas.Slice.Eq.{bytes_eq-Decides}
use Rattle.std.proofs.lemmas.Bool.{and_parts}
use Rattle.glsl_tree.specs.declared.token.Class.{Class}
use Rattle.glsl_tree.specs.declared.token.Class.TheVariants.{Identifier, Keyword, Int, Float, Punct, Hash, NewLine, Params}
use Rattle.glsl_tree.specs.declared.operators.BinaryOperator.{BinaryOperator}
use Rattle.glsl_tree.specs.declared.operators.AssignmentOperator.{AssignmentOperator}
use Rattle.glsl_tree.specs.declared.operators.PrefixOperator.{PrefixOperator}
use Rattle.glsl_tree.specs.declared.operators.PostfixOperator.{PostfixOperator}
use Rattle.glsl_tree.specs.declared.qualifiers.Basic.{Basic}
use Rattle.glsl_tree.specs.declared.qualifiers.Precision.{Precision}
use Rattle.glsl_tree.specs.declared.qualifiers.Direction.{Direction}
use Rattle.glsl_tree.specs.Token.{PlainToken}
use Rattle.glsl_tree.specs.Statements.{without_line}
use Rattle.glsl_tree.specs.Operators.{binary_text, assignment_text, prefix_text, postfix_text}
use Rattle.glsl_tree.specs.Qualifiers.{basic_text, precision_text, direction_text}
use Rattle.glsl_tree.specs.Expressions.{token, mark, word, name, is_free}
use Rattle.glsl_parse.specs.declared.tables.TheConstants.{BINARY_OPERATORS, ASSIGNMENT_OPERATORS, PREFIX_OPERATORS, POSTFIX_OPERATORS, BASIC_TYPES, PRECISIONS, DIRECTIONS}
use Rattle.glsl_parse.specs.declared.symbols.Infix.{Infix}
use Rattle.glsl_parse.specs.declared.symbols.Infix.TheVariants as join
use Rattle.glsl_parse.specs.declared.symbols.Suffix.{Suffix}
use Rattle.glsl_parse.specs.declared.symbols.Suffix.TheVariants as suffix
use Rattle.glsl_parse.specs.Symbols.{is_punct, is_keyword_class, is_identifier, is_mark, is_word, is_name, spelled, mark_among, word_among, binary_of, assignment_of, prefix_of, postfix_of, basic_of, precision_of, direction_of, first_of_two, infix_of, suffix_of, after_mark, after_word, name_at}
use Rattle.glsl_parse.proofs.SoundReadings.{bare, same_read}

punct : (c : Class) → is_punct c ≡ true → c ≡ Punct
punct Punct e = refl
punct Identifier e = absurd cc
punct Keyword e = absurd cc
punct Int e = absurd cc
punct Float e = absurd cc
punct Hash e = absurd cc
punct NewLine e = absurd cc
punct Params e = absurd cc

keyword : (c : Class) → is_keyword_class c ≡ true → c ≡ Keyword
keyword Keyword e = refl
keyword Identifier e = absurd cc
keyword Punct e = absurd cc
keyword Int e = absurd cc
keyword Float e = absurd cc
keyword Hash e = absurd cc
keyword NewLine e = absurd cc
keyword Params e = absurd cc

identifier : (c : Class) → is_identifier c ≡ true → c ≡ Identifier
identifier Identifier e = refl
identifier Keyword e = absurd cc
identifier Punct e = absurd cc
identifier Int e = absurd cc
identifier Float e = absurd cc
identifier Hash e = absurd cc
identifier NewLine e = absurd cc
identifier Params e = absurd cc

-- a token with this class and this text
pub token_is : (t : PlainToken) (c : Class) (text : List ℕ) → t.class ≡ c → t.text ≡ text → without_line t ≡ token c text
token_is t c text e f = λ i. record { text = f i; class = e i; line = 0 }

pub is_mark-true : (text : List ℕ) (t : PlainToken) → is_mark text t ≡ true → without_line t ≡ mark text
unfolding is_mark
is_mark-true text t e =
    let both = and_parts (is_punct t.class) (bytes_eq t.text text) e in
    token_is t Punct text (punct t.class both.0) ((bytes_eq-Decides t.text text).0 both.1)

pub is_word-true : (text : List ℕ) (t : PlainToken) → is_word text t ≡ true → without_line t ≡ word text
unfolding is_word
is_word-true text t e =
    let both = and_parts (is_keyword_class t.class) (bytes_eq t.text text) e in
    token_is t Keyword text (keyword t.class both.0) ((bytes_eq-Decides t.text text).0 both.1)

pub is_name-true : (t : PlainToken) → is_name t ≡ true → without_line t ≡ name t.text
unfolding is_name
is_name-true t e = token_is t Identifier t.text (identifier t.class (and_parts (is_identifier t.class) (is_free t.text) e).0) refl

pub is_name-free : (t : PlainToken) → is_name t ≡ true → is_free t.text ≡ true
unfolding is_name
is_name-free t e = (and_parts (is_identifier t.class) (is_free t.text) e).1

-- what follows a mark, a word or a name
pub mark_read : (text : List ℕ) (list rest : List PlainToken) → after_mark text list ≡ Some rest → bare list ≡ mark text ∷ bare rest
unfolding after_mark
mark_read text [] rest e = absurd cc
mark_read text (t ∷ more) rest e = go (is_mark text t) refl e
  where
    go : (b : Bool) → is_mark text t ≡ b → cond b (Some more) None ≡ Some rest → bare (t ∷ more) ≡ mark text ∷ bare rest
    go true m f = let same : more ≡ rest = cc in rw (is_mark-true text t m, same)
    go false m f = absurd cc

pub word_read : (text : List ℕ) (list rest : List PlainToken) → after_word text list ≡ Some rest → bare list ≡ word text ∷ bare rest
unfolding after_word
word_read text [] rest e = absurd cc
word_read text (t ∷ more) rest e = go (is_word text t) refl e
  where
    go : (b : Bool) → is_word text t ≡ b → cond b (Some more) None ≡ Some rest → bare (t ∷ more) ≡ word text ∷ bare rest
    go true m f = let same : more ≡ rest = cc in rw (is_word-true text t m, same)
    go false m f = absurd cc

-- a name and what follows it
pub record IsNameRead (list : List PlainToken) (text : List ℕ) (rest : List PlainToken) : Type 0 where
  pub spelled : bare list ≡ name text ∷ bare rest
  pub free : is_free text ≡ true

pub name_read : (list : List PlainToken) (text : List ℕ) (rest : List PlainToken) → name_at list ≡ Some (text, rest)
    → IsNameRead list text rest
unfolding name_at
name_read [] text rest e = absurd cc
name_read (t ∷ more) text rest e = go (is_name t) refl e
  where
    go : (b : Bool) → is_name t ≡ b → cond {A = Option (List ℕ × List PlainToken)} b (Some (t.text, more)) None ≡ Some (text, rest)
        → IsNameRead (t ∷ more) text rest
    go true m f =
        let both = same_read t.text text more rest f in
        let same = both.1 in
        let spelled = both.0 in
        record { spelled = is_name_list same (is_name-true t m ∙ ap name spelled); free = ap is_free (sym spelled) ∙ is_name-free t m }
      where
        is_name_list : more ≡ rest → without_line t ≡ name text → bare (t ∷ more) ≡ name text ∷ bare rest
        is_name_list same e = rw (e, same)
    go false m f = absurd cc

-- one of a table, found by its text
found : {A : Type 0} (text_of : A → List ℕ) (all : List A) (text : List ℕ) (a : A) → spelled text_of all text ≡ Some a → text ≡ text_of a
found text_of [] text a e = absurd cc
found text_of (b ∷ all) text a e = go (λ f. found text_of all text a f) (bytes_eq (text_of b) text) refl e
  where
    go : (spelled text_of all text ≡ Some a → text ≡ text_of a) → (t : Bool) → bytes_eq (text_of b) text ≡ t
        → cond t (Some b) (spelled text_of all text) ≡ Some a → text ≡ text_of a
    go later true m f = let same : b ≡ a = cc in sym ((bytes_eq-Decides (text_of b) text).0 m) ∙ ap text_of same
    go later false m f = later f

mark_found : {A : Type 0} (text_of : A → List ℕ) (all : List A) (t : PlainToken) (a : A) → mark_among text_of all t ≡ Some a
    → without_line t ≡ mark (text_of a)
mark_found text_of all t a e = go (is_punct t.class) refl e
  where
    go : (b : Bool) → is_punct t.class ≡ b → cond b (spelled text_of all t.text) None ≡ Some a → without_line t ≡ mark (text_of a)
    go true m f = token_is t Punct (text_of a) (punct t.class m) (found text_of all t.text a f)
    go false m f = absurd cc

word_found : {A : Type 0} (text_of : A → List ℕ) (all : List A) (t : PlainToken) (a : A) → word_among text_of all t ≡ Some a
    → without_line t ≡ word (text_of a)
word_found text_of all t a e = go (is_keyword_class t.class) refl e
  where
    go : (b : Bool) → is_keyword_class t.class ≡ b → cond b (spelled text_of all t.text) None ≡ Some a → without_line t ≡ word (text_of a)
    go true m f = token_is t Keyword (text_of a) (keyword t.class m) (found text_of all t.text a f)
    go false m f = absurd cc

pub prefix_found : (t : PlainToken) (a : PrefixOperator) → prefix_of t ≡ Some a → without_line t ≡ mark (prefix_text a)
unfolding prefix_of
prefix_found t a e = mark_found prefix_text PREFIX_OPERATORS t a e

pub basic_found : (t : PlainToken) (a : Basic) → basic_of t ≡ Some a → without_line t ≡ word (basic_text a)
unfolding basic_of
basic_found t a e = word_found basic_text BASIC_TYPES t a e

pub precision_found : (t : PlainToken) (a : Precision) → precision_of t ≡ Some a → without_line t ≡ word (precision_text a)
unfolding precision_of
precision_found t a e = word_found precision_text PRECISIONS t a e

pub direction_found : (t : PlainToken) (a : Direction) → direction_of t ≡ Some a → without_line t ≡ word (direction_text a)
unfolding direction_of
direction_found t a e = word_found direction_text DIRECTIONS t a e

-- the text of what joins an expression to what follows
abbrev pub infix_text : Infix → List ℕ
infix_text (join.Binary operator) = binary_text operator
infix_text join.Conditional = codes "?"
infix_text (join.Assign operator) = assignment_text operator

-- the text of what stands directly after a primary expression
abbrev pub suffix_text : Suffix → List ℕ
suffix_text suffix.Index = codes "["
suffix_text suffix.Field = codes "."
suffix_text (suffix.Step operator) = postfix_text operator

pub infix_found : (t : PlainToken) (a : Infix) → infix_of t ≡ Some a → without_line t ≡ mark (infix_text a)
unfolding infix_of binary_of assignment_of
infix_found t a e = go (mark_among binary_text BINARY_OPERATORS t) refl (mark_among assignment_text ASSIGNMENT_OPERATORS t) refl
    (is_mark (codes "?") t) refl e
  where
    go : (o : Option BinaryOperator) → mark_among binary_text BINARY_OPERATORS t ≡ o → (p : Option AssignmentOperator)
        → mark_among assignment_text ASSIGNMENT_OPERATORS t ≡ p
        → (b : Bool) → is_mark (codes "?") t ≡ b
        → first_of_two (option_map join.Binary o) (first_of_two (option_map join.Assign p) (cond b (Some join.Conditional) None)) ≡ Some a
        → without_line t ≡ mark (infix_text a)
    go (Some o) f p g b h e = let same : join.Binary o ≡ a =
        cc in subst (λ x. without_line t ≡ mark (infix_text x)) same (mark_found binary_text BINARY_OPERATORS t o f)
    go None f (Some p) g b h e = let same : join.Assign p ≡ a =
        cc in subst (λ x. without_line t ≡ mark (infix_text x)) same (mark_found assignment_text ASSIGNMENT_OPERATORS t p g)
    go None f None g true h e = let same : join.Conditional ≡ a =
        cc in subst (λ x. without_line t ≡ mark (infix_text x)) same (is_mark-true (codes "?") t h)
    go None f None g false h e = absurd cc

pub suffix_found : (t : PlainToken) (a : Suffix) → suffix_of t ≡ Some a → without_line t ≡ mark (suffix_text a)
unfolding suffix_of postfix_of
suffix_found t a e = go (mark_among postfix_text POSTFIX_OPERATORS t) refl (is_mark (codes "[") t) refl (is_mark (codes ".") t) refl e
  where
    go : (o : Option PostfixOperator) → mark_among postfix_text POSTFIX_OPERATORS t ≡ o → (b : Bool) → is_mark (codes "[") t ≡ b
        → (c : Bool) → is_mark (codes ".") t ≡ c
        → first_of_two (option_map suffix.Step o) (cond b (Some suffix.Index) (cond c (Some suffix.Field) None)) ≡ Some a
        → without_line t ≡ mark (suffix_text a)
    go (Some o) f b g c h e = let same : suffix.Step o ≡ a =
        cc in subst (λ x. without_line t ≡ mark (suffix_text x)) same (mark_found postfix_text POSTFIX_OPERATORS t o f)
    go None f true g c h e = let same : suffix.Index ≡ a =
        cc in subst (λ x. without_line t ≡ mark (suffix_text x)) same (is_mark-true (codes "[") t g)
    go None f false g true h e = let same : suffix.Field ≡ a =
        cc in subst (λ x. without_line t ≡ mark (suffix_text x)) same (is_mark-true (codes ".") t h)
    go None f false g false h e = absurd cc
