-- What one token may be in the grammar (GLSL ES 1.00.17 sections 3.6 to 3.8 and chapter 9).
use Rattle.std.specs.Prelude.{ℕ, Bool, true, false, ◌&&◌, if◌then◌else◌, List, [], ◌∷◌, codes, Option, Some, None}
use Rattle.std.specs.List.{find}
use Rattle.std.specs.Option.{option_map}
use Rattle.std.specs.Str.{bytes_eq}
use Rattle.glsl_tree.specs.declared.token.Class.{Class}
use Rattle.glsl_tree.specs.declared.token.Class.TheVariants.{Identifier, Keyword, Punct}
use Rattle.glsl_tree.specs.declared.operators.BinaryOperator.{BinaryOperator}
use Rattle.glsl_tree.specs.declared.operators.AssignmentOperator.{AssignmentOperator}
use Rattle.glsl_tree.specs.declared.operators.PrefixOperator.{PrefixOperator}
use Rattle.glsl_tree.specs.declared.operators.PostfixOperator.{PostfixOperator}
use Rattle.glsl_tree.specs.declared.qualifiers.Basic.{Basic}
use Rattle.glsl_tree.specs.declared.qualifiers.Precision.{Precision}
use Rattle.glsl_tree.specs.declared.qualifiers.Direction.{Direction}
use Rattle.glsl_tree.specs.Operators.{binary_text, assignment_text, prefix_text, postfix_text, assignment_level, conditional_level, or_level, prefix_level, binary_level}
use Rattle.glsl_tree.specs.Qualifiers.{basic_text, precision_text, direction_text}
use Rattle.glsl_tree.specs.Expressions.{is_free}
use Rattle.glsl_tree.specs.Token.{PlainToken}
use Rattle.glsl_parse.specs.declared.tables.TheConstants.{BINARY_OPERATORS, ASSIGNMENT_OPERATORS, PREFIX_OPERATORS, POSTFIX_OPERATORS, BASIC_TYPES, PRECISIONS, DIRECTIONS}
use Rattle.glsl_parse.specs.declared.symbols.Infix.{Infix}
use Rattle.glsl_parse.specs.declared.symbols.Infix.TheVariants as between
use Rattle.glsl_parse.specs.declared.symbols.Suffix.{Suffix}
use Rattle.glsl_parse.specs.declared.symbols.Suffix.TheVariants as suffix
use Rattle.glsl_parse.specs.declared.symbols.Leader.{Leader}
use Rattle.glsl_parse.specs.declared.symbols.Leader.TheVariants as leader

abbrev pub is_punct : Class → Bool
is_punct Punct = true
is_punct _ = false

abbrev pub is_keyword_class : Class → Bool
is_keyword_class Keyword = true
is_keyword_class _ = false

abbrev pub is_identifier : Class → Bool
is_identifier Identifier = true
is_identifier _ = false

-- whether a token is this mark
unfoldable pub is_mark : List ℕ → PlainToken → Bool
is_mark text t = is_punct t.class && bytes_eq t.text text

-- whether a token is this word of the language
unfoldable pub is_word : List ℕ → PlainToken → Bool
is_word text t = is_keyword_class t.class && bytes_eq t.text text

-- whether a token is a name
unfoldable pub is_name : PlainToken → Bool
is_name t = is_identifier t.class && is_free t.text

-- of some values, the one with this text
abbrev pub spelled : {A : Type 0} → (A → List ℕ) → List A → List ℕ → Option A
spelled text_of all text = find (λ a. bytes_eq (text_of a) text) all

-- of some marks, the one that a token is
abbrev pub mark_among : {A : Type 0} → (A → List ℕ) → List A → PlainToken → Option A
mark_among text_of all t = if is_punct t.class then spelled text_of all t.text else None

-- of some words, the one that a token is
abbrev pub word_among : {A : Type 0} → (A → List ℕ) → List A → PlainToken → Option A
word_among text_of all t = if is_keyword_class t.class then spelled text_of all t.text else None

unfoldable pub binary_of : PlainToken → Option BinaryOperator
binary_of t = mark_among binary_text BINARY_OPERATORS t

unfoldable pub assignment_of : PlainToken → Option AssignmentOperator
assignment_of t = mark_among assignment_text ASSIGNMENT_OPERATORS t

unfoldable pub prefix_of : PlainToken → Option PrefixOperator
prefix_of t = mark_among prefix_text PREFIX_OPERATORS t

unfoldable pub postfix_of : PlainToken → Option PostfixOperator
postfix_of t = mark_among postfix_text POSTFIX_OPERATORS t

unfoldable pub basic_of : PlainToken → Option Basic
basic_of t = word_among basic_text BASIC_TYPES t

unfoldable pub precision_of : PlainToken → Option Precision
precision_of t = word_among precision_text PRECISIONS t

unfoldable pub direction_of : PlainToken → Option Direction
direction_of t = word_among direction_text DIRECTIONS t

-- the first of two that is there
abbrev pub first_of_two : {A : Type 0} → Option A → Option A → Option A
first_of_two None second = second
first_of_two (Some a) second = Some a

-- what joins an expression to what follows (section 5.1)
unfoldable pub infix_of : PlainToken → Option Infix
infix_of t = first_of_two (option_map between.Binary (binary_of t))
    (first_of_two (option_map between.Assign (assignment_of t)) (if is_mark (codes "?") t then Some between.Conditional else None))

-- the level of the expression that it makes
abbrev pub infix_level : Infix → ℕ
infix_level (between.Binary operator) = binary_level operator
infix_level between.Conditional = conditional_level
infix_level (between.Assign operator) = assignment_level

-- the level that is asked for before it
abbrev pub level_before : Infix → ℕ
level_before (between.Binary operator) = binary_level operator
level_before between.Conditional = or_level
level_before (between.Assign operator) = prefix_level

-- what stands directly after a primary expression (section 5.1)
unfoldable pub suffix_of : PlainToken → Option Suffix
suffix_of t = first_of_two (option_map suffix.Step (postfix_of t))
    (if is_mark (codes "[") t then Some suffix.Index else (if is_mark (codes ".") t then Some suffix.Field else None))

-- what the first token of a statement says of it
unfoldable pub leader_of : PlainToken → Leader
leader_of t =
    if is_mark (codes "{") t then leader.Block
    else (if is_mark (codes ";") t then leader.Empty
    else (if is_word (codes "if") t then leader.If
    else (if is_word (codes "while") t then leader.While
    else (if is_word (codes "do") t then leader.Do
    else (if is_word (codes "for") t then leader.For
    else (if is_word (codes "break") t then leader.Break
    else (if is_word (codes "continue") t then leader.Continue
    else (if is_word (codes "discard") t then leader.Discard
    else (if is_word (codes "return") t then leader.Return
    else leader.Other)))))))))

-- whether a list begins with this mark
abbrev pub begins_with_mark : List ℕ → List PlainToken → Bool
begins_with_mark text [] = false
begins_with_mark text (t ∷ rest) = is_mark text t

-- whether a list begins with this word
abbrev pub begins_with_word : List ℕ → List PlainToken → Bool
begins_with_word text [] = false
begins_with_word text (t ∷ rest) = is_word text t

-- the tokens after this mark, where the list begins with it
unfoldable pub after_mark : List ℕ → List PlainToken → Option (List PlainToken)
after_mark text [] = None
after_mark text (t ∷ rest) = if is_mark text t then Some rest else None

-- the tokens after this word, where the list begins with it
unfoldable pub after_word : List ℕ → List PlainToken → Option (List PlainToken)
after_word text [] = None
after_word text (t ∷ rest) = if is_word text t then Some rest else None

-- the name that a list begins with
unfoldable pub name_at : List PlainToken → Option (List ℕ × List PlainToken)
name_at [] = None
name_at (t ∷ rest) = if is_name t then Some (t.text, rest) else None

-- whether a text is a name
abbrev pub is_free_text : List ℕ → Bool
is_free_text text = is_free text
