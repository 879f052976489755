-- Expressions (GLSL ES 1.00.17 chapter 5, and `expression` of chapter 9), read from the left.
use Rattle.std.specs.Prelude.{ℕ, zero, suc, ◌+◌, Bool, true, false, ◌&&◌, if◌then◌else◌, nat_le, List, [], ◌∷◌, ◌++◌, codes, Option, Some, None}
use Rattle.glsl_tree.specs.declared.token.Class.{Class}
use Rattle.glsl_tree.specs.declared.token.Class.TheVariants.{Identifier, Keyword, Int, Float, Punct}
use Rattle.glsl_tree.specs.declared.operators.PrefixOperator.{PrefixOperator}
use Rattle.glsl_tree.specs.declared.qualifiers.Basic.{Basic}
use Rattle.glsl_tree.specs.declared.expressions.Callee.{Callee}
use Rattle.glsl_tree.specs.declared.expressions.Callee.TheVariants as callee
use Rattle.glsl_tree.specs.declared.expressions.Expr.{Expr}
use Rattle.glsl_tree.specs.declared.expressions.Expr.TheVariants as tree
use Rattle.glsl_tree.specs.Operators.{any_level, assignment_level, prefix_level, binary_level}
use Rattle.glsl_tree.specs.Expressions.{grade, expression_height}
use Rattle.glsl_tree.specs.Token.{PlainToken}
use Rattle.glsl_parse.specs.Readings.{Reads, after, past, made, Turn, turn_on, looped}
use Rattle.glsl_parse.specs.Symbols.{is_mark, is_word, is_name, prefix_of, basic_of, infix_of, infix_level, level_before, suffix_of, after_mark, after_word, name_at}
use Rattle.glsl_parse.specs.declared.symbols.Infix.{Infix}
use Rattle.glsl_parse.specs.declared.symbols.Infix.TheVariants as between
use Rattle.glsl_parse.specs.declared.symbols.Suffix.{Suffix}
use Rattle.glsl_parse.specs.declared.symbols.Suffix.TheVariants as suffix

-- what reads an expression of a level or a higher one
abbrev pub ReadsLevel : Type 0
ReadsLevel = ℕ → Reads Expr

-- one more part of a list, after a comma
unfoldable pub more_listed : {A : Type 0} → Reads A → List A → List PlainToken → Turn (List A)
more_listed item done list = turn_on (after_mark (codes ",") list) (λ rest. made (λ a. done ++ a ∷ []) (item rest))

-- a list of one part or more, with commas between them
unfoldable pub listed : {A : Type 0} → Reads A → Reads (List A)
listed item list = after (item list) (λ first rest. looped (more_listed item) (first ∷ []) rest)

-- the arguments of a call, of which there is one at least, and the bracket that closes it
unfoldable pub arguments : ReadsLevel → Callee → Reads Expr
arguments inner called list = after (listed (inner assignment_level) list) (λ all rest.
    past (after_mark (codes ")") rest) (λ rest. Some (tree.Call called all, rest)))

-- a call, after its opening bracket: nothing, `void`, or arguments
unfoldable pub call : ReadsLevel → Callee → Reads Expr
call inner called list = elim (after_mark (codes ")") list) [
  | Some rest ↦ Some (tree.Call called [], rest)
  | None ↦ elim (after_word (codes "void") list) [
    | Some rest ↦ past (after_mark (codes ")") rest) (λ rest. Some (tree.CallVoid called, rest))
    | None ↦ arguments inner called list
  ]
]

-- a name, or a call where a bracket follows it
unfoldable pub named : ReadsLevel → List ℕ → Reads Expr
named inner text list = elim (after_mark (codes "(") list) [
  | Some rest ↦ call inner (callee.Name text) rest
  | None ↦ Some (tree.Name text, list)
]

-- a basic type, which must be called
abbrev pub constructed : ReadsLevel → Option Basic → Reads Expr
constructed inner None list = None
constructed inner (Some kind) list = past (after_mark (codes "(") list) (call inner (callee.Basic kind))

-- a word at the front of an expression: `true`, `false` or a basic type
unfoldable pub word_expression : ReadsLevel → PlainToken → Reads Expr
word_expression inner t list =
    if is_word (codes "true") t then Some (tree.Truth true, list)
    else (if is_word (codes "false") t then Some (tree.Truth false, list)
    else constructed inner (basic_of t) list)

-- an expression in brackets
unfoldable pub bracketed : ReadsLevel → Reads Expr
bracketed inner list = after (inner any_level list) (λ e rest. past (after_mark (codes ")") rest) (λ rest. Some (tree.Bracket e, rest)))

-- a primary expression that begins with a token of this class
abbrev pub primary_of : ReadsLevel → Class → PlainToken → Reads Expr
primary_of inner Identifier t list = if is_name t then named inner t.text list else None
primary_of inner Keyword t list = word_expression inner t list
primary_of inner Int t list = Some (tree.Int t.text, list)
primary_of inner Float t list = Some (tree.Float t.text, list)
primary_of inner Punct t list = if is_mark (codes "(") t then bracketed inner list else None
primary_of inner _ t list = None

-- a primary expression
unfoldable pub primary : ReadsLevel → Reads Expr
primary inner [] = None
primary inner (t ∷ rest) = primary_of inner t.class t rest

-- what stands directly after an expression, where this is its first token
abbrev pub suffixed_by : ReadsLevel → Expr → Suffix → Reads Expr
suffixed_by inner base suffix.Index list =
    after (inner any_level list) (λ index rest. past (after_mark (codes "]") rest) (λ rest. Some (tree.Index base index, rest)))
suffixed_by inner base suffix.Field list = made (tree.Field base) (name_at list)
suffixed_by inner base (suffix.Step operator) list = Some (tree.Postfix base operator, list)

-- Whether an expression may stand in one whose parts have at most this height.
abbrev pub fits_below : ℕ → Expr → Bool
fits_below n e = nat_le (expression_height e) n

-- what stands directly after an expression, in one whose parts have at most this height
unfoldable pub suffixed : ℕ → ReadsLevel → Expr → Suffix → Reads Expr
suffixed n inner base s list = if fits_below n base then suffixed_by inner base s list else None

abbrev pub suffix_at : List PlainToken → Option Suffix
suffix_at [] = None
suffix_at (t ∷ rest) = suffix_of t

abbrev pub after_first : List PlainToken → List PlainToken
after_first [] = []
after_first (t ∷ rest) = rest

-- one more index, field or operator after an expression
unfoldable pub more_suffixed : ℕ → ReadsLevel → Expr → List PlainToken → Turn Expr
more_suffixed n inner base list = turn_on (suffix_at list) (λ s. suffixed n inner base s (after_first list))

-- a primary expression with what stands directly after it
unfoldable pub postfixed : ℕ → ReadsLevel → Reads Expr
postfixed n inner list = after (primary inner list) (looped (more_suffixed n inner))

abbrev pub prefix_at : List PlainToken → Option PrefixOperator
prefix_at [] = None
prefix_at (t ∷ rest) = prefix_of t

-- an operand: an operator before an operand, or a postfix expression
unfoldable pub operand : ℕ → ReadsLevel → Reads Expr
operand n inner list = elim (prefix_at list) [
  | Some operator ↦ made (tree.Prefix operator) (inner prefix_level (after_first list))
  | None ↦ postfixed n inner list
]

-- the middle and the last part of `?:`, after `?`
unfoldable pub branches : ReadsLevel → Expr → Reads Expr
branches inner condition list = after (inner any_level list) (λ if_true rest.
    past (after_mark (codes ":") rest) (λ rest. made (tree.Conditional condition if_true) (inner assignment_level rest)))

-- what joins an expression to what follows, after the operator
abbrev pub joined_by : ReadsLevel → Expr → Infix → Reads Expr
joined_by inner left (between.Binary operator) list = made (tree.Binary operator left) (inner (binary_level operator + 1) list)
joined_by inner left between.Conditional list = branches inner left list
joined_by inner left (between.Assign operator) list = made (tree.Assign operator left) (inner assignment_level list)

-- the same in an expression whose parts have at most this height
unfoldable pub joined : ℕ → ReadsLevel → Expr → Infix → Reads Expr
joined n inner left operator list = if fits_below n left then joined_by inner left operator list else None

-- an operator is taken where its level is asked for, and the expression before it has the level that the operator asks for
abbrev pub taken : ℕ → ℕ → Option Infix → Option Infix
taken least level None = None
taken least level (Some operator) =
    if nat_le least (infix_level operator) && nat_le (level_before operator) level then Some operator else None

-- the operator at the front of a list, after an expression of a level, where expressions of the least level or a higher one are read
unfoldable pub infix_at : ℕ → ℕ → List PlainToken → Option Infix
infix_at least level [] = None
infix_at least level (t ∷ rest) = taken least level (infix_of t)

-- one more operator after an expression, with its operands
unfoldable pub more_joined : ℕ → ReadsLevel → ℕ → Expr → List PlainToken → Turn Expr
more_joined n inner least left list =
    turn_on (infix_at least (grade left).level list) (λ operator. joined n inner left operator (after_first list))

-- an expression whose parts have at most this height
unfoldable pub climbed : ℕ → ReadsLevel → ℕ → Reads Expr
climbed n inner least list = after (operand n inner list) (looped (more_joined n inner least))

-- an expression of the least level or a higher one, of at most this height
unfoldable pub expression : ℕ → ℕ → Reads Expr
expression zero least list = None
expression (suc n) least list = climbed n (expression n) least list
