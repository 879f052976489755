-- The expression of an `#if` (GLSL ES 1.00.17 section 3.4).
use Rattle.std.specs.Prelude.{ℕ, zero, suc, ◌+◌, ◌==◌, ℤ, pos, Bool, false, ◌&&◌, if◌then◌else◌, List, [], ◌∷◌, ◌++◌, length, drop, codes, Option, Some, None}
use Rattle.glsl_tree.specs.Token.{PlainToken}
use Rattle.glsl_tree.specs.Spellings.{int_of}
use Rattle.glsl_tree.specs.declared.token.Class.{Class}
use Rattle.glsl_tree.specs.declared.token.Class.TheVariants.{Identifier, Keyword, Int}
use Rattle.glsl_preproc.specs.Macros.{MacroMap, is_text, is_name_token, is_defined, number_token}
use Rattle.glsl_preproc.specs.Replacement.{Outcome, Whole, Failed, Deeper, opens, closes, expanded}
use Rattle.glsl_preproc.specs.Values.{fitting, applied, negated, complemented, inverted, operator_of, level_of, is_zero}
use Rattle.glsl_preproc.specs.declared.operators.Operator.{Operator}

-- what a `defined` at the front is: none; of a name, with so many tokens behind it; or neither form
pub data Asked : Type 0 where
  Other : Asked
  Of : List ℕ → ℕ → Asked
  Broken : Asked

abbrev pub bracketed_name : List PlainToken → Asked
bracketed_name (name ∷ close ∷ rest) = if is_name_token name && closes close then Of name.text 3 else Broken
bracketed_name _ = Broken

abbrev pub asked_name : List PlainToken → Asked
asked_name [] = Broken
asked_name (t ∷ rest) = if opens t then bracketed_name rest else (if is_name_token t then Of t.text 1 else Broken)

unfoldable pub asked_at : PlainToken → List PlainToken → Asked
asked_at t rest = if is_name_token t && is_text (codes "defined") t then asked_name rest else Other

abbrev pub answer_token : Bool → PlainToken
answer_token b = if b then number_token (codes "1") else number_token (codes "0")

-- A list with 1 or 0 for each `defined N` and `defined ( N )`, behind the tokens before it; nothing where a `defined` has
-- neither form. The first k tokens belong to one already.
unfoldable pub answered_from : MacroMap → List PlainToken → ℕ → List PlainToken → Option (List PlainToken)
answered_from macros done k [] = Some done
answered_from macros done (suc k) (t ∷ rest) = answered_from macros done k rest
answered_from macros done zero (t ∷ rest) = elim (asked_at t rest) [
  | Other ↦ answered_from macros (done ++ t ∷ []) 0 rest
  | Of name n ↦ answered_from macros (done ++ answer_token (is_defined macros name) ∷ []) n rest
  | Broken ↦ None
]

-- what is read at the front of a list: a value and how many tokens it takes; no expression; or brackets that nest deeper than was asked for
pub data Parsed : Type 0 where
  Read : Option ℤ → ℕ → Parsed
  Wrong : Parsed
  TooDeep : Parsed

abbrev pub is_closed : List PlainToken → Bool
is_closed [] = false
is_closed (t ∷ rest) = closes t

abbrev pub in_brackets : List PlainToken → Parsed → Parsed
in_brackets rest (Read v n) = if is_closed (drop n rest) then Read v (n + 2) else Wrong
in_brackets rest Wrong = Wrong
in_brackets rest TooDeep = TooDeep

abbrev pub behind_sign : (Option ℤ → Option ℤ) → Parsed → Parsed
behind_sign f (Read v n) = Read (f v) (n + 1)
behind_sign f Wrong = Wrong
behind_sign f TooDeep = TooDeep

abbrev pub same_value : Option ℤ → Option ℤ
same_value v = v

abbrev pub primary_of : Class → List ℕ → Parsed
primary_of Int text = Read (fitting (pos (int_of text))) 1
primary_of Identifier text = Read None 1
primary_of Keyword text = Read None 1
primary_of _ text = Wrong

-- An operand: a number; a name, which has no value; an expression in brackets; or an operand behind + - ~ or !.
-- `inner` reads an expression in brackets, and `operand` reads the operand behind a sign.
unfoldable pub operand_at : (List PlainToken → Parsed) → (List PlainToken → Parsed) → List PlainToken → Parsed
operand_at inner operand [] = Wrong
operand_at inner operand (t ∷ rest) =
    if opens t then in_brackets rest (inner rest)
    else (if is_text (codes "+") t then behind_sign same_value (operand rest)
    else (if is_text (codes "-") t then behind_sign negated (operand rest)
    else (if is_text (codes "~") t then behind_sign complemented (operand rest)
    else (if is_text (codes "!") t then behind_sign inverted (operand rest)
    else primary_of t.class t.text))))

abbrev pub at_level : ℕ → Option Operator → Option Operator
at_level level None = None
at_level level (Some op) = if level_of op == level then Some op else None

-- Operands joined from the left by operators of a level, behind one with a value and so many tokens; the first k tokens
-- belong to an operand already.
unfoldable pub chain_from : (List PlainToken → Parsed) → ℕ → Option ℤ → ℕ → ℕ → List PlainToken → Parsed
chain_from operand level v count k [] = Read v count
chain_from operand level v count (suc k) (t ∷ rest) = chain_from operand level v count k rest
chain_from operand level v count zero (t ∷ rest) = elim (at_level level (operator_of t.text)) [
  | None ↦ Read v count
  | Some op ↦ elim (operand rest) [
    | Read w n ↦ chain_from operand level (applied op v w) (count + 1 + n) n rest
    | Wrong ↦ Wrong
    | TooDeep ↦ TooDeep
  ]
]

abbrev pub chain_behind : (List PlainToken → Parsed) → ℕ → List PlainToken → Parsed → Parsed
chain_behind operand level list (Read v n) = chain_from operand level v n n list
chain_behind operand level list Wrong = Wrong
chain_behind operand level list TooDeep = TooDeep

-- an expression of a level: operands of the next tighter level, joined by the operators of this one
unfoldable pub expression_at : (List PlainToken → Parsed) → ℕ → List PlainToken → Parsed
expression_at operand zero list = operand list
expression_at operand (suc level) list = chain_behind (expression_at operand level) (suc level) list (expression_at operand level list)

-- an operand where brackets and signs nest in at most so many levels
unfoldable pub operand_within : ℕ → List PlainToken → Parsed
operand_within zero list = TooDeep
operand_within (suc n) list = operand_at (expression_at (operand_within n) 10) (operand_within n) list

-- what an `#if` answers
pub data Judged : Type 0 where
  Yes : Judged
  No : Judged
  Fails : Judged
  Unknown : Judged

abbrev pub judged_value : Option ℤ → Judged
judged_value None = Fails
judged_value (Some z) = if is_zero z then No else Yes

-- the whole list is one expression, with a value
abbrev pub judged : List PlainToken → Parsed → Judged
judged list (Read v n) = if n == length list then judged_value v else Fails
judged list Wrong = Fails
judged list TooDeep = Unknown

abbrev pub judged_outcome : ℕ → Outcome → Judged
judged_outcome n o = elim o.end [
  | Whole ↦ judged o.tokens (expression_at (operand_within n) 10 o.tokens)
  | Failed line ↦ Fails
  | Deeper ↦ Unknown
]

abbrev pub judged_answered : ℕ → MacroMap → Option (List PlainToken) → Judged
judged_answered n macros None = Fails
judged_answered n macros (Some list) = judged_outcome n (expanded n macros [] [] list)

-- `defined` is answered first, then macros are expanded, and then the expression is evaluated
unfoldable pub condition : ℕ → MacroMap → List PlainToken → Judged
condition n macros list = judged_answered n macros (answered_from macros [] 0 list)
