-- The expansion of a shader's tokens (GLSL ES 1.00.17 section 3.4).
use Rattle.std.specs.Prelude.{◌≡◌, ◌<◌, ◌≤◌, ℕ, ◌+◌, ◌-◌, ◌==◌, Bool, true, false, not, ◌&&◌, if◌then◌else◌, List, [], ◌∷◌, ◌++◌, length, Option, Some, None}
use Rattle.glsl_tree.specs.Token.{PlainToken}
use Rattle.glsl_tree.specs.declared.token.Class.{Class}
use Rattle.glsl_tree.specs.declared.token.Class.TheVariants.{NewLine}
use Rattle.glsl_preproc.specs.Macros.{MacroMap, first_macros}
use Rattle.glsl_preproc.specs.Replacement.{Outcome, End, Whole, Failed, Deeper, ended, expanded}
use Rattle.glsl_preproc.specs.Conditions.{Judged, Yes, No, Fails, Unknown, condition}
use Rattle.glsl_preproc.specs.Directives.{kind_of, is_hash_token, after_define, after_undef, asked_defined, is_version, is_extension, are_line_numbers}
use Rattle.glsl_preproc.specs.declared.conditionals.Part.{Part}
use Rattle.glsl_preproc.specs.declared.conditionals.Part.TheVariants.{Taken, Waiting, Passed}
use Rattle.glsl_preproc.specs.declared.conditionals.Conditional.{Conditional}
use Rattle.glsl_preproc.specs.declared.kinds.Kind.{Kind}
use Rattle.glsl_preproc.specs.declared.kinds.Kind.TheVariants as kind

-- What is known where a line begins: the macros; the conditionals that are open, the innermost first; how many more are
-- open within lines that are not read; the text lines since the last directive; the tokens so far; and whether no token has come yet.
pub record State : Type 0 where
  pub macros : MacroMap
  pub conditionals : List Conditional
  pub skipped : ℕ
  pub text : List PlainToken
  pub tokens : List PlainToken
  pub fresh : Bool

-- what a line leaves: a state, or the end of the expansion
pub data Step : Type 0 where
  Next : State → Step
  Stop : Outcome → Step

abbrev pub is_taken : Part → Bool
is_taken Taken = true
is_taken _ = false

abbrev pub innermost_taken : List Conditional → Bool
innermost_taken [] = true
innermost_taken (c ∷ outer) = is_taken c.part

-- whether lines are read
abbrev pub is_read : State → Bool
is_read s = s.skipped == 0 && innermost_taken s.conditionals

abbrev pub failing : State → ℕ → Step
failing s line = Stop (ended s.tokens (Failed line))

abbrev pub unknown : State → Step
unknown s = Stop (ended s.tokens Deeper)

-- the text lines are expanded where a directive or the end comes
abbrev pub flushed_by : State → Outcome → Step
flushed_by s o = elim o.end [
  | Whole ↦ Next (record s { text = []; tokens = o.tokens })
  | Failed line ↦ Stop o
  | Deeper ↦ Stop o
]

unfoldable pub flushed : ℕ → State → Step
flushed n s = flushed_by s (expanded n s.macros [] s.tokens s.text)

-- where flushing goes on
abbrev pub and_then : Step → (State → Step) → Step
and_then (Next s) f = f s
and_then (Stop o) f = Stop o

abbrev pub with_macros : State → ℕ → Option MacroMap → Step
with_macros s line None = failing s line
with_macros s line (Some macros) = Next (record s { macros = macros })

abbrev pub unless : Bool → State → ℕ → Step
unless fails s line = if fails then failing s line else Next s

-- a conditional begins, whose first part is read or not
abbrev pub opened : State → ℕ → Bool → Step
opened s line reads =
    Next (record s { conditionals = record { part = if reads then Taken else Waiting; closing = false; line = line } ∷ s.conditionals })

abbrev pub opened_if : State → ℕ → Judged → Step
opened_if s line Yes = opened s line true
opened_if s line No = opened s line false
opened_if s line Fails = failing s line
opened_if s line Unknown = unknown s

abbrev pub opened_ifdef : State → ℕ → Bool → Option Bool → Step
opened_ifdef s line wanted None = failing s line
opened_ifdef s line wanted (Some found) = opened s line (if wanted then found else not found)

-- the innermost conditional goes on with another part
abbrev pub with_part : State → Conditional → List Conditional → Part → Bool → Step
with_part s c outer part closing = Next (record s { conditionals = record { part = part; closing = closing; line = c.line } ∷ outer })

abbrev pub elif_judged : State → ℕ → Conditional → List Conditional → Judged → Step
elif_judged s line c outer Yes = with_part s c outer Taken false
elif_judged s line c outer No = with_part s c outer Waiting false
elif_judged s line c outer Fails = failing s line
elif_judged s line c outer Unknown = unknown s

-- `#elif`: its expression is judged where no part was read before
abbrev pub elif_of : ℕ → State → ℕ → List PlainToken → Conditional → List Conditional → Part → Step
elif_of n s line list c outer Waiting = elif_judged s line c outer (condition n s.macros list)
elif_of n s line list c outer _ = with_part s c outer Passed false

abbrev pub elif_step : ℕ → State → ℕ → List PlainToken → List Conditional → Step
elif_step n s line list [] = failing s line
elif_step n s line list (c ∷ outer) = if c.closing then failing s line else elif_of n s line list c outer c.part

abbrev pub other_part : Part → Part
other_part Waiting = Taken
other_part _ = Passed

abbrev pub else_step : State → ℕ → List PlainToken → List Conditional → Step
else_step s line (t ∷ list) conditionals = failing s line
else_step s line [] [] = failing s line
else_step s line [] (c ∷ outer) = if c.closing then failing s line else with_part s c outer (other_part c.part) true

abbrev pub endif_step : State → ℕ → List PlainToken → List Conditional → Step
endif_step s line (t ∷ list) conditionals = failing s line
endif_step s line [] [] = failing s line
endif_step s line [] (c ∷ outer) = Next (record s { conditionals = outer })

-- `#line` has one int or two behind it, once macros are expanded
abbrev pub line_step : State → ℕ → Outcome → Step
line_step s line o = elim o.end [
  | Whole ↦ unless (not (are_line_numbers o.tokens)) s line
  | Failed at ↦ failing s line
  | Deeper ↦ unknown s
]

-- a directive of a kind, of a line, with the tokens behind its name
unfoldable pub directive_step : ℕ → State → ℕ → Kind → List PlainToken → Bool → Step
directive_step n s line kind.Empty list fresh = Next s
directive_step n s line kind.Define list fresh = with_macros s line (after_define s.macros list)
directive_step n s line kind.Undef list fresh = with_macros s line (after_undef s.macros list)
directive_step n s line kind.If list fresh = opened_if s line (condition n s.macros list)
directive_step n s line kind.Ifdef list fresh = opened_ifdef s line true (asked_defined s.macros list)
directive_step n s line kind.Ifndef list fresh = opened_ifdef s line false (asked_defined s.macros list)
directive_step n s line kind.Elif list fresh = elif_step n s line list s.conditionals
directive_step n s line kind.Else list fresh = else_step s line list s.conditionals
directive_step n s line kind.Endif list fresh = endif_step s line list s.conditionals
directive_step n s line kind.Error list fresh = failing s line
directive_step n s line kind.Pragma list fresh = Next s
directive_step n s line kind.Extension list fresh = unless (not (is_extension list)) s line
directive_step n s line kind.Version list fresh = unless (not (fresh && is_version list)) s line
directive_step n s line kind.Line list fresh = line_step s line (expanded n s.macros [] [] list)
directive_step n s line kind.Unknown list fresh = failing s line

-- the first `#` of a list
unfoldable pub stray_hash : List PlainToken → Option ℕ
stray_hash [] = None
stray_hash (t ∷ rest) = if is_hash_token t then Some t.line else stray_hash rest

abbrev pub behind_name : List PlainToken → List PlainToken
behind_name [] = []
behind_name (t ∷ rest) = rest

abbrev pub acting : ℕ → ℕ → Kind → List PlainToken → Bool → Option ℕ → State → Step
acting n line k list fresh (Some at) s = failing s at
acting n line k list fresh None s = directive_step n s line k (behind_name list) fresh

-- the `#` that fails in a directive of a kind
abbrev pub failing_hash : Kind → List PlainToken → Option ℕ
failing_hash kind.Pragma list = None
failing_hash _ list = stray_hash list

-- a directive with the tokens behind its `#`: one more `#` among them fails first, but in a `#pragma`
unfoldable pub directive : ℕ → State → ℕ → List PlainToken → Bool → Step
directive n s line list fresh = acting n line (kind_of list) list fresh (failing_hash (kind_of list) list) s

-- Lines that are not read: of their directives those count that belong to the conditional, and the nesting of others.
abbrev pub skipping_inner : State → Kind → Step
skipping_inner s kind.If = Next (record s { skipped = s.skipped + 1 })
skipping_inner s kind.Ifdef = Next (record s { skipped = s.skipped + 1 })
skipping_inner s kind.Ifndef = Next (record s { skipped = s.skipped + 1 })
skipping_inner s kind.Endif = Next (record s { skipped = s.skipped - 1 })
skipping_inner s _ = Next s

abbrev pub skipping_outer : ℕ → State → ℕ → List PlainToken → Kind → Step
skipping_outer n s line list kind.If = Next (record s { skipped = 1 })
skipping_outer n s line list kind.Ifdef = Next (record s { skipped = 1 })
skipping_outer n s line list kind.Ifndef = Next (record s { skipped = 1 })
skipping_outer n s line list kind.Elif = directive n s line list false
skipping_outer n s line list kind.Else = directive n s line list false
skipping_outer n s line list kind.Endif = directive n s line list false
skipping_outer n s line list _ = Next s

abbrev pub skipping : ℕ → State → ℕ → List PlainToken → Step
skipping n s line list = if s.skipped == 0 then skipping_outer n s line list (kind_of list) else skipping_inner s (kind_of list)

-- a text line: its tokens join those since the last directive, up to a `#`, which fails once these are expanded
abbrev pub before_hash : List PlainToken → List PlainToken
before_hash [] = []
before_hash (t ∷ rest) = if is_hash_token t then [] else t ∷ before_hash rest

abbrev pub text_step : ℕ → State → List PlainToken → Option ℕ → Step
text_step n s line None = Next (record s { text = s.text ++ line; fresh = false })
text_step n s line (Some at) = and_then (flushed n (record s { text = s.text ++ before_hash line })) (λ t. failing t at)

abbrev pub not_fresh : Step → Step
not_fresh (Next s) = Next (record s { fresh = false })
not_fresh (Stop o) = Stop o

-- a directive where lines are read, and where they are not
abbrev pub read_step : ℕ → State → ℕ → List PlainToken → Step
read_step n s line list = not_fresh (and_then (flushed n s) (λ f. directive n f line list s.fresh))

abbrev pub skipped_step : ℕ → State → ℕ → List PlainToken → Step
skipped_step n s line list = not_fresh (skipping n s line list)

-- One line, without its line end. A directive is a line that begins with `#`.
unfoldable pub line_of : ℕ → State → List PlainToken → Step
line_of n s [] = Next s
line_of n s (t ∷ rest) =
    if is_hash_token t then
    (if is_read s then read_step n s t.line rest else skipped_step n s t.line rest)
    else (if is_read s then text_step n s (t ∷ rest) (stray_hash (t ∷ rest)) else Next (record s { fresh = false }))

-- the line of the outermost conditional that is open
abbrev pub outermost : ℕ → List Conditional → ℕ
outermost line [] = line
outermost line (c ∷ outer) = outermost c.line outer

-- at the end a conditional without `#endif` fails
abbrev pub ended_in : State → List Conditional → Step
ended_in s [] = Stop (ended s.tokens Whole)
ended_in s (c ∷ outer) = failing s (outermost c.line outer)

abbrev pub outcome_of : Step → Outcome
outcome_of (Stop o) = o
outcome_of (Next s) = ended s.tokens Whole

unfoldable pub finished : ℕ → State → Outcome
finished n s = outcome_of (and_then (flushed n s) (λ f. ended_in f f.conditionals))

abbrev pub is_new_line : Class → Bool
is_new_line NewLine = true
is_new_line _ = false

abbrev pub is_line_end : PlainToken → Bool
is_line_end t = is_new_line t.class

-- the tokens line by line, where `line` are the tokens so far of a line
unfoldable pub lines_from : ℕ → State → List PlainToken → List PlainToken → Outcome
lines_from n s line [] = elim (line_of n s line) [ Next t ↦ finished n t | Stop o ↦ o ]
lines_from n s line (t ∷ rest) = elim (is_line_end t) [
  | false ↦ lines_from n s (line ++ t ∷ []) rest
  | true ↦ elim (line_of n s line) [ Next u ↦ lines_from n u [] rest | Stop o ↦ o ]
]

unfoldable pub at_start : State
at_start = record { macros = first_macros; conditionals = []; skipped = 0; text = []; tokens = []; fresh = true }

-- The expansion, where macro calls, brackets and signs nest in at most so many levels.
unfoldable pub expansion : ℕ → List PlainToken → Outcome
expansion n tokens = lines_from n at_start [] tokens

-- the expansion is these tokens, up to this end: with some number of levels, and with any larger one
abbrev pub Expansion : List PlainToken → List PlainToken → End → Type 0
Expansion source tokens end = (n : ℕ) × ((m : ℕ) → n ≤ m → expansion m source ≡ ended tokens end)

-- the expansion has more than 131,072 tokens: with some number of levels, and with any larger one
abbrev pub IsTooLong : List PlainToken → Type 0
IsTooLong source = (n : ℕ) × ((m : ℕ) → n ≤ m → 131072 < length (expansion m source).tokens)
