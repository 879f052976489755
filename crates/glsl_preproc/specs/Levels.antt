-- What more levels of nesting change in an expansion (GLSL ES 1.00.17 section 3.4).
use Rattle.std.specs.Prelude.{◌≡◌, List, ◌++◌, Result, Ok, Err}
use Rattle.glsl_tree.specs.Token.{PlainToken}
use Rattle.glsl_preproc.specs.Replacement.{Outcome, End, Whole, Failed, Deeper}
use Rattle.glsl_preproc.specs.Conditions.{Parsed, Read, Wrong, TooDeep, Judged, Yes, No, Fails, Unknown}
use Rattle.glsl_preproc.specs.Expansion.{Step, Next, Stop}
use Rattle.glsl_preproc.specs.ReaderViews.{step_tokens}

-- a list begins with another
abbrev pub IsFront : List PlainToken → List PlainToken → Type 0
IsFront front list = (rest : List PlainToken) × (list ≡ front ++ rest)

-- An outcome that came to an end is the outcome with more levels too, and one that did not has a front of its tokens.
abbrev pub ExtendsAt : End → Outcome → Outcome → Type 0
ExtendsAt Whole less more = more ≡ less
ExtendsAt (Failed line) less more = more ≡ less
ExtendsAt Deeper less more = IsFront less.tokens more.tokens

abbrev pub Extends : Outcome → Outcome → Type 0
Extends less more = ExtendsAt less.end less more

-- the same of the arguments of a call
abbrev pub ExtendsArguments : Result (List (List PlainToken)) End → Result (List (List PlainToken)) End → Type 0
ExtendsArguments (Ok lists) more = more ≡ Ok lists
ExtendsArguments (Err Whole) more = more ≡ Err Whole
ExtendsArguments (Err (Failed line)) more = more ≡ Err (Failed line)
ExtendsArguments (Err Deeper) more = Unit {0}

-- of what is read at the front of an expression
abbrev pub ExtendsParsed : Parsed → Parsed → Type 0
ExtendsParsed (Read v n) more = more ≡ Read v n
ExtendsParsed Wrong more = more ≡ Wrong
ExtendsParsed TooDeep more = Unit {0}

-- of what an `#if` answers
abbrev pub ExtendsJudged : Judged → Judged → Type 0
ExtendsJudged Yes more = more ≡ Yes
ExtendsJudged No more = more ≡ No
ExtendsJudged Fails more = more ≡ Fails
ExtendsJudged Unknown more = Unit {0}

-- of a step
abbrev pub ExtendsStopAt : End → Outcome → Step → Type 0
ExtendsStopAt Whole less more = more ≡ Stop less
ExtendsStopAt (Failed line) less more = more ≡ Stop less
ExtendsStopAt Deeper less more = IsFront less.tokens (step_tokens more)

abbrev pub ExtendsStep : Step → Step → Type 0
ExtendsStep (Next s) more = more ≡ Next s
ExtendsStep (Stop o) more = ExtendsStopAt o.end o more
