-- The expansion of a list of tokens (GLSL ES 1.00.17 section 3.4).
use Rattle.std.specs.Prelude.{ℕ, zero, suc, ◌+◌, ◌-◌, ◌==◌, Bool, true, false, ◌&&◌, if◌then◌else◌, List, [], ◌∷◌, ◌++◌, length, map, codes, Option, Some, None, Result, Ok, Err}
use Rattle.std.specs.List.{list_any}
use Rattle.std.specs.Str.{bytes_eq}
use Rattle.std.specs.Fmt.{decimal}
use Rattle.glsl_tree.specs.Token.{PlainToken}
use Rattle.glsl_tree.specs.declared.token.Class.TheVariants.{Int}
use Rattle.glsl_preproc.specs.Macros.{MacroMap, PlainMacro, is_text, is_name_token, find_macro}

-- how an expansion ends: whole; at a failure, with its line; or where macros nest deeper than was asked for
pub data End : Type 0 where
  Whole : End
  Failed : ℕ → End
  Deeper : End

-- the tokens up to the end
pub record Outcome : Type 0 where
  pub tokens : List PlainToken
  pub end : End

abbrev pub ended : List PlainToken → End → Outcome
ended tokens end = record { tokens = tokens; end = end }

abbrev pub opens : PlainToken → Bool
opens token = is_text (codes "(") token

abbrev pub closes : PlainToken → Bool
closes token = is_text (codes ")") token

abbrev pub is_comma : PlainToken → Bool
is_comma token = is_text (codes ",") token

-- The arguments of a call and how many tokens it takes, from the first token behind its `(` on; nothing where its `)`
-- does not come. Behind the arguments that are whole, the tokens so far of one more, and so many brackets open in it.
unfoldable pub arguments_from : List (List PlainToken) → List PlainToken → ℕ → ℕ → List PlainToken → Option (List (List PlainToken) × ℕ)
arguments_from whole current depth count [] = None
arguments_from whole current depth count (t ∷ rest) =
    if opens t then arguments_from whole (current ++ t ∷ []) (depth + 1) (count + 1) rest
    else (if depth == 0 && closes t then Some (whole ++ current ∷ [], count + 1)
    else (if depth == 0 && is_comma t then arguments_from (whole ++ current ∷ []) [] 0 (count + 1) rest
    else arguments_from whole (current ++ t ∷ []) (if closes t then depth - 1 else depth) (count + 1) rest))

-- Whether there are as many arguments as parameters. No parameter takes one argument without tokens.
abbrev pub is_one_empty : List (List PlainToken) → Bool
is_one_empty ([] ∷ []) = true
is_one_empty _ = false

abbrev pub fits_parameters : List (List ℕ) → List (List PlainToken) → Bool
fits_parameters [] arguments = is_one_empty arguments
fits_parameters (p ∷ parameters) arguments = length (p ∷ parameters) == length arguments

-- what a token is: kept as it is; `__LINE__`; the name of a macro without parameters; a call with its arguments, which takes
-- so many tokens behind the name; or a call with another number of arguments
pub data Use : Type 0 where
  Kept : Use
  LineNumber : Use
  Object : PlainMacro → Use
  Call : PlainMacro → List (List ℕ) → List (List PlainToken) → ℕ → Use
  WrongCount : Use

abbrev pub called : PlainMacro → List (List ℕ) → Option (List (List PlainToken) × ℕ) → Use
called m parameters None = Kept
called m parameters (Some found) = if fits_parameters parameters found.0 then Call m parameters found.0 found.1 else WrongCount

abbrev pub used_with : PlainMacro → List (List ℕ) → List PlainToken → Use
used_with m parameters [] = Kept
used_with m parameters (t ∷ rest) = if opens t then called m parameters (arguments_from [] [] 0 1 rest) else Kept

abbrev pub used : PlainMacro → Option (List (List ℕ)) → List PlainToken → Use
used m None rest = Object m
used m (Some parameters) rest = used_with m parameters rest

abbrev pub used_macro : Option PlainMacro → List PlainToken → Use
used_macro None rest = Kept
used_macro (Some m) rest = used m m.parameters rest

-- a name that is hidden is none of a macro
unfoldable pub use_of : MacroMap → List (List ℕ) → PlainToken → List PlainToken → Use
use_of macros hidden t rest =
    if is_name_token t then
    (if is_text (codes "__LINE__") t then LineNumber
    else (if list_any (λ name. bytes_eq name t.text) hidden then Kept else used_macro (find_macro macros t.text) rest))
    else Kept

abbrev pub line_number : PlainToken → PlainToken
line_number t = record { text = decimal t.line; class = Int; line = t.line }

-- the tokens of a replacement take the line of the name
abbrev pub at_line : ℕ → List PlainToken → List PlainToken
at_line line tokens = map (λ t. record { text = t.text; class = t.class; line = line }) tokens

-- the argument for a name, among those of the parameters
abbrev pub argument_of : List (List ℕ) → List (List PlainToken) → List ℕ → Option (List PlainToken)
argument_of [] arguments name = None
argument_of (p ∷ parameters) [] name = None
argument_of (p ∷ parameters) (a ∷ arguments) name = if bytes_eq p name then Some a else argument_of parameters arguments name

abbrev pub argument_or : Option (List PlainToken) → PlainToken → List PlainToken
argument_or None t = t ∷ []
argument_or (Some tokens) t = tokens

-- a replacement with the arguments in the places of the parameters
unfoldable pub substituted : List (List ℕ) → List (List PlainToken) → ℕ → List PlainToken → List PlainToken
substituted parameters arguments line [] = []
substituted parameters arguments line (t ∷ body) =
    at_line line (argument_or (argument_of parameters arguments t.text) t) ++ substituted parameters arguments line body

-- each argument expanded as a list of its own, behind those that are, where `below` expands one; or the end of the first that is not whole
unfoldable pub expanded_arguments : (List PlainToken → Outcome) → List (List PlainToken) → List (List PlainToken)
    → Result (List (List PlainToken)) End
expanded_arguments below done [] = Ok done
expanded_arguments below done (a ∷ arguments) = elim ((below a).end) [
  | Whole ↦ expanded_arguments below (done ++ (below a).tokens ∷ []) arguments
  | Failed line ↦ Err (Failed line)
  | Deeper ↦ Err Deeper
]

-- a call: its arguments are expanded first, and then the replacement with these in it, where the name is hidden too
abbrev pub called_with : (List (List ℕ) → List PlainToken → List PlainToken → Outcome) → List (List ℕ) → List PlainToken
    → PlainToken → PlainMacro → List (List ℕ) → Result (List (List PlainToken)) End → Outcome
called_with below hidden done t m parameters (Err end) = ended done end
called_with below hidden done t m parameters (Ok arguments) =
    below (hidden ++ t.text ∷ []) done (substituted parameters arguments t.line m.body)

abbrev pub call_outcome : (List (List ℕ) → List PlainToken → List PlainToken → Outcome) → List (List ℕ) → List PlainToken
    → PlainToken → PlainMacro → List (List ℕ) → List (List PlainToken) → Outcome
call_outcome below hidden done t m parameters arguments =
    called_with below hidden done t m parameters (expanded_arguments (below hidden []) [] arguments)

abbrev pub object_outcome : (List (List ℕ) → List PlainToken → List PlainToken → Outcome) → List (List ℕ) → List PlainToken
    → PlainToken → PlainMacro → Outcome
object_outcome below hidden done t m = below (hidden ++ t.text ∷ []) done (at_line t.line m.body)

-- The expansion of a list, behind the tokens before it, where `below` expands behind some tokens a list with names
-- hidden. The first k tokens belong to a call already.
unfoldable pub list_from : (List (List ℕ) → List PlainToken → List PlainToken → Outcome) → MacroMap → List (List ℕ)
    → List PlainToken → ℕ → List PlainToken → Outcome
list_from below macros hidden done k [] = ended done Whole
list_from below macros hidden done (suc k) (t ∷ rest) = list_from below macros hidden done k rest
list_from below macros hidden done zero (t ∷ rest) = elim (use_of macros hidden t rest) [
  | Kept ↦ list_from below macros hidden (done ++ t ∷ []) 0 rest
  | LineNumber ↦ list_from below macros hidden (done ++ line_number t ∷ []) 0 rest
  | WrongCount ↦ ended done (Failed t.line)
  | Object m ↦ elim ((object_outcome below hidden done t m).end) [
    | Whole ↦ list_from below macros hidden (object_outcome below hidden done t m).tokens 0 rest
    | Failed line ↦ object_outcome below hidden done t m
    | Deeper ↦ object_outcome below hidden done t m
  ]
  | Call m parameters arguments n ↦ elim ((call_outcome below hidden done t m parameters arguments).end) [
    | Whole ↦ list_from below macros hidden (call_outcome below hidden done t m parameters arguments).tokens n rest
    | Failed line ↦ call_outcome below hidden done t m parameters arguments
    | Deeper ↦ call_outcome below hidden done t m parameters arguments
  ]
]

-- the expansion of a list behind the tokens before it, where macros nest in at most so many levels
unfoldable pub expanded : ℕ → MacroMap → List (List ℕ) → List PlainToken → List PlainToken → Outcome
expanded zero macros hidden done list = ended done Deeper
expanded (suc n) macros hidden done list = list_from (expanded n macros) macros hidden done 0 list
