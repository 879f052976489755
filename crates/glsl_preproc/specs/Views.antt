-- What the code keeps, as the definitions see it.
use Rattle.std.specs.Prelude.{ℕ, ◌≡◌, ◌<◌, ◌≤◌, length, Result, Ok, Err, List, [], map, Option, Some, None, true}
use Rattle.std.specs.Prelude.{Vec}
use Rattle.std.specs.Borrow.{Bor}
use Rattle.std.specs.declared.alloc.Global.{Global}
use Rattle.glsl_tree.specs.Token.{PlainToken, plain_tokens}
use Rattle.glsl_tree.specs.declared.token.Class.{Class}
use Rattle.glsl_tree.specs.declared.token.Class.TheVariants.{Int}
use Rattle.std.specs.Fmt.{decimal}
use Rattle.glsl_preproc.specs.Macros.{PlainMacro, is_name_token}
use Rattle.glsl_preproc.specs.declared.pieces.Piece.{Piece}
use Rattle.glsl_preproc.specs.declared.pieces.Spelling.{Spelling}
use Rattle.glsl_preproc.specs.declared.pieces.Spelling.TheVariants as spelling
use Rattle.glsl_tree.specs.declared.token.Token.{Token}
use Rattle.glsl_preproc.specs.Replacement.{Outcome, End, Whole, Failed, ended, Use, Kept, LineNumber, Object, Call, WrongCount}
use Rattle.glsl_preproc.specs.declared.macros.Macro.{Macro}
use Rattle.glsl_preproc.specs.declared.errors.Pre.{Pre}
use Rattle.glsl_preproc.specs.declared.errors.Pre.TheVariants as pre
use Rattle.glsl_preproc.specs.declared.calls.Arguments.{Arguments}
use Rattle.glsl_preproc.specs.declared.calls.Use.{Use as Found}
use Rattle.glsl_preproc.specs.declared.calls.Use.TheVariants as found

-- a token on another line
abbrev pub placed : PlainToken → ℕ → PlainToken
placed t line = record { text = t.text; class = t.class; line = line }

-- a token that has its text elsewhere
abbrev pub text_of : Spelling → List ℕ
text_of (spelling.Of token) = token.now.text.items
text_of (spelling.Number n) = decimal n

abbrev pub class_of : Spelling → Class
class_of (spelling.Of token) = token.now.class
class_of (spelling.Number n) = Int

abbrev pub plain_piece : Piece → PlainToken
plain_piece p = record { text = text_of p.spelling; class = class_of p.spelling; line = p.line }

abbrev pub plain_pieces : List Piece → List PlainToken
plain_pieces pieces = map plain_piece pieces

abbrev pub texts : List (Vec ℕ Global) → List (List ℕ)
texts names = map (λ v. v.items) names

abbrev pub plain_macro : Macro → PlainMacro
plain_macro m = record { name = m.name.now; parameters = m.parameters; body = plain_tokens m.body.now }

abbrev pub plain_entry : Vec ℕ Global × Macro → List ℕ × PlainMacro
plain_entry e = (e.0.items, plain_macro e.1)

-- each list of tokens, which stands in another
abbrev pub slices : List (Bor (List Piece)) → List (List PlainToken)
slices arguments = map (λ s. plain_pieces s.now) arguments

abbrev pub found_of : Option Arguments → Option (List (List PlainToken) × ℕ)
found_of None = None
found_of (Some a) = Some (slices a.lists.items, a.count)

-- the parameters of a macro that takes some
abbrev pub parameters_of : Option (List (List ℕ)) → List (List ℕ)
parameters_of None = []
parameters_of (Some names) = names

-- the code's finding is what the token is
abbrev pub use_view : Found → Use
use_view found.Kept = Kept
use_view found.LineNumber = LineNumber
use_view (found.Object m) = Object (plain_macro m.now)
use_view (found.Call m a) = Call (plain_macro m.now) (parameters_of m.now.parameters) (slices a.lists.items) a.count
use_view found.WrongCount = WrongCount

-- a call takes no more tokens than these
abbrev pub IsWithin : ℕ → Found → Type 0
IsWithin n (found.Call m a) = a.count ≤ n
IsWithin n _ = Unit {0}

-- what has a call is a name
abbrev pub IsOfName : PlainToken → Found → Type 0
IsOfName t (found.Object m) = is_name_token t ≡ true
IsOfName t (found.Call m a) = is_name_token t ≡ true
IsOfName t _ = Unit {0}

-- an expansion was done as the outcome says, unless memory is wanting: up to its end, or past 131,072 tokens
abbrev pub Expands : Outcome → List PlainToken → Result (Unit {0}) Pre → Type 0
Expands o new (Ok x) = o ≡ ended new Whole
Expands o new (Err (pre.Directive line)) = o ≡ ended new (Failed line)
Expands o new (Err pre.TooLong) = 131072 < length o.tokens
Expands o new (Err pre.Memory) = Unit {0}

abbrev pub ExpandsArguments : Result (List (List PlainToken)) End → Result (Vec (List PlainToken) Global) Pre → Type 0
ExpandsArguments read (Ok v) = read ≡ Ok v.items
ExpandsArguments read (Err (pre.Directive line)) = read ≡ Err (Failed line)
ExpandsArguments read (Err pre.TooLong) = ⊥
ExpandsArguments read (Err pre.Memory) = Unit {0}

-- the same of one list by itself
abbrev pub ExpandsAlone : Outcome → Result (Vec Token Global) Pre → Type 0
ExpandsAlone o (Ok v) = o ≡ ended (plain_tokens v.items) Whole
ExpandsAlone o (Err (pre.Directive line)) = o.end ≡ Failed line
ExpandsAlone o (Err pre.TooLong) = ⊥
ExpandsAlone o (Err pre.Memory) = Unit {0}

-- an error of an argument, as the call answers it
abbrev pub argument_error : Pre → Pre
argument_error (pre.Directive line) = pre.Directive line
argument_error _ = pre.Memory
