-- What the code answers, beside what a reading gives. Out of memory is free.
use Rattle.std.specs.Prelude.{◌≡◌, ℕ, List, [], Option, Some, None, Result, Ok, Err}
use Rattle.std.specs.Borrow.{Bor}
use Rattle.glsl_tree.specs.Token.{PlainToken, plain_tokens}
use Rattle.glsl_tree.specs.declared.token.Token.{Token}
use Rattle.glsl_tree.specs.declared.expressions.Expr.{Expr}
use Rattle.glsl_tree.specs.Expressions.{grade, expression_height}
use Rattle.glsl_parse.specs.declared.errors.Parse.{Parse}
use Rattle.glsl_parse.specs.declared.errors.Parse.TheVariants as parse
use Rattle.glsl_parse.specs.declared.nodes.Found.{Found}

-- an error is Syntax only where the reading gives nothing
abbrev pub Refuses : {A : Type 0} → Parse → Option A → Type 0
Refuses parse.Syntax answer = answer ≡ None
Refuses parse.Memory answer = Unit {0}

-- the tokens that follow, where they do
abbrev pub Follows : Option (Bor (List Token)) → Option (List PlainToken) → Type 0
Follows None answer = answer ≡ None
Follows (Some rest) answer = answer ≡ Some (plain_tokens rest.now)

abbrev pub MustFollow : Result (Bor (List Token)) Parse → Option (List PlainToken) → Type 0
MustFollow (Ok rest) answer = answer ≡ Some (plain_tokens rest.now)
MustFollow (Err e) answer = (e ≡ parse.Syntax) × (answer ≡ None)

-- what was read, and the tokens that follow
abbrev pub Gives : {A : Type 0} → Result (A × Bor (List Token)) Parse → Option (A × List PlainToken) → Type 0
Gives (Ok found) answer = answer ≡ Some (found.0, plain_tokens found.1.now)
Gives (Err e) answer = Refuses e answer

-- the expression that was read, and the tokens that follow
abbrev pub Finds : Result Found Parse → Option (Expr × List PlainToken) → Type 0
Finds (Ok found) answer = answer ≡ Some (found.tree, plain_tokens found.rest.now)
Finds (Err e) answer = Refuses e answer

-- what is known beside an expression is its level and its height
abbrev pub IsMeasured : Found → Type 0
IsMeasured found = (found.level ≡ (grade found.tree).level) × (found.height ≡ expression_height found.tree)

-- a list with the height of the highest, and the tokens that follow
abbrev pub GivesList : {A : Type 0} → Result (List A × ℕ × Bor (List Token)) Parse → Option (List A × List PlainToken) → Type 0
GivesList (Ok found) answer = answer ≡ Some (found.0, plain_tokens found.2.now)
GivesList (Err e) answer = Refuses e answer

-- what was read, with its height, and the tokens that follow
abbrev pub GivesHigh : {A : Type 0} → Result (A × ℕ × Bor (List Token)) Parse → Option (A × List PlainToken) → Type 0
GivesHigh (Ok found) answer = answer ≡ Some (found.0, plain_tokens found.2.now)
GivesHigh (Err e) answer = Refuses e answer

-- what is made of one token
abbrev pub MayGive : {A : Type 0} → Result A Parse → Option A → Type 0
MayGive (Ok a) answer = answer ≡ Some a
MayGive (Err e) answer = Refuses e answer

-- what may stand at the front of a list, and the tokens that follow
abbrev pub Allowed : {A : Type 0} → Option A × Bor (List Token) → Option A × List PlainToken → Type 0
Allowed found answer = answer ≡ (found.0, plain_tokens found.1.now)

-- the same where memory may be wanting
abbrev pub MayAllow : {A : Type 0} → Result (Option A × Bor (List Token)) Parse → Option A × List PlainToken → Type 0
MayAllow (Ok found) answer = answer ≡ (found.0, plain_tokens found.1.now)
MayAllow (Err e) answer = e ≡ parse.Memory

-- a list that all the tokens are read as
abbrev pub GivesAll : {A : Type 0} → Result (List A) Parse → Option (List A × List PlainToken) → Type 0
GivesAll (Ok all) answer = answer ≡ Some (all, [])
GivesAll (Err e) answer = Refuses e answer
