-- What the code keeps of an `#if`, as the definitions see it.
use Rattle.std.specs.Prelude.{ℕ, ℤ, ◌≡◌, ◌≤◌, length, List, Option, Some, None, Vec, codes, if◌then◌else◌}
use Rattle.std.specs.declared.alloc.Global.{Global}
use Rattle.glsl_tree.specs.Token.{PlainToken}
use Rattle.glsl_preproc.specs.Views.{plain_pieces}
use Rattle.glsl_preproc.specs.declared.pieces.Piece.{Piece}
use Rattle.glsl_preproc.specs.Macros.{is_text}
use Rattle.glsl_preproc.specs.Values.{negated, complemented, inverted}
use Rattle.glsl_preproc.specs.Conditions.{Asked, Other, Of, Broken, Parsed, Read, Wrong, TooDeep, same_value, Judged, Yes, No, Fails, Unknown}
use Rattle.glsl_preproc.specs.declared.defined.Asked.{Asked as AskedFound}
use Rattle.glsl_preproc.specs.declared.defined.Asked.TheVariants as asked
use Rattle.glsl_preproc.specs.declared.conditions.Parsed.{Parsed as ParsedFound}
use Rattle.glsl_preproc.specs.declared.conditions.Parsed.TheVariants as parsed
use Rattle.glsl_preproc.specs.declared.conditions.Sign.{Sign}
use Rattle.glsl_preproc.specs.declared.conditions.Sign.TheVariants.{Plus, Minus, Complement, Not}
use Rattle.glsl_preproc.specs.declared.conditions.Judged.{Judged as JudgedFound}
use Rattle.glsl_preproc.specs.declared.conditions.Judged.TheVariants as judge

abbrev pub asked_of : AskedFound → Asked
asked_of asked.Other = Other
asked_of (asked.Of name n) = Of name.now n
asked_of asked.Broken = Broken

abbrev pub IsAskedWithin : List PlainToken → AskedFound → Type 0
IsAskedWithin rest (asked.Of name n) = n ≤ length rest
IsAskedWithin rest _ = Unit {0}

abbrev pub answered_of : Option (Vec Piece Global) → Option (List PlainToken)
answered_of None = None
answered_of (Some v) = Some (plain_pieces v.items)

abbrev pub parsed_of : ParsedFound → Parsed
parsed_of (parsed.Read v n) = Read v n
parsed_of parsed.Wrong = Wrong
parsed_of parsed.TooDeep = TooDeep

abbrev pub IsParsedWithin : ℕ → ParsedFound → Type 0
IsParsedWithin most (parsed.Read v n) = n ≤ most
IsParsedWithin most _ = Unit {0}

abbrev pub signed : Sign → Option ℤ → Option ℤ
signed Plus v = same_value v
signed Minus v = negated v
signed Complement v = complemented v
signed Not v = inverted v

abbrev pub sign_of : PlainToken → Option Sign
sign_of t =
    if is_text (codes "+") t then Some Plus
    else (if is_text (codes "-") t then Some Minus
    else (if is_text (codes "~") t then Some Complement
    else (if is_text (codes "!") t then Some Not else None)))

abbrev pub judged_of : JudgedFound → Judged
judged_of judge.Yes = Yes
judged_of judge.No = No
judged_of judge.Fails = Fails
judged_of judge.Unknown = Unknown

-- the answer, unless memory is wanting
abbrev pub IsJudged : Judged → JudgedFound → Type 0
IsJudged answer judge.Yes = answer ≡ Yes
IsJudged answer judge.No = answer ≡ No
IsJudged answer judge.Fails = answer ≡ Fails
IsJudged answer judge.Unknown = Unit {0}
