-- What the reader keeps, as the definitions see it.
use Rattle.std.specs.declared.alloc.Global.{Global}
use Rattle.glsl_tree.specs.declared.token.Token.{Token}
use Rattle.std.specs.Prelude.{Vec, ◌≡◌, ◌<◌, ◌≤◌, List, reverse, length, Result, Ok, Err}
use Rattle.glsl_tree.specs.Token.{PlainToken, plain_tokens}
use Rattle.glsl_preproc.specs.Views.{plain_pieces}
use Rattle.glsl_preproc.specs.Replacement.{Outcome, Failed, Whole, ended}
use Rattle.glsl_preproc.specs.Expansion.{State, Step, Next, Stop, Expansion, IsTooLong}
use Rattle.glsl_preproc.specs.declared.reader.Reader.{Reader}
use Rattle.glsl_preproc.specs.declared.errors.Pre.{Pre}
use Rattle.glsl_preproc.specs.declared.errors.Pre.TheVariants as pre

abbrev pub state_of : Reader → State
state_of r = record {
  macros = r.macros;
  conditionals = reverse r.conditionals.items;
  skipped = r.skipped;
  text = plain_pieces r.text.items;
  tokens = r.tokens;
  fresh = r.fresh;
}

-- the tokens that a step leaves
abbrev pub step_tokens : Step → List PlainToken
step_tokens (Next s) = s.tokens
step_tokens (Stop o) = o.tokens

-- the reader did a step, unless memory is wanting
abbrev pub Steps : Step → State → Result (Unit {0}) Pre → Type 0
Steps step new (Ok x) = step ≡ Next new
Steps step new (Err (pre.Directive line)) = step ≡ Stop (ended new.tokens (Failed line))
Steps step new (Err pre.TooLong) = 131072 < length (step_tokens step)
Steps step new (Err pre.Memory) = Unit {0}

-- the reader came to the end, unless memory is wanting
abbrev pub Finishes : Outcome → List PlainToken → Result (Unit {0}) Pre → Type 0
Finishes o new (Ok x) = o ≡ ended new Whole
Finishes o new (Err (pre.Directive line)) = o ≡ ended new (Failed line)
Finishes o new (Err pre.TooLong) = 131072 < length o.tokens
Finishes o new (Err pre.Memory) = Unit {0}

-- The answer is the expansion's, unless memory is wanting. An expansion of at most 131,072 tokens up to its end is answered,
-- and a longer one is too long.
abbrev pub Answers : List PlainToken → Result (Vec Token Global) Pre → Type 0
Answers source (Ok v) = Expansion source (plain_tokens v.items) Whole × (length v.items ≤ 131072)
Answers source (Err (pre.Directive line)) = (done : List PlainToken) × Expansion source done (Failed line) × (length done ≤ 131072)
Answers source (Err pre.TooLong) = IsTooLong source
Answers source (Err pre.Memory) = Unit {0}
