-- Tokens without where their text lies in memory (GLSL ES 1.00.17 section 3.6).
use Rattle.std.specs.Prelude.{ℕ, List, map}
use Rattle.glsl_tree.specs.declared.token.Class.{Class}
use Rattle.glsl_tree.specs.declared.token.Token.{Token}

-- a token: its bytes, its class and its line
pub record PlainToken : Type 0 where
  pub text : List ℕ
  pub class : Class
  pub line : ℕ

abbrev pub plain : Token → PlainToken
plain token = record { text = token.text.items; class = token.class; line = token.line }

abbrev pub plain_tokens : List Token → List PlainToken
plain_tokens tokens = map plain tokens
