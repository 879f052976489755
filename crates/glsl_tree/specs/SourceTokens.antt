-- The tokens of a source (GLSL ES 1.00.17 chapter 3).
use Rattle.std.specs.Prelude.{◌≡◌, ℕ, ◌+◌, ◌-◌, Bool, true, false, ◌&&◌, if◌then◌else◌, List, [], ◌∷◌, ◌++◌, length, take, drop, zero, suc, codes, Option, Some, None, Result, Ok, Err}
use Rattle.std.specs.Str.{bytes_eq}
use Rattle.glsl_tree.specs.Characters.{is_blank}
use Rattle.glsl_tree.specs.Comments.{NoComment, LineComment, BlockComment, OpenComment, comment_at, line_end_len, line_ends}
use Rattle.glsl_tree.specs.Spellings.{class_of, is_within_limits}
use Rattle.glsl_tree.specs.Token.{PlainToken}
use Rattle.glsl_tree.specs.declared.token.Class.{Class}
use Rattle.glsl_tree.specs.declared.token.Class.TheVariants.{Identifier, Keyword, Hash, NewLine, Params}

-- of the fronts of a text that have a class, and have at most n bytes, the longest: its class and its length
unfoldable pub longest : {C : Type 0} → (List ℕ → Option C) → List ℕ → ℕ → Option (C × ℕ)
longest class text zero = elim (class []) [ Some c ↦ Some (c, 0) | None ↦ None ]
longest class text (suc n) = elim (class (take (suc n) text)) [ Some c ↦ Some (c, suc n) | None ↦ longest class text n ]

-- What stands at the front of a text: what parts two tokens, with its length and the number of lines that end in it;
-- a token, with its class and its length; or neither.
pub data Piece : Type 0 where
  Gap : ℕ → ℕ → Piece
  Spelled : Class → ℕ → Piece
  Foreign : Piece

-- the longest token at the front of a text. No shorter one is taken where it is too long or too large.
unfoldable pub token_at : List ℕ → Piece
token_at text = elim (longest class_of text (length text)) [
  | Some found ↦ (if is_within_limits found.0 (take found.1 text) then Spelled found.0 found.1 else Foreign)
  | None ↦ Foreign
]

-- a line end of so many bytes, or a token
abbrev pub end_or_token : List ℕ → ℕ → Piece
end_or_token text zero = token_at text
end_or_token text (suc n) = Spelled NewLine (suc n)

-- what stands at the front of a text that begins with b: a comment, a blank, a line end or a token
unfoldable pub piece_at : ℕ → List ℕ → Piece
piece_at b text = elim (comment_at text) [
  | LineComment n ↦ Gap n 0
  | BlockComment n ↦ Gap n (line_ends (take n text))
  | OpenComment ↦ Foreign
  | NoComment ↦ (if is_blank b then Gap 1 0 else end_or_token text (line_end_len text))
]

-- what is known where a piece begins: the tokens before it, its line, and whether a token ends directly before it
pub record Before : Type 0 where
  pub tokens : List PlainToken
  pub line : ℕ
  pub joined : Bool

abbrev pub is_word : Class → Bool
is_word Identifier = true
is_word Keyword = true
is_word _ = false

abbrev pub is_hash : Class → Bool
is_hash Hash = true
is_hash _ = false

-- three tokens that are `#`, `define` and a name
unfoldable pub is_definition : List PlainToken → Bool
is_definition (hash ∷ define ∷ name ∷ []) = is_hash hash.class && bytes_eq define.text (codes "define") && is_word name.class
is_definition _ = false

-- Whether a text is the `(` of a macro's parameters: directly behind the name that a `#define` defines.
unfoldable pub opens_parameters : Before → List ℕ → Bool
opens_parameters before text = bytes_eq text (codes "(") && before.joined && is_definition (drop (length before.tokens - 3) before.tokens)

abbrev pub token_of : Before → Class → List ℕ → PlainToken
token_of before class text = record { text = text; class = if opens_parameters before text then Params else class; line = before.line }

abbrev pub lines_of : Class → ℕ
lines_of NewLine = 1
lines_of _ = 0

-- what is known behind a token
unfoldable pub after_token : Before → Class → List ℕ → Before
after_token before class text = record {
  tokens = before.tokens ++ token_of before class text ∷ [];
  line = before.line + lines_of class;
  joined = true;
}

-- what is known behind a gap in which so many lines end
unfoldable pub after_gap : Before → ℕ → Before
after_gap before lines = record { tokens = before.tokens; line = before.line + lines; joined = false }

-- The tokens of a text, behind those before it, or the line at which neither a token nor a gap begins. The first k bytes
-- belong to the piece before.
unfoldable pub tokens_from : Before → ℕ → List ℕ → Result (List PlainToken) ℕ
tokens_from before k [] = Ok before.tokens
tokens_from before (suc k) (b ∷ bytes) = tokens_from before k bytes
tokens_from before zero (b ∷ bytes) = elim (piece_at b (b ∷ bytes)) [
  | Gap n lines ↦ tokens_from (after_gap before lines) (n - 1) bytes
  | Spelled class n ↦ tokens_from (after_token before class (take n (b ∷ bytes))) (n - 1) bytes
  | Foreign ↦ Err before.line
]

abbrev pub at_start : Before
at_start = record { tokens = []; line = 1; joined = false }

-- the tokens of a source by longest match, or the line at which no token begins or a comment is not closed
abbrev pub source_tokens : List ℕ → Result (List PlainToken) ℕ
source_tokens source = tokens_from at_start 0 source

-- the source has these tokens
abbrev pub SourceTokens : List ℕ → List PlainToken → Type 0
SourceTokens source tokens = source_tokens source ≡ Ok tokens
