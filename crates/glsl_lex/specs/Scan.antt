-- What the scanner knows, and what it answers.
use Rattle.std.specs.Prelude.{◌≡◌, ℕ, List, Result, Ok, Err}
use Rattle.std.specs.Prelude.{Vec}
use Rattle.std.specs.declared.alloc.Global.{Global}
use Rattle.glsl_tree.specs.Token.{PlainToken, plain_tokens}
use Rattle.glsl_tree.specs.SourceTokens.{Before}
use Rattle.glsl_tree.specs.declared.token.Token.{Token}
use Rattle.glsl_lex.specs.declared.scanner.Scanner.{Scanner}
use Rattle.glsl_lex.specs.declared.errors.Lex.{Lex}
use Rattle.glsl_lex.specs.declared.errors.Lex.TheVariants as lex

abbrev pub before : Scanner → Before
before s = record { tokens = plain_tokens s.tokens.items; line = s.line; joined = s.joined }

-- the answer is what a source was read as, unless memory is wanting
abbrev pub Answers : Result (Vec Token Global) Lex → Result (List PlainToken) ℕ → Type 0
Answers (Ok tokens) read = read ≡ Ok (plain_tokens tokens.items)
Answers (Err (lex.Lexical line)) read = read ≡ Err line
Answers (Err lex.Memory) read = Unit {0}
