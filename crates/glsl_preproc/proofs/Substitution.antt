-- A replacement with its arguments, one token at a time.
use Rattle.std.proofs.Common.{◌≡◌, ◌<◌, ◌++◌, ℕ, List, [], length, drop, get_or}
use Rattle.glsl_tree.specs.Token.{PlainToken, plain, plain_tokens}
use Rattle.glsl_tree.specs.declared.token.Token.{Token}
use Rattle.glsl_preproc.specs.Replacement.{substituted, argument_of, argument_or, at_line}
use Rattle.glsl_preproc.proofs.Items.{at_first, at_none}

pub substituted_first : (parameters : List (List ℕ)) (arguments : List (List PlainToken)) (line : ℕ) (rest : List Token) (x : Token) → 0 < length rest → x ≡ get_or rest 0 x
    → substituted parameters arguments line (plain_tokens rest) ≡ at_line line (argument_or (argument_of parameters arguments x.text.items) (plain x)) ++ substituted parameters arguments line (plain_tokens (drop 1 rest))
unfolding substituted
substituted_first parameters arguments line rest x h e = at_first (λ l. substituted parameters arguments line (plain_tokens l)) rest x h e

pub substituted_none : (parameters : List (List ℕ)) (arguments : List (List PlainToken)) (line : ℕ) (rest : List Token) → length rest ≡ 0 → substituted parameters arguments line (plain_tokens rest) ≡ []
unfolding substituted
substituted_none parameters arguments line rest h = at_none (λ l. substituted parameters arguments line (plain_tokens l)) rest h
