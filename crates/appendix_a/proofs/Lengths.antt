-- The lengths of lists of tokens.
use Rattle.std.proofs.Common.{◌≤◌, Bool, true, false, List, [], ◌∷◌, length, map, arith, length-append}
use Rattle.std.proofs.lemmas.List.{length-map}
use Rattle.glsl_tree.specs.declared.declarations.Declarator.{Declarator}
use Rattle.glsl_tree.specs.declared.declarations.Declarator.TheVariants as declarator
use Rattle.glsl_tree.specs.Declarations.{declarator_tokens}
use Rattle.glsl_tree.specs.Expressions.{listed, separated}
use Rattle.glsl_tree.specs.Token.{PlainToken}
use Rattle.glsl_tree.specs.Types.{joined}

-- commas only add to a list
within_listed : (first : Bool) (parts : List (List PlainToken)) → length (joined parts) ≤ length (listed first parts)
within_listed first [] = omega arith
within_listed true (part ∷ more) = simp length-append (omega (arith, within_listed false more))
within_listed false (part ∷ more) = simp length-append (omega (arith, within_listed false more))

pub within_separated : (parts : List (List PlainToken)) → length (joined parts) ≤ length (separated parts)
within_separated parts = within_listed true parts

-- each declarator has a token
some_declarator : (d : Declarator) → 1 ≤ length (declarator_tokens d)
some_declarator (declarator.Name text) = omega arith
some_declarator (declarator.Array text size) = omega arith
some_declarator (declarator.Initialized text value) = omega arith

some_declarators : (all : List Declarator) → length all ≤ length (joined (map declarator_tokens all))
some_declarators [] = omega arith
some_declarators (d ∷ more) = simp length-append (omega (arith, some_declarator d, some_declarators more))

pub within_declarators : (all : List Declarator) → length all ≤ length (separated (map declarator_tokens all))
within_declarators all = omega (arith, some_declarators all, within_separated (map declarator_tokens all))

pub ruleset of_lengths = (length-append, within_separated, within_declarators)

-- of the tokens of a tree
pub ruleset of_tokens = (length-map)
