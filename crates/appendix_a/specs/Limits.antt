-- The limits on a shader (GLSL ES 1.00.17 appendix A). The rules, each with the definition that has it:
--    1  there is no `while` and no `do` (section 4)                                      Statements, refused
--    2  a `for` begins with one int or float index and a constant (section 4)            Statements, begin
--    3  its condition compares the index with a constant (section 4)                     Statements, compared_rule
--    4  its step adds a constant to the index, or subtracts one (section 4)              Statements, stepped_rule
--    5  its body doesn't assign the index, nor pass it to get a value back (section 4)   Expressions, assigned_rule and call_rule
--    6  an index is made of constants and loop indices (section 5)                       Expressions, index_rule
use Rattle.std.specs.Prelude.{ℕ, [], map, Option, Some, None, Result, Ok, Err}
use Rattle.gl_numbers.specs.declared.kinds.Stage.{Stage}
use Rattle.glsl_tree.specs.declared.statements.Item.{Item}
use Rattle.glsl_tree.specs.declared.statements.Item.TheVariants as item
use Rattle.glsl_tree.specs.declared.statements.Unit as shader
use Rattle.glsl_types.specs.declared.facts.Facts.{Facts}
use Rattle.appendix_a.specs.Ahead.{Ahead, facts_ahead}
use Rattle.appendix_a.specs.Names.{named_at}
use Rattle.appendix_a.specs.Site.{Site}
use Rattle.appendix_a.specs.Declarations.{Passage, both, declaration_passage, head_passage, in_order}
use Rattle.appendix_a.specs.Statements.{statement}

-- a declaration or a function
abbrev pub item_passage : Item → Passage
item_passage (item.Declaration d) = declaration_passage d
item_passage (item.Function h body) = both (head_passage h) (in_order (map statement body))

-- outside of all loops
abbrev pub outside : shader.Unit → Stage → Site
outside unit stage = record { named = named_at unit; stage = stage; loops = []; header = None }

-- the rule that ended a walk, if one did
abbrev pub broken : Result Ahead ℕ → Option ℕ
broken (Ok after) = None
broken (Err number) = Some number

-- the first rule that a shader breaks in source order, by its number, or none
unfoldable pub limits : shader.Unit → Facts → Stage → Option ℕ
limits unit facts stage = broken (in_order (map item_passage unit.items) (outside unit stage) (facts_ahead facts))
