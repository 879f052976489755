-- The table of the declared names while it is filled.
use Rattle.std.specs.Prelude.{ℕ, Bool, not, ◌&&◌, if◌then◌else◌, List, [], ◌∷◌, ◌++◌, map, take, codes, Option}
use Rattle.std.specs.Option.{option_map_or}
use Rattle.glsl_tree.specs.declared.declarations.Declarator.{Declarator}
use Rattle.glsl_tree.specs.declared.declarations.FullType.{FullType}
use Rattle.glsl_tree.specs.declared.statements.Condition.{Condition}
use Rattle.glsl_tree.specs.Declarations.{declarator_tokens, full_type_tokens}
use Rattle.glsl_tree.specs.Expressions.{mark, separated}
use Rattle.glsl_tree.specs.Token.{PlainToken}
use Rattle.appendix_a.specs.declared.table.Table as code
use Rattle.appendix_a.specs.Names.{Declared, condition_names, is_uniform}
use Rattle.appendix_a.specs.Table.{of_entry}

-- the names so far: what a built-in name is, and then the declared ones
abbrev pub names_in : code.Table → Declared
names_in t = map (of_entry t.items.now) (take t.next t.entries)

-- the entry of the variables of a declaration, whose type has a sampler or not
abbrev pub variable_entry : Bool → FullType → ℕ
variable_entry sampler full = if is_uniform full.storage && not sampler then 2 else 0

-- the names that a condition declares that may be left out
abbrev pub optional_condition_names : Option Condition → Declared
optional_condition_names test = option_map_or condition_names test []

-- the tokens of a declaration of variables
abbrev pub variables_tokens : FullType → List Declarator → List PlainToken
variables_tokens full all = full_type_tokens full ++ (separated (map declarator_tokens all) ++ mark (codes ";") ∷ [])
