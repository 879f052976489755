-- How the code keeps what the declared names are: a table of entries, one a number. An entry is 0 of a built-in name and of one that
-- the limits do not ask for, 1 of a structure, 2 of a uniform that has no sampler, and n + 3 of the function that the n-th item of the
-- shader declares.
use Rattle.std.specs.Prelude.{ℕ, ◌-◌, ◌==◌, if◌then◌else◌, List, [], Option, Some, None, slice_get, slice_index_or}
use Rattle.std.specs.Option.{option_map_or}
use Rattle.glsl_tree.specs.declared.declarations.Parameter.{Parameter}
use Rattle.glsl_tree.specs.declared.declarations.Decl.{Decl}
use Rattle.glsl_tree.specs.declared.declarations.Decl.TheVariants as declaration
use Rattle.glsl_tree.specs.declared.statements.Item.{Item}
use Rattle.glsl_tree.specs.declared.statements.Item.TheVariants as item
use Rattle.appendix_a.specs.declared.names.Names as code
use Rattle.appendix_a.specs.Names.{Named, Function, Structure, Uniform, listed}

-- the parameters of the function that an item declares
abbrev pub declared_parameters : Decl → List Parameter
declared_parameters (declaration.Prototype head) = listed head.parameters
declared_parameters _ = []

abbrev pub item_parameters : Item → List Parameter
item_parameters (item.Declaration d) = declared_parameters d
item_parameters (item.Function head body) = listed head.parameters

-- what an entry says
abbrev pub of_entry : List Item → ℕ → Option Named
of_entry items entry =
    if entry == 0 then None
    else (if entry == 1 then Some Structure
    else (if entry == 2 then Some Uniform
    else Some (Function (option_map_or item_parameters (slice_get items (entry - 3)) []))))

-- what the table says of a number
abbrev pub named_in : code.Names → ℕ → Option Named
named_in n number = of_entry n.items.now (slice_index_or n.entries.now number 0)
