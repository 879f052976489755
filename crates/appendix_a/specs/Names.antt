-- The names that a shader declares, fields aside, numbered from 1 in source order, and what each of them is (GLSL ES 1.00.17
-- section 4.2).
use Rattle.std.specs.Prelude.{ℕ, ◌-◌, ◌==◌, Bool, true, false, not, ◌&&◌, if◌then◌else◌, List, [], ◌∷◌, ◌++◌, map, length, replicate, Option, Some, None, slice_index_or}
use Rattle.std.specs.List.{list_any}
use Rattle.std.specs.Option.{option_map_or}
use Rattle.std.specs.Str.{bytes_eq}
use Rattle.glsl_tree.specs.declared.declarations.TypeSpecifier.{TypeSpecifier, out-TypeSpecifier}
use Rattle.glsl_tree.specs.declared.declarations.TypeSpecifier.TheOpen.{TypeSpecifier-F, Member-F}
use Rattle.glsl_tree.specs.declared.declarations.TypeSpecifier.TheFolds.{fold-TypeSpecifier, fold-Member}
use Rattle.glsl_tree.specs.declared.declarations.Member.{Member}
use Rattle.glsl_tree.specs.declared.declarations.FullType.{FullType}
use Rattle.glsl_tree.specs.declared.declarations.Parameter.{Parameter}
use Rattle.glsl_tree.specs.declared.declarations.Parameters.{Parameters}
use Rattle.glsl_tree.specs.declared.declarations.Parameters.TheVariants as parameters
use Rattle.glsl_tree.specs.declared.declarations.Head.{Head}
use Rattle.glsl_tree.specs.declared.declarations.Decl.{Decl}
use Rattle.glsl_tree.specs.declared.declarations.Decl.TheVariants as declaration
use Rattle.glsl_tree.specs.declared.qualifiers.Storage.{Storage}
use Rattle.glsl_tree.specs.declared.qualifiers.Storage.TheVariants as storage
use Rattle.glsl_tree.specs.declared.statements.Condition.{Condition}
use Rattle.glsl_tree.specs.declared.statements.Condition.TheVariants as condition
use Rattle.glsl_tree.specs.declared.statements.Start.{Start}
use Rattle.glsl_tree.specs.declared.statements.Start.TheVariants as start
use Rattle.glsl_tree.specs.declared.statements.Stmt.{Stmt}
use Rattle.glsl_tree.specs.declared.statements.Stmt.TheOpen.{Stmt-F}
use Rattle.glsl_tree.specs.declared.statements.Stmt.TheFolds.{fold-Stmt}
use Rattle.glsl_tree.specs.declared.statements.Item.{Item}
use Rattle.glsl_tree.specs.declared.statements.Item.TheVariants as item
use Rattle.glsl_tree.specs.declared.statements.Unit as shader
use Rattle.glsl_types.specs.Bases.{named, is_sampler}

-- what a name is, as far as the limits ask
pub data Named : Type 0 where
  -- a function, with its parameters
  Function : List Parameter → Named
  -- a structure
  Structure : Named
  -- a uniform that has no sampler
  Uniform : Named

-- names in source order; none is of what the limits do not ask for
abbrev pub Declared : Type 0
Declared = List (Option Named)

-- the structures that are declared outside of functions so far, the last one first: the name of each, and whether it has a
-- sampler
abbrev pub Structures : Type 0
Structures = List (List ℕ × Bool)

-- whether the structure of a name has a sampler
abbrev pub structure_sampler : Structures → List ℕ → Bool
structure_sampler [] name = false
structure_sampler (s ∷ more) name = if bytes_eq s.0 name then s.1 else structure_sampler more name

-- whether a type has a sampler, where this is known of its members
abbrev pub sampler_layer : Structures → TypeSpecifier-F Bool Bool → Bool
sampler_layer structures (TypeSpecifier-F.Basic basic) = is_sampler (named basic)
sampler_layer structures TypeSpecifier-F.Void = false
sampler_layer structures (TypeSpecifier-F.Name name) = structure_sampler structures name
sampler_layer structures (TypeSpecifier-F.Struct name members) = list_any (λ has. has) members

abbrev pub member_sampler : Member-F Bool Bool → Bool
member_sampler m = m.kind

-- whether a type has a sampler (section 4.1.7)
unfoldable pub has_sampler : Structures → TypeSpecifier → Bool
has_sampler structures = fold-TypeSpecifier Bool Bool (sampler_layer structures) member_sampler

-- whether the type of a line of members has a sampler
unfoldable pub member_has_sampler : Structures → Member → Bool
member_has_sampler structures = fold-Member Bool Bool (sampler_layer structures) member_sampler

-- the name of a structure that a type declares, if it has one
abbrev pub declared_in : TypeSpecifier-F TypeSpecifier Member → Option (List ℕ)
declared_in (TypeSpecifier-F.Struct name members) = name
declared_in _ = None

abbrev pub structure_name : TypeSpecifier → Option (List ℕ)
structure_name t = declared_in (out-TypeSpecifier t)

-- the structures with that of a type
abbrev pub with_structure : Structures → TypeSpecifier → Structures
with_structure structures t =
    option_map_or (λ name. (name, has_sampler structures t) ∷ structures) (structure_name t) structures

-- the names that a type declares
abbrev pub type_names : TypeSpecifier → Declared
type_names t = option_map_or (λ name. Some Structure ∷ []) (structure_name t) []

abbrev pub is_uniform : Option Storage → Bool
is_uniform (Some storage.Uniform) = true
is_uniform _ = false

-- what the variables of a declaration are, whose type has a sampler or not
abbrev pub variable_named : Bool → FullType → Option Named
variable_named sampler full = if is_uniform full.storage && not sampler then Some Uniform else None

-- the names of some parts in order
abbrev pub in_turn : List Declared → Declared
in_turn [] = []
in_turn (first ∷ more) = first ++ in_turn more

-- the names that a parameter declares
abbrev pub parameter_names : Parameter → Declared
parameter_names p = type_names p.kind ++ option_map_or (λ name. None ∷ []) p.name []

-- the parameters that are listed
abbrev pub listed : Parameters → List Parameter
listed parameters.Void = []
listed (parameters.Listed all) = all

-- the names that a head declares: the structure of its type, the function and its parameters
abbrev pub head_names : Head → Declared
head_names head =
    type_names head.full_type.kind ++ (Some (Function (listed head.parameters)) ∷ in_turn (map parameter_names (listed head.parameters)))

-- the names that a declaration declares, whose type has a sampler or not
abbrev pub declaration_names : Bool → Decl → Declared
declaration_names sampler (declaration.Prototype head) = head_names head
declaration_names sampler (declaration.Precision precision kind) = type_names kind
declaration_names sampler (declaration.Invariant names) = []
declaration_names sampler (declaration.Variables full declarators) =
    type_names full.kind ++ replicate (length declarators) (variable_named sampler full)

-- the names that a declaration declares inside a function, where no function is declared and no uniform
abbrev pub local_names : Decl → Declared
local_names (declaration.Prototype head) = type_names head.full_type.kind ++ (None ∷ in_turn (map parameter_names (listed head.parameters)))
local_names (declaration.Precision precision kind) = type_names kind
local_names (declaration.Invariant names) = []
local_names (declaration.Variables full declarators) = type_names full.kind ++ replicate (length declarators) None

-- the names that the condition of a loop declares
abbrev pub condition_names : Condition → Declared
condition_names (condition.Expression e) = []
condition_names (condition.Declared full name value) = type_names full.kind ++ None ∷ []

-- the names that the first part of a `for` declares
abbrev pub start_names : Start → Declared
start_names (start.Declaration d) = local_names d
start_names _ = []

-- the names that a statement declares, where those of its parts are these
abbrev pub statement_names_layer : Stmt-F (Declared) → Declared
statement_names_layer (Stmt-F.Block statements) = in_turn statements
statement_names_layer (Stmt-F.Declaration d) = local_names d
statement_names_layer (Stmt-F.If test branch otherwise) = branch ++ option_map_or (λ names. names) otherwise []
statement_names_layer (Stmt-F.While test body) = condition_names test ++ body
statement_names_layer (Stmt-F.Do body test) = body
statement_names_layer (Stmt-F.For first test step body) =
    start_names first ++ (option_map_or condition_names test [] ++ body)
statement_names_layer _ = []

-- the names that a statement declares
unfoldable pub statement_names : Stmt → Declared
statement_names = fold-Stmt (Declared) statement_names_layer

-- the type of a declaration or a function, if it has one
abbrev pub declared_type : Decl → Option TypeSpecifier
declared_type (declaration.Prototype head) = Some head.full_type.kind
declared_type (declaration.Precision precision kind) = Some kind
declared_type (declaration.Invariant names) = None
declared_type (declaration.Variables full declarators) = Some full.kind

abbrev pub item_type : Item → Option TypeSpecifier
item_type (item.Declaration d) = declared_type d
item_type (item.Function head body) = Some head.full_type.kind

-- whether that type has a sampler
abbrev pub item_sampler : Structures → Item → Bool
item_sampler structures i = option_map_or (has_sampler structures) (item_type i) false

-- the structures with that of a declaration or a function
abbrev pub item_structures : Structures → Item → Structures
item_structures structures i = option_map_or (with_structure structures) (item_type i) structures

-- the names that a declaration or a function declares, whose type has a sampler or not
abbrev pub item_names : Bool → Item → Declared
item_names sampler (item.Declaration d) = declaration_names sampler d
item_names sampler (item.Function head body) = head_names head ++ in_turn (map statement_names body)

abbrev pub names_from : Structures → List Item → Declared
names_from structures [] = []
names_from structures (first ∷ more) =
    item_names (item_sampler structures first) first ++ names_from (item_structures structures first) more

-- the names that a shader declares
unfoldable pub names_of : shader.Unit → Declared
names_of unit = names_from [] unit.items

-- what the name of a number is; 0 is of a built-in name
unfoldable pub named_at : shader.Unit → ℕ → Option Named
named_at unit number = if number == 0 then None else slice_index_or (names_of unit) (number - 1) None
