-- Declarations (GLSL ES 1.00.17 chapter 4 and section 6.1, and `declaration` of chapter 9): how each is spelled, what may
-- stand in it, and its height.
use Rattle.std.specs.Prelude.{ℕ, ◌+◌, max, Bool, true, false, not, ◌&&◌, ◌||◌, List, [], ◌∷◌, ◌++◌, map, codes, Option, Some, None}
use Rattle.std.specs.List.{list_all}
use Rattle.glsl_tree.specs.declared.declarations.TypeSpecifier.{TypeSpecifier, out-TypeSpecifier}
use Rattle.glsl_tree.specs.declared.declarations.TypeSpecifier.TheOpen.{TypeSpecifier-F}
use Rattle.glsl_tree.specs.declared.declarations.FullType.{FullType}
use Rattle.glsl_tree.specs.declared.declarations.Declarator.{Declarator}
use Rattle.glsl_tree.specs.declared.declarations.Declarator.TheVariants as declarator
use Rattle.glsl_tree.specs.declared.declarations.Parameter.{Parameter}
use Rattle.glsl_tree.specs.declared.declarations.Parameters.{Parameters}
use Rattle.glsl_tree.specs.declared.declarations.Parameters.TheVariants as parameters
use Rattle.glsl_tree.specs.declared.declarations.Head.{Head}
use Rattle.glsl_tree.specs.declared.declarations.Decl.{Decl}
use Rattle.glsl_tree.specs.declared.declarations.Decl.TheVariants as declaration
use Rattle.glsl_tree.specs.declared.qualifiers.Precision.{Precision}
use Rattle.glsl_tree.specs.Operators.{assignment_level, conditional_level}
use Rattle.glsl_tree.specs.Qualifiers.{precision_text}
use Rattle.glsl_tree.specs.Expressions.{mark, word, name, separated, expression_tokens, is_expression, expression_height, is_free, highest}
use Rattle.glsl_tree.specs.Types.{name_tokens, precision_tokens, direction_tokens, storage_tokens, size_tokens, type_tokens, is_free_or_absent, is_size, is_any, is_type, size_height, type_height}
use Rattle.glsl_tree.specs.Token.{PlainToken}

-- the tokens of a type with its qualifiers (section 4.7)
abbrev pub full_type_tokens : FullType → List PlainToken
full_type_tokens full = storage_tokens full.storage ++ (precision_tokens full.precision ++ type_tokens full.kind)

-- the tokens of what a declaration declares beside its type
abbrev pub declarator_tokens : Declarator → List PlainToken
declarator_tokens (declarator.Name text) = name text ∷ []
declarator_tokens (declarator.Array text size) = name text ∷ size_tokens (Some size)
declarator_tokens (declarator.Initialized text value) = name text ∷ mark (codes "=") ∷ expression_tokens value

-- the `const` of a parameter
abbrev pub constant_tokens : Bool → List PlainToken
constant_tokens true = word (codes "const") ∷ []
constant_tokens false = []

-- the tokens of a parameter (section 6.1.1)
abbrev pub parameter_tokens : Parameter → List PlainToken
parameter_tokens p = constant_tokens p.is_constant ++ (direction_tokens p.direction
    ++ (precision_tokens p.precision ++ (type_tokens p.kind ++ (name_tokens p.name ++ size_tokens p.size))))

-- the tokens in the brackets of a function's head
abbrev pub parameters_tokens : Parameters → List PlainToken
parameters_tokens parameters.Void = word (codes "void") ∷ []
parameters_tokens (parameters.Listed all) = separated (map parameter_tokens all)

-- the tokens of a function's head (section 6.1)
abbrev pub head_tokens : Head → List PlainToken
head_tokens head =
    full_type_tokens head.full_type ++ (name head.name ∷ mark (codes "(") ∷ (parameters_tokens head.parameters ++ mark (codes ")") ∷ []))

-- a name alone
abbrev pub one_name : List ℕ → List PlainToken
one_name text = name text ∷ []

-- the tokens of a declaration
abbrev pub declaration_tokens : Decl → List PlainToken
declaration_tokens (declaration.Prototype head) = head_tokens head ++ mark (codes ";") ∷ []
declaration_tokens (declaration.Precision precision kind) =
    word (codes "precision") ∷ word (precision_text precision) ∷ (type_tokens kind ++ mark (codes ";") ∷ [])
declaration_tokens (declaration.Invariant names) =
    word (codes "invariant") ∷ (separated (map one_name names) ++ mark (codes ";") ∷ [])
declaration_tokens (declaration.Variables full declarators) =
    full_type_tokens full ++ (separated (map declarator_tokens declarators) ++ mark (codes ";") ∷ [])

-- whether a type with its qualifiers is well formed
abbrev pub is_full_type : FullType → Bool
is_full_type full = is_type full.kind

-- whether a declarator is well formed
abbrev pub is_declarator : Declarator → Bool
is_declarator (declarator.Name text) = is_free text
is_declarator (declarator.Array text size) = is_free text && is_expression conditional_level size
is_declarator (declarator.Initialized text value) = is_free text && is_expression assignment_level value

-- whether an option has no value
abbrev pub is_absent : {A : Type 0} → Option A → Bool
is_absent None = true
is_absent (Some a) = false

-- whether one layer of a type is `void`
abbrev pub is_void_layer : {A B : Type 0} → TypeSpecifier-F A B → Bool
is_void_layer TypeSpecifier-F.Void = true
is_void_layer _ = false

-- whether a type is `void`
unfoldable pub is_void : TypeSpecifier → Bool
is_void kind = is_void_layer (out-TypeSpecifier kind)

-- whether a parameter is `void` alone, which is none (section 6.1)
abbrev pub is_void_alone : Parameter → Bool
is_void_alone p =
    not p.is_constant && (is_absent p.direction && (is_absent p.precision && (is_void p.kind && (is_absent p.name && is_absent p.size))))

-- whether a parameter is well formed
abbrev pub is_parameter : Parameter → Bool
is_parameter p = is_type p.kind && (is_free_or_absent p.name && (is_size p.size && not (is_void_alone p)))

-- whether what stands in the brackets of a head is well formed
abbrev pub are_parameters : Parameters → Bool
are_parameters parameters.Void = true
are_parameters (parameters.Listed all) = list_all is_parameter all

-- whether a function's head is well formed
abbrev pub is_head : Head → Bool
is_head head = is_full_type head.full_type && (is_free head.name && are_parameters head.parameters)

-- whether one layer of a type is a name
abbrev pub is_name_layer : {A B : Type 0} → TypeSpecifier-F A B → Bool
is_name_layer (TypeSpecifier-F.Name text) = true
is_name_layer _ = false

-- whether a type is a name
unfoldable pub is_named : TypeSpecifier → Bool
is_named kind = is_name_layer (out-TypeSpecifier kind)

-- whether a type with its qualifiers begins with a name
abbrev pub begins_with_name : FullType → Bool
begins_with_name full = is_absent full.storage && (is_absent full.precision && is_named full.kind)

-- whether a declaration is well formed: it may have no declarator only where it does not begin with a name
abbrev pub is_declaration : Decl → Bool
is_declaration (declaration.Prototype head) = is_head head
is_declaration (declaration.Precision precision kind) = is_type kind
is_declaration (declaration.Invariant names) = is_any names && list_all is_free names
is_declaration (declaration.Variables full declarators) =
    is_full_type full && (list_all is_declarator declarators && (is_any declarators || not (begins_with_name full)))

-- the height of a type with its qualifiers
abbrev pub full_type_height : FullType → ℕ
full_type_height full = type_height full.kind + 1

-- the height of a declarator
abbrev pub declarator_height : Declarator → ℕ
declarator_height (declarator.Name text) = 1
declarator_height (declarator.Array text size) = size_height (Some size) + 1
declarator_height (declarator.Initialized text value) = expression_height value + 1

-- the height of a parameter
abbrev pub parameter_height : Parameter → ℕ
parameter_height p = max (type_height p.kind) (size_height p.size) + 1

-- the height of the highest parameter
abbrev pub parameters_height : Parameters → ℕ
parameters_height parameters.Void = 0
parameters_height (parameters.Listed all) = highest (map parameter_height all)

-- the height of a function's head
abbrev pub head_height : Head → ℕ
head_height head = max (full_type_height head.full_type) (parameters_height head.parameters) + 1

-- the height of a declaration
abbrev pub declaration_height : Decl → ℕ
declaration_height (declaration.Prototype head) = head_height head + 1
declaration_height (declaration.Precision precision kind) = type_height kind + 1
declaration_height (declaration.Invariant names) = 1
declaration_height (declaration.Variables full declarators) = max (full_type_height full) (highest (map declarator_height declarators)) + 1
