-- Declarations (GLSL ES 1.00.17 chapter 4 and section 6.1, and `declaration` of chapter 9), read from the left.
use Rattle.std.specs.Prelude.{ℕ, Bool, true, false, not, ◌&&◌, ◌||◌, if◌then◌else◌, nat_le, List, [], ◌∷◌, codes, Option, Some, None, is_some}
use Rattle.glsl_tree.specs.declared.declarations.TypeSpecifier.{TypeSpecifier}
use Rattle.glsl_tree.specs.declared.declarations.FullType.{FullType}
use Rattle.glsl_tree.specs.declared.declarations.Declarator.{Declarator}
use Rattle.glsl_tree.specs.declared.declarations.Declarator.TheVariants as declarator
use Rattle.glsl_tree.specs.declared.declarations.Parameter.{Parameter}
use Rattle.glsl_tree.specs.declared.declarations.Parameters.{Parameters}
use Rattle.glsl_tree.specs.declared.declarations.Parameters.TheVariants as parameters
use Rattle.glsl_tree.specs.declared.declarations.Head.{Head}
use Rattle.glsl_tree.specs.declared.declarations.Decl.{Decl}
use Rattle.glsl_tree.specs.declared.declarations.Decl.TheVariants as declaration
use Rattle.glsl_tree.specs.declared.expressions.Expr.{Expr}
use Rattle.glsl_tree.specs.declared.qualifiers.Precision.{Precision}
use Rattle.glsl_tree.specs.declared.qualifiers.Direction.{Direction}
use Rattle.glsl_tree.specs.Operators.{assignment_level}
use Rattle.glsl_tree.specs.Declarations.{is_void_alone, begins_with_name, full_type_height}
use Rattle.glsl_tree.specs.Token.{PlainToken}
use Rattle.glsl_parse.specs.Readings.{Reads, after, past, made, below}
use Rattle.glsl_parse.specs.Symbols.{is_word, is_name, basic_of, precision_of, after_mark, after_word, begins_with_mark, name_at}
use Rattle.glsl_parse.specs.ExpressionReadings.{expression, listed}
use Rattle.glsl_parse.specs.TypeReadings.{precision_at, direction_at, optional_name, storage_of, size_after, optional_size, type_specifier, full_type}
use Rattle.glsl_parse.specs.declared.symbols.Begun.{Begun}
use Rattle.glsl_parse.specs.declared.symbols.Begun.TheVariants as begun

-- a name with what is declared with it, where its parts have at most this height
unfoldable pub declarator_of : ℕ → List ℕ → Reads Declarator
declarator_of n text list = elim (after_mark (codes "[") list) [
  | Some rest ↦ below n (λ m. made (declarator.Array text) (size_after m rest))
  | None ↦ elim (after_mark (codes "=") list) [
    | Some rest ↦ made (declarator.Initialized text) (expression n assignment_level rest)
    | None ↦ Some (declarator.Name text, list)
  ]
]

-- what a declaration declares beside its type, where the parts have at most this height
unfoldable pub declarator_at : ℕ → Reads Declarator
declarator_at n list = after (name_at list) (declarator_of n)

-- the declarators of a declaration, each of at most this height, of which there may be none
unfoldable pub declarators : ℕ → Reads (List Declarator)
declarators room list = if begins_with_mark (codes ";") list then Some ([], list) else below room (λ n. listed (declarator_at n) list)

-- the `const` of a parameter
unfoldable pub constant_at : List PlainToken → Bool × List PlainToken
constant_at list = elim (after_word (codes "const") list) [ Some rest ↦ (true, rest) | None ↦ (false, list) ]

-- a parameter that is one: `void` alone is none (section 6.1)
abbrev pub unless_void : Option (Parameter × List PlainToken) → Option (Parameter × List PlainToken)
unless_void None = None
unless_void (Some found) = if is_void_alone found.0 then None else Some found

abbrev pub parameter_of : Bool → Option Direction → Option Precision → TypeSpecifier → Option (List ℕ) → Option Expr → Parameter
parameter_of is_constant direction precision k text size =
    record { is_constant = is_constant; direction = direction; precision = precision; kind = k; name = text; size = size }

-- a parameter (section 6.1.1), where its parts have at most this height
unfoldable pub parameter_at : ℕ → Reads Parameter
parameter_at n list =
    let constant = constant_at list in
    let direction = direction_at constant.1 in
    let precision = precision_at direction.1 in
    unless_void (after (type_specifier n precision.1) (λ k rest.
    let text = optional_name rest in
    made (parameter_of constant.0 direction.0 precision.0 k text.0) (optional_size n text.1)))

-- whether `void` alone stands in the brackets of a head
unfoldable pub after_void : List PlainToken → Option (List PlainToken)
after_void list = elim (after_word (codes "void") list) [ Some rest ↦ after_mark (codes ")") rest | None ↦ None ]

-- one parameter or more, each of at most this height, and the bracket that closes them
unfoldable pub listed_parameters : ℕ → Reads Parameters
listed_parameters room list = below room (λ n. after (listed (parameter_at n) list) (λ all rest.
    past (after_mark (codes ")") rest) (λ rest. Some (parameters.Listed all, rest))))

-- what stands in the brackets of a head, after the opening bracket, with the closing one
unfoldable pub parameters_at : ℕ → Reads Parameters
parameters_at room list = elim (after_mark (codes ")") list) [
  | Some rest ↦ Some (parameters.Listed [], rest)
  | None ↦ elim (after_void list) [
    | Some rest ↦ Some (parameters.Void, rest)
    | None ↦ listed_parameters room list
  ]
]

-- a function's head of its type, name and parameters
abbrev pub headed : FullType → List ℕ → Parameters → Head
headed full text all = record { full_type = full; name = text; parameters = all }

-- whether a name and an opening bracket stand here, which begin a function's head after its type
unfoldable pub begins_head : List PlainToken → Bool
begins_head [] = false
begins_head (t ∷ rest) = is_name t && begins_with_mark (codes "(") rest

-- whether a type fits into a head whose parts have at most this height
abbrev pub full_fits : ℕ → FullType → Bool
full_fits n full = nat_le (full_type_height full) n

-- a function's head of at most this height, after its type, its name and the opening bracket
unfoldable pub parameters_after : ℕ → FullType → List ℕ → Reads Head
parameters_after room full text list = below room (λ n.
    if full_fits n full then made (headed full text) (parameters_at n list) else None)

-- a function's head of at most this height (section 6.1), after its type
unfoldable pub head_after : ℕ → FullType → Reads Head
head_after room full list = after (name_at list) (λ text rest.
    past (after_mark (codes "(") rest) (parameters_after room full text))

-- a declaration may have no declarator only where it does not begin with a name
unfoldable pub is_declared : FullType → List Declarator → Bool
is_declared full [] = not (begins_with_name full)
is_declared full (d ∷ more) = true

-- what is declared with a type (section 4.3), where the parts have at most this height, with the semicolon
unfoldable pub variables_after : ℕ → FullType → Reads Decl
variables_after n full list = after (declarators n list) (λ all rest.
    past (after_mark (codes ";") rest) (λ rest. if is_declared full all then Some (declaration.Variables full all, rest) else None))

-- what stands after a type: a function's head, without what ends it, or the whole declaration
unfoldable pub begun_after : ℕ → FullType → Reads Begun
begun_after n full list =
    if begins_head list then made begun.Headed (head_after n full list) else made begun.Whole (variables_after n full list)

-- a default precision (section 4.5.3), after `precision`
unfoldable pub precision_declared : ℕ → Reads Decl
precision_declared n [] = None
precision_declared n (t ∷ rest) = elim (precision_of t) [
  | None ↦ None
  | Some precision ↦ after (type_specifier n rest) (λ k rest.
      past (after_mark (codes ";") rest) (λ rest. Some (declaration.Precision precision k, rest)))
]

-- names that become invariant (section 4.6.1), after `invariant`
unfoldable pub invariant_declared : Reads Decl
invariant_declared list = after (listed name_at list) (λ names rest.
    past (after_mark (codes ";") rest) (λ rest. Some (declaration.Invariant names, rest)))

-- the tokens after an `invariant` that begins a declaration of names: `varying` does not follow it
unfoldable pub after_invariant : List PlainToken → Option (List PlainToken)
after_invariant list = elim (after_word (codes "invariant") list) [
  | None ↦ None
  | Some rest ↦ elim (after_word (codes "varying") rest) [ None ↦ Some rest | Some more ↦ None ]
]

-- a declaration, or a function's head without what ends it, where the parts have at most this height
unfoldable pub begun_at : ℕ → Reads Begun
begun_at n list = elim (after_word (codes "precision") list) [
  | Some rest ↦ made begun.Whole (precision_declared n rest)
  | None ↦ elim (after_invariant list) [
    | Some rest ↦ made begun.Whole (invariant_declared rest)
    | None ↦ after (full_type n list) (begun_after n)
  ]
]

-- a declaration that has begun, with what ends it
abbrev pub ended : Begun → Reads Decl
ended (begun.Whole d) list = Some (d, list)
ended (begun.Headed head) list = past (after_mark (codes ";") list) (λ rest. Some (declaration.Prototype head, rest))

-- a declaration of at most this height
unfoldable pub declaration_at : ℕ → Reads Decl
declaration_at room list = below room (λ n. after (begun_at n list) ended)

-- whether a token begins a declaration, whatever follows it
unfoldable pub begins_declaration : PlainToken → Bool
begins_declaration t =
    is_some (storage_of t) || (is_some (precision_of t)
    || (is_word (codes "invariant") t || (is_word (codes "precision") t || (is_word (codes "void") t || is_word (codes "struct") t))))

-- whether a list begins with a name
abbrev pub begins_with_a_name : List PlainToken → Bool
begins_with_a_name [] = false
begins_with_a_name (t ∷ rest) = is_name t

-- Whether a declaration begins here, and no expression: a basic type begins an expression only where it is called, and a
-- name begins a declaration only where another name follows it.
unfoldable pub declares : List PlainToken → Bool
declares [] = false
declares (t ∷ rest) =
    begins_declaration t
    || ((is_some (basic_of t) && not (begins_with_mark (codes "(") rest)) || (is_name t && begins_with_a_name rest))
