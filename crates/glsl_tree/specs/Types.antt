-- Types (GLSL ES 1.00.17 section 4.1) and qualifiers (sections 4.3, 4.5 and 6.1.1): how each is spelled, what may stand
-- in it, and its height.
use Rattle.std.specs.Prelude.{ℕ, ◌+◌, max, Bool, true, false, ◌&&◌, List, [], ◌∷◌, ◌++◌, map, codes, Option, Some, None}
use Rattle.std.specs.List.{list_all}
use Rattle.glsl_tree.specs.declared.declarations.SizedName.{SizedName}
use Rattle.glsl_tree.specs.declared.declarations.TypeSpecifier.{TypeSpecifier}
use Rattle.glsl_tree.specs.declared.declarations.TypeSpecifier.TheOpen.{TypeSpecifier-F, Member-F}
use Rattle.glsl_tree.specs.declared.declarations.TypeSpecifier.TheFolds.{fold-TypeSpecifier, fold-Member}
use Rattle.glsl_tree.specs.declared.declarations.Member.{Member}
use Rattle.glsl_tree.specs.declared.expressions.Expr.{Expr}
use Rattle.glsl_tree.specs.declared.qualifiers.Precision.{Precision}
use Rattle.glsl_tree.specs.declared.qualifiers.Direction.{Direction}
use Rattle.glsl_tree.specs.declared.qualifiers.Storage.{Storage}
use Rattle.glsl_tree.specs.declared.qualifiers.Storage.TheVariants as storage
use Rattle.glsl_tree.specs.Operators.{conditional_level}
use Rattle.glsl_tree.specs.Qualifiers.{basic_text, precision_text, direction_text}
use Rattle.glsl_tree.specs.Expressions.{mark, word, name, separated, expression_tokens, is_expression, expression_height, is_free, highest}
use Rattle.glsl_tree.specs.Token.{PlainToken}

-- lists of tokens, one after another
abbrev pub joined : List (List PlainToken) → List PlainToken
joined [] = []
joined (first ∷ more) = first ++ joined more

-- a name that may be left out
abbrev pub name_tokens : Option (List ℕ) → List PlainToken
name_tokens None = []
name_tokens (Some text) = name text ∷ []

-- a precision that may be left out (section 4.5.2)
abbrev pub precision_tokens : Option Precision → List PlainToken
precision_tokens None = []
precision_tokens (Some precision) = word (precision_text precision) ∷ []

-- a direction that may be left out (section 6.1.1)
abbrev pub direction_tokens : Option Direction → List PlainToken
direction_tokens None = []
direction_tokens (Some direction) = word (direction_text direction) ∷ []

-- the words of a storage qualifier (section 4.3), with the invariance of a varying before it (section 4.6.1)
abbrev pub storage_words : Storage → List PlainToken
storage_words storage.Const = word (codes "const") ∷ []
storage_words storage.Attribute = word (codes "attribute") ∷ []
storage_words storage.Varying = word (codes "varying") ∷ []
storage_words storage.InvariantVarying = word (codes "invariant") ∷ word (codes "varying") ∷ []
storage_words storage.Uniform = word (codes "uniform") ∷ []

-- a storage qualifier that may be left out
abbrev pub storage_tokens : Option Storage → List PlainToken
storage_tokens None = []
storage_tokens (Some qualifier) = storage_words qualifier

-- an array size that may be left out (section 4.1.9)
abbrev pub size_tokens : Option Expr → List PlainToken
size_tokens None = []
size_tokens (Some size) = mark (codes "[") ∷ (expression_tokens size ++ mark (codes "]") ∷ [])

-- a name with its size
abbrev pub sized_tokens : SizedName → List PlainToken
sized_tokens sized = name sized.name ∷ size_tokens sized.size

-- the tokens of a type whose members have these tokens (section 4.1.8)
abbrev pub type_layer : TypeSpecifier-F (List PlainToken) (List PlainToken) → List PlainToken
type_layer (TypeSpecifier-F.Basic basic) = word (basic_text basic) ∷ []
type_layer TypeSpecifier-F.Void = word (codes "void") ∷ []
type_layer (TypeSpecifier-F.Name text) = name text ∷ []
type_layer (TypeSpecifier-F.Struct text members) =
    word (codes "struct") ∷ (name_tokens text ++ (mark (codes "{") ∷ (joined members ++ mark (codes "}") ∷ [])))

-- the tokens of a line of members whose type has these tokens
abbrev pub member_layer : Member-F (List PlainToken) (List PlainToken) → List PlainToken
member_layer member =
    precision_tokens member.precision ++ (member.kind ++ (separated (map sized_tokens member.names) ++ mark (codes ";") ∷ []))

-- the tokens that a type is spelled with
unfoldable pub type_tokens : TypeSpecifier → List PlainToken
type_tokens = fold-TypeSpecifier (List PlainToken) (List PlainToken) type_layer member_layer

-- the tokens that a line of members is spelled with
unfoldable pub member_tokens : Member → List PlainToken
member_tokens = fold-Member (List PlainToken) (List PlainToken) type_layer member_layer

-- whether a name that may be left out is a name (section 3.7)
abbrev pub is_free_or_absent : Option (List ℕ) → Bool
is_free_or_absent None = true
is_free_or_absent (Some text) = is_free text

-- whether an array size that may be left out is a `?:` expression or one that binds more tightly
abbrev pub is_size : Option Expr → Bool
is_size None = true
is_size (Some size) = is_expression conditional_level size

-- whether a name with its size is well formed
abbrev pub is_sized : SizedName → Bool
is_sized sized = is_free sized.name && is_size sized.size

-- whether a list has a part
abbrev pub is_any : {A : Type 0} → List A → Bool
is_any [] = false
is_any (first ∷ more) = true

-- whether a type is well formed, where this is known of its members
abbrev pub type_fits : TypeSpecifier-F Bool Bool → Bool
type_fits (TypeSpecifier-F.Basic basic) = true
type_fits TypeSpecifier-F.Void = true
type_fits (TypeSpecifier-F.Name text) = is_free text
type_fits (TypeSpecifier-F.Struct text members) = is_free_or_absent text && list_all (λ fits. fits) members

-- whether a line of members is well formed, where this is known of its type: it has a name or more
abbrev pub member_fits : Member-F Bool Bool → Bool
member_fits member = member.kind && (is_any member.names && list_all is_sized member.names)

-- whether a type is well formed
unfoldable pub is_type : TypeSpecifier → Bool
is_type = fold-TypeSpecifier Bool Bool type_fits member_fits

-- whether a line of members is well formed
unfoldable pub is_member : Member → Bool
is_member = fold-Member Bool Bool type_fits member_fits

-- the height of an array size that may be left out, which is a node
abbrev pub size_height : Option Expr → ℕ
size_height None = 0
size_height (Some size) = expression_height size + 1

-- the height of a type whose members have these heights
abbrev pub type_height_layer : TypeSpecifier-F ℕ ℕ → ℕ
type_height_layer (TypeSpecifier-F.Basic basic) = 1
type_height_layer TypeSpecifier-F.Void = 1
type_height_layer (TypeSpecifier-F.Name text) = 1
type_height_layer (TypeSpecifier-F.Struct text members) = highest members + 1

-- the height of a line of members whose type has this height
abbrev pub member_height_layer : Member-F ℕ ℕ → ℕ
member_height_layer member = max member.kind (highest (map (λ sized. size_height sized.size) member.names)) + 1

-- the number of nodes on the longest path through a type
unfoldable pub type_height : TypeSpecifier → ℕ
type_height = fold-TypeSpecifier ℕ ℕ type_height_layer member_height_layer

-- the number of nodes on the longest path through a line of members
unfoldable pub member_height : Member → ℕ
member_height = fold-Member ℕ ℕ type_height_layer member_height_layer
