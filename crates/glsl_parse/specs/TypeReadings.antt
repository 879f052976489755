-- Types (GLSL ES 1.00.17 section 4.1) and qualifiers (sections 4.3, 4.5 and 6.1.1), read from the left.
use Rattle.std.specs.Prelude.{ℕ, zero, suc, if◌then◌else◌, List, [], ◌∷◌, ◌++◌, codes, Option, Some, None}
use Rattle.glsl_tree.specs.declared.declarations.SizedName.{SizedName}
use Rattle.glsl_tree.specs.declared.declarations.TypeSpecifier.{TypeSpecifier}
use Rattle.glsl_tree.specs.declared.declarations.TypeSpecifier.TheVariants as kind
use Rattle.glsl_tree.specs.declared.declarations.Member.{Member, roll-Member}
use Rattle.glsl_tree.specs.declared.declarations.FullType.{FullType}
use Rattle.glsl_tree.specs.declared.expressions.Expr.{Expr}
use Rattle.glsl_tree.specs.declared.qualifiers.Basic.{Basic}
use Rattle.glsl_tree.specs.declared.qualifiers.Precision.{Precision}
use Rattle.glsl_tree.specs.declared.qualifiers.Direction.{Direction}
use Rattle.glsl_tree.specs.declared.qualifiers.Storage.{Storage}
use Rattle.glsl_tree.specs.declared.qualifiers.Storage.TheVariants as storage
use Rattle.glsl_tree.specs.Operators.{conditional_level}
use Rattle.glsl_tree.specs.Token.{PlainToken}
use Rattle.glsl_parse.specs.Readings.{Reads, after, past, made, below, Turn, Stop, Go, looped}
use Rattle.glsl_parse.specs.Symbols.{is_word, is_name, basic_of, precision_of, direction_of, after_mark, after_word, begins_with_mark, name_at}
use Rattle.glsl_parse.specs.ExpressionReadings.{expression, listed}

-- what may stand at the front of a list, and the tokens that follow
abbrev pub Allows : Type 0 → Type 0
Allows A = List PlainToken → Option A × List PlainToken

-- what was found at the front of a list, or nothing and the whole list
abbrev pub or_absent : {A : Type 0} → Option (A × List PlainToken) → List PlainToken → Option A × List PlainToken
or_absent None list = (None, list)
or_absent (Some found) list = (Some found.0, found.1)

-- what was found in the first token, or nothing and the whole list
abbrev pub first_or_absent : {A : Type 0} → Option A → PlainToken → Allows A
first_or_absent None t rest = (None, t ∷ rest)
first_or_absent (Some a) t rest = (Some a, rest)

-- a precision that may be left out (section 4.5.2)
unfoldable pub precision_at : Allows Precision
precision_at [] = (None, [])
precision_at (t ∷ rest) = first_or_absent (precision_of t) t rest

-- a direction that may be left out (section 6.1.1)
unfoldable pub direction_at : Allows Direction
direction_at [] = (None, [])
direction_at (t ∷ rest) = first_or_absent (direction_of t) t rest

-- a name that may be left out
unfoldable pub optional_name : Allows (List ℕ)
optional_name list = or_absent (name_at list) list

-- a storage qualifier that is one word (section 4.3)
unfoldable pub storage_of : PlainToken → Option Storage
storage_of t =
    if is_word (codes "const") t then Some storage.Const
    else (if is_word (codes "attribute") t then Some storage.Attribute
    else (if is_word (codes "varying") t then Some storage.Varying
    else (if is_word (codes "uniform") t then Some storage.Uniform else None)))

-- the tokens after `invariant varying` (section 4.6.1)
unfoldable pub after_invariant_varying : List PlainToken → Option (List PlainToken)
after_invariant_varying list = elim (after_word (codes "invariant") list) [
  | Some rest ↦ after_word (codes "varying") rest
  | None ↦ None
]

abbrev pub word_storage_at : Allows Storage
word_storage_at [] = (None, [])
word_storage_at (t ∷ rest) = first_or_absent (storage_of t) t rest

-- a storage qualifier that may be left out (section 4.3)
unfoldable pub storage_at : Allows Storage
storage_at list = elim (after_invariant_varying list) [
  | Some rest ↦ (Some storage.InvariantVarying, rest)
  | None ↦ word_storage_at list
]

-- what an array size in square brackets is, after its bracket (section 4.1.9)
unfoldable pub size_after : ℕ → Reads Expr
size_after n list = after (expression n conditional_level list) (λ size rest.
    past (after_mark (codes "]") rest) (λ rest. Some (size, rest)))

-- an array size that may be left out, of at most this height
unfoldable pub optional_size : ℕ → Reads (Option Expr)
optional_size room list = elim (after_mark (codes "[") list) [
  | None ↦ Some (None, list)
  | Some rest ↦ below room (λ n. made Some (size_after n rest))
]

-- a name with its size
abbrev pub sized : List ℕ → Option Expr → SizedName
sized text size = record { name = text; size = size }

-- a name with an optional array size, where the size has at most this height
unfoldable pub sized_name : ℕ → Reads SizedName
sized_name n list = after (name_at list) (λ text rest. made (sized text) (optional_size n rest))

-- one more line of members, unless the structure ends here
unfoldable pub more_members : Reads Member → List Member → List PlainToken → Turn (List Member)
more_members line done list = if begins_with_mark (codes "}") list then Stop else Go (made (λ m. done ++ m ∷ []) (line list))

-- the lines of members before a closing brace
abbrev pub members : Reads Member → Reads (List Member)
members line list = looped (more_members line) [] list

-- a structure, after `struct` (section 4.1.8)
unfoldable pub structure : Reads Member → Reads TypeSpecifier
structure line list =
    let named = optional_name list in
    past (after_mark (codes "{") named.1) (λ rest. after (members line rest) (λ members rest.
    past (after_mark (codes "}") rest) (λ rest. Some (kind.Struct named.0 members, rest))))

-- a type of one token
unfoldable pub type_word : PlainToken → Option TypeSpecifier
type_word t = elim (basic_of t) [
  | Some basic ↦ Some (kind.Basic basic)
  | None ↦ if is_word (codes "void") t then Some kind.Void else (if is_name t then Some (kind.Name t.text) else None)
]

-- a type of one token, or nothing
abbrev pub alone : Option TypeSpecifier → Reads TypeSpecifier
alone None list = None
alone (Some k) list = Some (k, list)

-- a type, where this reads a line of members
unfoldable pub type_of : Reads Member → Reads TypeSpecifier
type_of line [] = None
type_of line (t ∷ rest) = if is_word (codes "struct") t then structure line rest else alone (type_word t) rest

-- a line of members (section 4.1.8), where the sizes have at most this height, and this reads a type
unfoldable pub member_of : ℕ → Reads TypeSpecifier → Reads Member
member_of n kinds list =
    let precision = precision_at list in
    after (kinds precision.1) (λ k rest. after (listed (sized_name n) rest) (λ names rest.
    past (after_mark (codes ";") rest) (λ rest.
    Some (roll-Member (record { precision = precision.0; kind = k; names = names }), rest))))

unfoldable mutual
  -- a type of at most this height
  pub type_specifier : ℕ → Reads TypeSpecifier
  type_specifier zero list = None
  type_specifier (suc n) list = type_of (member n) list

  -- a line of members of at most this height
  pub member : ℕ → Reads Member
  member zero list = None
  member (suc n) list = member_of n (type_specifier n) list

-- a type with its qualifiers
abbrev pub qualified : Option Storage → Option Precision → TypeSpecifier → FullType
qualified storage precision k = record { storage = storage; precision = precision; kind = k }

-- a type with its qualifiers (section 4.7), of at most this height
unfoldable pub full_type : ℕ → Reads FullType
full_type room list =
    let storage = storage_at list in
    let precision = precision_at storage.1 in
    below room (λ n. made (qualified storage.0 precision.0) (type_specifier n precision.1))
