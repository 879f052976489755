-- The first token of a type.
use Rattle.std.proofs.Common.{◌≡◌, ℕ, Bool, true, false, List, None, codes, refl, sym, subst}
use Rattle.glsl_tree.specs.declared.declarations.TypeSpecifier.{TypeSpecifier}
use Rattle.glsl_tree.specs.declared.declarations.TypeSpecifier.TheOpen.{TypeSpecifier-F}
use Rattle.glsl_tree.specs.declared.declarations.TypeSpecifier.TheViews.{roll-TypeSpecifier}
use Rattle.glsl_tree.specs.declared.declarations.Member.{Member}
use Rattle.glsl_tree.specs.declared.qualifiers.Basic.{Basic}
use Rattle.glsl_tree.specs.declared.qualifiers.Basic.TheVariants as basic
use Rattle.glsl_tree.specs.declared.qualifiers.Precision.{Precision}
use Rattle.glsl_tree.specs.declared.qualifiers.Precision.TheVariants as precision
use Rattle.glsl_tree.specs.Qualifiers.{basic_text, precision_text}
use Rattle.glsl_tree.specs.Expressions.{word, name, is_free}
use Rattle.glsl_tree.specs.Types.{type_tokens, is_type}
use Rattle.glsl_tree.specs.Token.{PlainToken}
use Rattle.glsl_parse.specs.Symbols.{is_mark, is_word, precision_of, direction_of}
use Rattle.glsl_parse.specs.TypeReadings.{storage_of}
use Rattle.glsl_parse.proofs.TypeNodes.{tokens_of, fits_of, height_of, from_layers}
use Rattle.glsl_parse.proofs.CompleteJoined.{BeginsWith, begins_at}

-- a token that begins a type
pub data BeginsType (t : PlainToken) : Type 0 where
  type_basic : (kind : Basic) → t ≡ word (basic_text kind) → BeginsType t
  type_void : t ≡ word (codes "void") → BeginsType t
  type_name : (text : List ℕ) → is_free text ≡ true → t ≡ name text → BeginsType t
  type_struct : t ≡ word (codes "struct") → BeginsType t

abbrev StartsType : List PlainToken → Bool → ℕ → TypeSpecifier → Type 0
StartsType tokens fits height k = fits ≡ true → BeginsWith BeginsType tokens

starts_layer : (x : TypeSpecifier-F TypeSpecifier Member) → StartsType (tokens_of x) (fits_of x) (height_of x) (roll-TypeSpecifier x)
starts_layer (TypeSpecifier-F.Basic kind) fits = begins_at BeginsType _ _ (type_basic kind refl)
starts_layer TypeSpecifier-F.Void fits = begins_at BeginsType _ _ (type_void refl)
starts_layer (TypeSpecifier-F.Name text) fits = begins_at BeginsType _ _ (type_name text fits refl)
starts_layer (TypeSpecifier-F.Struct text members) fits = begins_at BeginsType _ _ (type_struct refl)

-- a well-formed type begins with such a token
pub type_starts : (k : TypeSpecifier) → is_type k ≡ true → BeginsWith BeginsType (type_tokens k)
type_starts = from_layers StartsType starts_layer

-- a token that is no qualifier
pub record NoQualifier (t : PlainToken) : Type 0 where
  pub no_precision : precision_of t ≡ None
  pub no_direction : direction_of t ≡ None
  pub no_storage : storage_of t ≡ None
  pub no_constant : is_word (codes "const") t ≡ false
  pub no_invariant : is_word (codes "invariant") t ≡ false
  pub no_default : is_word (codes "precision") t ≡ false
  pub no_brace : is_mark (codes "}") t ≡ false

basic_plain : (a : Basic) → NoQualifier (word (basic_text a))
unfolding precision_of direction_of storage_of is_word is_mark
basic_plain basic.Float = record {
  no_precision = refl;
  no_direction = refl;
  no_storage = refl;
  no_constant = refl;
  no_invariant = refl;
  no_default = refl;
  no_brace = refl;
}
basic_plain basic.Int = record {
  no_precision = refl;
  no_direction = refl;
  no_storage = refl;
  no_constant = refl;
  no_invariant = refl;
  no_default = refl;
  no_brace = refl;
}
basic_plain basic.Bool = record {
  no_precision = refl;
  no_direction = refl;
  no_storage = refl;
  no_constant = refl;
  no_invariant = refl;
  no_default = refl;
  no_brace = refl;
}
basic_plain basic.Vec2 = record {
  no_precision = refl;
  no_direction = refl;
  no_storage = refl;
  no_constant = refl;
  no_invariant = refl;
  no_default = refl;
  no_brace = refl;
}
basic_plain basic.Vec3 = record {
  no_precision = refl;
  no_direction = refl;
  no_storage = refl;
  no_constant = refl;
  no_invariant = refl;
  no_default = refl;
  no_brace = refl;
}
basic_plain basic.Vec4 = record {
  no_precision = refl;
  no_direction = refl;
  no_storage = refl;
  no_constant = refl;
  no_invariant = refl;
  no_default = refl;
  no_brace = refl;
}
basic_plain basic.IVec2 = record {
  no_precision = refl;
  no_direction = refl;
  no_storage = refl;
  no_constant = refl;
  no_invariant = refl;
  no_default = refl;
  no_brace = refl;
}
basic_plain basic.IVec3 = record {
  no_precision = refl;
  no_direction = refl;
  no_storage = refl;
  no_constant = refl;
  no_invariant = refl;
  no_default = refl;
  no_brace = refl;
}
basic_plain basic.IVec4 = record {
  no_precision = refl;
  no_direction = refl;
  no_storage = refl;
  no_constant = refl;
  no_invariant = refl;
  no_default = refl;
  no_brace = refl;
}
basic_plain basic.BVec2 = record {
  no_precision = refl;
  no_direction = refl;
  no_storage = refl;
  no_constant = refl;
  no_invariant = refl;
  no_default = refl;
  no_brace = refl;
}
basic_plain basic.BVec3 = record {
  no_precision = refl;
  no_direction = refl;
  no_storage = refl;
  no_constant = refl;
  no_invariant = refl;
  no_default = refl;
  no_brace = refl;
}
basic_plain basic.BVec4 = record {
  no_precision = refl;
  no_direction = refl;
  no_storage = refl;
  no_constant = refl;
  no_invariant = refl;
  no_default = refl;
  no_brace = refl;
}
basic_plain basic.Mat2 = record {
  no_precision = refl;
  no_direction = refl;
  no_storage = refl;
  no_constant = refl;
  no_invariant = refl;
  no_default = refl;
  no_brace = refl;
}
basic_plain basic.Mat3 = record {
  no_precision = refl;
  no_direction = refl;
  no_storage = refl;
  no_constant = refl;
  no_invariant = refl;
  no_default = refl;
  no_brace = refl;
}
basic_plain basic.Mat4 = record {
  no_precision = refl;
  no_direction = refl;
  no_storage = refl;
  no_constant = refl;
  no_invariant = refl;
  no_default = refl;
  no_brace = refl;
}
basic_plain basic.Sampler2D = record {
  no_precision = refl;
  no_direction = refl;
  no_storage = refl;
  no_constant = refl;
  no_invariant = refl;
  no_default = refl;
  no_brace = refl;
}
basic_plain basic.SamplerCube = record {
  no_precision = refl;
  no_direction = refl;
  no_storage = refl;
  no_constant = refl;
  no_invariant = refl;
  no_default = refl;
  no_brace = refl;
}

void_plain : NoQualifier (word (codes "void"))
unfolding precision_of direction_of storage_of is_word is_mark
void_plain = record {
  no_precision = refl;
  no_direction = refl;
  no_storage = refl;
  no_constant = refl;
  no_invariant = refl;
  no_default = refl;
  no_brace = refl;
}

struct_plain : NoQualifier (word (codes "struct"))
unfolding precision_of direction_of storage_of is_word is_mark
struct_plain = record {
  no_precision = refl;
  no_direction = refl;
  no_storage = refl;
  no_constant = refl;
  no_invariant = refl;
  no_default = refl;
  no_brace = refl;
}

name_plain : (text : List ℕ) → NoQualifier (name text)
unfolding precision_of direction_of storage_of is_word is_mark
name_plain text = record {
  no_precision = refl;
  no_direction = refl;
  no_storage = refl;
  no_constant = refl;
  no_invariant = refl;
  no_default = refl;
  no_brace = refl;
}

-- a type begins with no qualifier
pub type_plain : (t : PlainToken) → BeginsType t → NoQualifier t
type_plain t (type_basic kind e) = subst NoQualifier (sym e) (basic_plain kind)
type_plain t (type_void e) = subst NoQualifier (sym e) void_plain
type_plain t (type_name text free e) = subst NoQualifier (sym e) (name_plain text)
type_plain t (type_struct e) = subst NoQualifier (sym e) struct_plain

-- a token before which no storage qualifier stands, and which is none
pub record NoStorage (t : PlainToken) : Type 0 where
  pub no_storage : storage_of t ≡ None
  pub no_constant : is_word (codes "const") t ≡ false
  pub no_direction : direction_of t ≡ None
  pub no_invariant : is_word (codes "invariant") t ≡ false
  pub no_default : is_word (codes "precision") t ≡ false
  pub no_brace : is_mark (codes "}") t ≡ false

pub precision_plain : (p : Precision) → NoStorage (word (precision_text p))
unfolding storage_of direction_of is_word is_mark
precision_plain precision.Low = record {
  no_storage = refl;
  no_constant = refl;
  no_direction = refl;
  no_invariant = refl;
  no_default = refl;
  no_brace = refl;
}
precision_plain precision.Medium = record {
  no_storage = refl;
  no_constant = refl;
  no_direction = refl;
  no_invariant = refl;
  no_default = refl;
  no_brace = refl;
}
precision_plain precision.High = record {
  no_storage = refl;
  no_constant = refl;
  no_direction = refl;
  no_invariant = refl;
  no_default = refl;
  no_brace = refl;
}

pub without_storage : (t : PlainToken) → BeginsType t → NoStorage t
without_storage t b = let k = type_plain t b in
    record {
      no_storage = k.no_storage;
      no_constant = k.no_constant;
      no_direction = k.no_direction;
      no_invariant = k.no_invariant;
      no_default = k.no_default;
      no_brace = k.no_brace;
    }
