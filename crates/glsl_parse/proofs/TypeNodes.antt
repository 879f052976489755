-- The tokens, the fitness and the height of a type, from those of its parts.
use Rattle.std.proofs.Common.{◌≡◌, ◌≤◌, ◌+◌, ℕ, max, Bool, ◌&&◌, List, [], ◌∷◌, ◌++◌, map, codes, sym, ap, subst, arith}
use Rattle.std.specs.List.{list_all}
use Rattle.glsl_tree.specs.declared.declarations.TypeSpecifier.{TypeSpecifier, map-TypeSpecifier}
use Rattle.glsl_tree.specs.declared.declarations.TypeSpecifier.TheOpen.{TypeSpecifier-F}
use Rattle.glsl_tree.specs.declared.declarations.TypeSpecifier.TheFolds.{fold-roll-TypeSpecifier, fold-roll-Member}
use Rattle.glsl_tree.specs.declared.declarations.TypeSpecifier.TheViews.{roll-TypeSpecifier, out-TypeSpecifier, roll-out-TypeSpecifier, out-Member}
use Rattle.glsl_tree.specs.declared.declarations.Member.{Member}
use Rattle.glsl_tree.specs.Expressions.{mark, separated, highest}
use Rattle.glsl_tree.specs.Types.{type_tokens, member_tokens, type_layer, member_layer, is_type, is_member, type_fits, member_fits, type_height, member_height, type_height_layer, member_height_layer, precision_tokens, sized_tokens, is_any, is_sized, size_height}
use Rattle.glsl_tree.specs.Token.{PlainToken}

abbrev pub tokens_of : TypeSpecifier-F TypeSpecifier Member → List PlainToken
tokens_of x = type_layer (map-TypeSpecifier TypeSpecifier Member (List PlainToken) (List PlainToken) type_tokens member_tokens x)

abbrev pub fits_of : TypeSpecifier-F TypeSpecifier Member → Bool
fits_of x = type_fits (map-TypeSpecifier TypeSpecifier Member Bool Bool is_type is_member x)

abbrev pub height_of : TypeSpecifier-F TypeSpecifier Member → ℕ
height_of x = type_height_layer (map-TypeSpecifier TypeSpecifier Member ℕ ℕ type_height member_height x)

-- a type with these parts
pub record IsNode (k : TypeSpecifier) (x : TypeSpecifier-F TypeSpecifier Member) : Type 0 where
  pub spelled : type_tokens k ≡ tokens_of x
  pub fits : is_type k ≡ fits_of x
  pub high : type_height k ≡ height_of x

rolled : (x : TypeSpecifier-F TypeSpecifier Member) → IsNode (roll-TypeSpecifier x) x
unfolding type_tokens member_tokens is_type is_member type_height member_height
rolled x = record {
  spelled = fold-roll-TypeSpecifier (List PlainToken) (List PlainToken) type_layer member_layer x;
  fits = fold-roll-TypeSpecifier Bool Bool type_fits member_fits x;
  high = fold-roll-TypeSpecifier ℕ ℕ type_height_layer member_height_layer x;
}

pub node : (x : TypeSpecifier-F TypeSpecifier Member) (k : TypeSpecifier) → roll-TypeSpecifier x ≡ k → IsNode k x
node x k is = subst (λ f. IsNode f x) is (rolled x)

-- a law of the layers is one of the types
pub from_layers : (P : List PlainToken → Bool → ℕ → TypeSpecifier → Type 0)
    → ((x : TypeSpecifier-F TypeSpecifier Member) → P (tokens_of x) (fits_of x) (height_of x) (roll-TypeSpecifier x))
    → (k : TypeSpecifier) → P (type_tokens k) (is_type k) (type_height k) k
from_layers P law e =
    let k = node (out-TypeSpecifier e) e (roll-out-TypeSpecifier e) in
    let here = subst (λ f. P (tokens_of (out-TypeSpecifier e)) (fits_of (out-TypeSpecifier e)) (height_of (out-TypeSpecifier e)) f)
    (roll-out-TypeSpecifier e) (law (out-TypeSpecifier e)) in
    let high = subst (λ h. P (tokens_of (out-TypeSpecifier e)) (fits_of (out-TypeSpecifier e)) h e) (sym k.high) here in
    let fits = subst (λ g. P (tokens_of (out-TypeSpecifier e)) g (type_height e) e) (sym k.fits) high in
    subst (λ w. P w (is_type e) (type_height e) e) (sym k.spelled) fits

positive : (x : TypeSpecifier-F TypeSpecifier Member) → 1 ≤ height_of x
positive (TypeSpecifier-F.Basic basic) = omega arith
positive TypeSpecifier-F.Void = omega arith
positive (TypeSpecifier-F.Name text) = omega arith
positive (TypeSpecifier-F.Struct text members) = omega arith

abbrev IsHigh : List PlainToken → Bool → ℕ → TypeSpecifier → Type 0
IsHigh tokens g height k = 1 ≤ height

-- each type is a node at least
pub has_height : (k : TypeSpecifier) → 1 ≤ type_height k
has_height = from_layers IsHigh positive

-- a line of members with its parts
pub record IsLine (m : Member) : Type 0 where
  pub spelled : member_tokens m ≡ precision_tokens m.precision
      ++ (type_tokens m.kind ++ (separated (map sized_tokens m.names) ++ mark (codes ";") ∷ []))
  pub fits : is_member m ≡ (is_type m.kind && (is_any m.names && list_all is_sized m.names))
  pub high : member_height m ≡ max (type_height m.kind) (highest (map (λ sized. size_height sized.size) m.names)) + 1

pub line : (m : Member) → IsLine m
unfolding type_tokens member_tokens is_type is_member type_height member_height
line m = record {
  spelled = fold-roll-Member (List PlainToken) (List PlainToken) type_layer member_layer (out-Member m);
  fits = fold-roll-Member Bool Bool type_fits member_fits (out-Member m);
  high = fold-roll-Member ℕ ℕ type_height_layer member_height_layer (out-Member m);
}
