-- Readings of a height, where none is left and where some is.
use Rattle.std.proofs.Common.{◌≡◌, ◌<◌, ◌-◌, ℕ, zero, suc, List, Option, None, refl, ap, arith}
use Rattle.glsl_tree.specs.Token.{PlainToken}
use Rattle.glsl_parse.specs.Readings.{below}
use Rattle.glsl_parse.specs.ExpressionReadings.{expression, climbed}
use Rattle.glsl_parse.specs.TypeReadings.{type_specifier, type_of, member, member_of}
use Rattle.glsl_parse.specs.StatementReadings.{statement_at, statement_of}

pub below_none : {B : Type 0} (room : ℕ) (next : ℕ → Option B) → room ≡ 0 → below room next ≡ None
below_none zero next e = refl
below_none (suc n) next e = absurd (omega arith)

pub below_some : {B : Type 0} (room : ℕ) (next : ℕ → Option B) → 0 < room → below room next ≡ next (room - 1)
below_some zero next h = absurd (omega arith)
below_some (suc n) next h = let e : n ≡ suc n - 1 = omega arith in ap next e

pub expression_none : (room least : ℕ) (list : List PlainToken) → room ≡ 0 → expression room least list ≡ None
unfolding expression
expression_none zero least list e = refl
expression_none (suc n) least list e = absurd (omega arith)

pub expression_some : (room least : ℕ) (list : List PlainToken) → 0 < room → expression room least list ≡ climbed (room - 1) (expression (room - 1)) least list
unfolding expression
expression_some zero least list h = absurd (omega arith)
expression_some (suc n) least list h = let e : n ≡ suc n - 1 = omega arith in ap (λ m. climbed m (expression m) least list) e

pub type_none : (room : ℕ) (list : List PlainToken) → room ≡ 0 → type_specifier room list ≡ None
unfolding type_specifier
type_none zero list e = refl
type_none (suc n) list e = absurd (omega arith)

pub type_some : (room : ℕ) (list : List PlainToken) → 0 < room → type_specifier room list ≡ type_of (member (room - 1)) list
unfolding type_specifier
type_some zero list h = absurd (omega arith)
type_some (suc n) list h = let e : n ≡ suc n - 1 = omega arith in ap (λ m. type_of (member m) list) e

pub member_none : (room : ℕ) (list : List PlainToken) → room ≡ 0 → member room list ≡ None
unfolding type_specifier
member_none zero list e = refl
member_none (suc n) list e = absurd (omega arith)

pub member_some : (room : ℕ) (list : List PlainToken) → 0 < room → member room list ≡ member_of (room - 1) (type_specifier (room - 1)) list
unfolding type_specifier
member_some zero list h = absurd (omega arith)
member_some (suc n) list h = let e : n ≡ suc n - 1 = omega arith in ap (λ m. member_of m (type_specifier m) list) e

pub statement_none : (room : ℕ) (list : List PlainToken) → room ≡ 0 → statement_at room list ≡ None
unfolding statement_at
statement_none zero list e = refl
statement_none (suc n) list e = absurd (omega arith)

pub statement_some : (room : ℕ) (list : List PlainToken) → 0 < room → statement_at room list ≡ statement_of (room - 1) (statement_at (room - 1)) list
unfolding statement_at
statement_some zero list h = absurd (omega arith)
statement_some (suc n) list h = let e : n ≡ suc n - 1 = omega arith in ap (λ m. statement_of m (statement_at m) list) e

pub ruleset rooms = (below_none, below_some, expression_none, expression_some, type_none, type_some, member_none, member_some, statement_none, statement_some)
