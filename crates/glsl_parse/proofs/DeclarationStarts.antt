-- The first tokens of declarations, and how they differ from those of expressions.
use Rattle.std.proofs.Common.{◌≡◌, ◌≤◌, ◌+◌, ℕ, suc, Bool, true, false, not, ◌&&◌, ◌||◌, cond, List, [], ◌∷◌, ◌++◌, map, Option, Some, None, codes, refl, sym, ap, ◌∙◌, subst, append_assoc, arith}
use Rattle.std.proofs.lemmas.Bool.{and_parts, and_from, and_right}
use Rattle.glsl_tree.specs.declared.token.Class.TheVariants.{Int, Float}
use Rattle.glsl_tree.specs.declared.declarations.TypeSpecifier.{TypeSpecifier}
use Rattle.glsl_tree.specs.declared.declarations.TypeSpecifier.TheOpen.{TypeSpecifier-F}
use Rattle.glsl_tree.specs.declared.declarations.TypeSpecifier.TheViews.{roll-TypeSpecifier, out-roll-TypeSpecifier}
use Rattle.glsl_tree.specs.declared.declarations.Member.{Member}
use Rattle.glsl_tree.specs.declared.declarations.FullType.{FullType}
use Rattle.glsl_tree.specs.declared.expressions.Callee.TheVariants as callee
use Rattle.glsl_tree.specs.declared.expressions.Expr.{Expr}
use Rattle.glsl_tree.specs.declared.expressions.Expr.TheOpen.{Expr-F}
use Rattle.glsl_tree.specs.declared.expressions.Expr.TheViews.{roll-Expr}
use Rattle.glsl_tree.specs.declared.operators.PrefixOperator.{PrefixOperator}
use Rattle.glsl_tree.specs.declared.operators.PrefixOperator.TheVariants as prefix
use Rattle.glsl_tree.specs.declared.qualifiers.Basic.{Basic}
use Rattle.glsl_tree.specs.declared.qualifiers.Basic.TheVariants as basic
use Rattle.glsl_tree.specs.declared.qualifiers.Precision.{Precision}
use Rattle.glsl_tree.specs.declared.qualifiers.Precision.TheVariants as precision
use Rattle.glsl_tree.specs.declared.qualifiers.Storage.{Storage}
use Rattle.glsl_tree.specs.declared.qualifiers.Storage.TheVariants as storage
use Rattle.glsl_tree.specs.Operators.{prefix_text, postfix_text, binary_text, assignment_text, binary_level, or_level, prefix_level, postfix_level}
use Rattle.glsl_tree.specs.Qualifiers.{basic_text, precision_text}
use Rattle.glsl_tree.specs.Expressions.{Grade, mark, word, name, token, separated, grade, stands, expression_tokens, expression_height, is_free}
use Rattle.glsl_tree.specs.Types.{precision_tokens, storage_tokens, type_tokens, is_type}
use Rattle.glsl_tree.specs.Declarations.{full_type_tokens, is_full_type, is_void, is_void_layer, is_named, is_name_layer, is_absent}
use Rattle.glsl_tree.specs.Token.{PlainToken}
use Rattle.glsl_parse.specs.declared.symbols.Leader.TheVariants as leader
use Rattle.glsl_parse.specs.Symbols.{is_mark, is_word, is_name, basic_of, precision_of, leader_of, after_mark, after_word, begins_with_mark}
use Rattle.glsl_parse.specs.TypeReadings.{storage_of}
use Rattle.glsl_parse.specs.DeclarationReadings.{after_void, after_invariant, begins_declaration, begins_with_a_name, declares}
use Rattle.glsl_parse.proofs.CompleteSymbols.{basic_no_void}
use Rattle.glsl_parse.proofs.CompleteJoined.{BeginsWith, begins_on, begins_as, begins_at, at_first}
use Rattle.glsl_parse.proofs.ExpressionNodes as expressions
use Rattle.glsl_parse.proofs.ExpressionStarts.{Begins, BeginsPrimary, at_primary, at_prefix, stood, starts}
use Rattle.glsl_parse.proofs.TypeNodes.{tokens_of, fits_of, height_of, from_layers}
use Rattle.glsl_parse.proofs.TypeStarts.{BeginsType, type_basic, type_void, type_name, type_struct, type_starts, NoStorage}

-- a type with its qualifiers before other tokens, one part after another
pub full_spelled : (full : FullType) (more : List PlainToken) → full_type_tokens full ++ more
    ≡ storage_tokens full.storage ++ (precision_tokens full.precision ++ (type_tokens full.kind ++ more))
full_spelled full more =
    append_assoc (storage_tokens full.storage) (precision_tokens full.precision ++ type_tokens full.kind) more
    ∙ ap (λ w. storage_tokens full.storage ++ w) (append_assoc (precision_tokens full.precision) (type_tokens full.kind) more)

-- Whether `void` and a bracket stand there: only a type that is `void` before a bracket has these tokens.
abbrev VoidBehind : List PlainToken → Bool → ℕ → TypeSpecifier → Type 0
VoidBehind tokens fits height k = (more : List PlainToken) → (is_void k ≡ true → after_mark (codes ")") more ≡ None)
    → after_void (tokens ++ more) ≡ None

void_basic : (kind : Basic) (more : List PlainToken) → after_void (word (basic_text kind) ∷ more) ≡ None
unfolding after_void after_word
void_basic kind more = ap (λ b. elim (cond b (Some more) None) [ Some rest ↦ after_mark (codes ")") rest | None ↦ None ])
    (basic_no_void kind)

void_layer : (x : TypeSpecifier-F TypeSpecifier Member) → VoidBehind (tokens_of x) (fits_of x) (height_of x) (roll-TypeSpecifier x)
unfolding after_void after_word is_word is_void
void_layer (TypeSpecifier-F.Basic kind) more h = void_basic kind more
void_layer TypeSpecifier-F.Void more h = h (ap is_void_layer (out-roll-TypeSpecifier TypeSpecifier-F.Void))
void_layer (TypeSpecifier-F.Name text) more h = refl
void_layer (TypeSpecifier-F.Struct text members) more h = refl

pub void_after : (k : TypeSpecifier) → VoidBehind (type_tokens k) (is_type k) 0 k
void_after = from_layers (λ tokens fits height k. VoidBehind tokens fits 0 k) void_layer

-- A type with its qualifiers begins with no `precision`, and with no `invariant` that is not before `varying`.
no_default_storage : (t : PlainToken) (more : List PlainToken) → NoStorage t → after_word (codes "precision") (t ∷ more) ≡ None
unfolding after_word
no_default_storage t more absent = ap (λ b. cond b (Some more) None) absent.no_default

no_invariant_storage : (t : PlainToken) (more : List PlainToken) → NoStorage t → after_invariant (t ∷ more) ≡ None
unfolding after_invariant after_word
no_invariant_storage t more absent =
    ap (λ b. elim (cond b (Some more) None) [
      | None ↦ None
      | Some rest ↦ elim (after_word (codes "varying") rest)
          [ None ↦ Some rest | Some more ↦ None ]
    ]) absent.no_invariant

pub no_default : (s : Option Storage) (list : List PlainToken) → BeginsWith NoStorage list
    → after_word (codes "precision") (storage_tokens s ++ list) ≡ None
unfolding after_word is_word
no_default None list b = at_first NoStorage (λ w. after_word (codes "precision") w ≡ None) list b no_default_storage
no_default (Some storage.Const) list b = refl
no_default (Some storage.Attribute) list b = refl
no_default (Some storage.Varying) list b = refl
no_default (Some storage.InvariantVarying) list b = refl
no_default (Some storage.Uniform) list b = refl

pub no_invariant : (s : Option Storage) (list : List PlainToken) → BeginsWith NoStorage list
    → after_invariant (storage_tokens s ++ list) ≡ None
unfolding after_invariant after_word is_word
no_invariant None list b = at_first NoStorage (λ w. after_invariant w ≡ None) list b no_invariant_storage
no_invariant (Some storage.Const) list b = refl
no_invariant (Some storage.Attribute) list b = refl
no_invariant (Some storage.Varying) list b = refl
no_invariant (Some storage.InvariantVarying) list b = refl
no_invariant (Some storage.Uniform) list b = refl

-- What a type declares: it is not called, and where it is a name, another name follows it.
basic_declares : (kind : Basic) (more : List PlainToken) → begins_with_mark (codes "(") more ≡ false
    → declares (word (basic_text kind) ∷ more) ≡ true
unfolding declares begins_declaration storage_of precision_of is_word basic_of is_name
basic_declares basic.Float more e = ap (λ b. not b || false) e
basic_declares basic.Int more e = ap (λ b. not b || false) e
basic_declares basic.Bool more e = ap (λ b. not b || false) e
basic_declares basic.Vec2 more e = ap (λ b. not b || false) e
basic_declares basic.Vec3 more e = ap (λ b. not b || false) e
basic_declares basic.Vec4 more e = ap (λ b. not b || false) e
basic_declares basic.IVec2 more e = ap (λ b. not b || false) e
basic_declares basic.IVec3 more e = ap (λ b. not b || false) e
basic_declares basic.IVec4 more e = ap (λ b. not b || false) e
basic_declares basic.BVec2 more e = ap (λ b. not b || false) e
basic_declares basic.BVec3 more e = ap (λ b. not b || false) e
basic_declares basic.BVec4 more e = ap (λ b. not b || false) e
basic_declares basic.Mat2 more e = ap (λ b. not b || false) e
basic_declares basic.Mat3 more e = ap (λ b. not b || false) e
basic_declares basic.Mat4 more e = ap (λ b. not b || false) e
basic_declares basic.Sampler2D more e = ap (λ b. not b || false) e
basic_declares basic.SamplerCube more e = ap (λ b. not b || false) e

name_declares : (text : List ℕ) (more : List PlainToken) → is_free text ≡ true → begins_with_a_name more ≡ true
    → declares (name text ∷ more) ≡ true
unfolding declares begins_declaration storage_of precision_of is_word basic_of is_name
name_declares text more free follows = and_from (is_free text) (begins_with_a_name more) free follows

void_declares : (more : List PlainToken) → declares (word (codes "void") ∷ more) ≡ true
unfolding declares begins_declaration storage_of precision_of is_word
void_declares more = refl

struct_declares : (more : List PlainToken) → declares (word (codes "struct") ∷ more) ≡ true
unfolding declares begins_declaration storage_of precision_of is_word
struct_declares more = refl

abbrev TypeDeclares : List PlainToken → Bool → ℕ → TypeSpecifier → Type 0
TypeDeclares tokens fits height k = fits ≡ true → (more : List PlainToken) → begins_with_mark (codes "(") more ≡ false
    → (is_named k ≡ true → begins_with_a_name more ≡ true) → declares (tokens ++ more) ≡ true

declares_layer : (x : TypeSpecifier-F TypeSpecifier Member) → TypeDeclares (tokens_of x) (fits_of x) (height_of x) (roll-TypeSpecifier x)
unfolding is_named
declares_layer (TypeSpecifier-F.Basic kind) fits more e h = basic_declares kind more e
declares_layer TypeSpecifier-F.Void fits more e h = void_declares more
declares_layer (TypeSpecifier-F.Name text) fits more e h =
    name_declares text more fits (h (ap is_name_layer (out-roll-TypeSpecifier (TypeSpecifier-F.Name text))))
declares_layer (TypeSpecifier-F.Struct text members) fits more e h = struct_declares _

type_declares : (k : TypeSpecifier) → TypeDeclares (type_tokens k) (is_type k) 0 k
type_declares = from_layers (λ tokens fits height k. TypeDeclares tokens fits 0 k) declares_layer

precision_declares : (p : Precision) (more : List PlainToken) → declares (word (precision_text p) ∷ more) ≡ true
unfolding declares begins_declaration storage_of precision_of is_word
precision_declares precision.Low more = refl
precision_declares precision.Medium more = refl
precision_declares precision.High more = refl

storage_declares : (s : Storage) (more : List PlainToken) → declares (storage_tokens (Some s) ++ more) ≡ true
unfolding declares begins_declaration storage_of precision_of is_word
storage_declares storage.Const more = refl
storage_declares storage.Attribute more = refl
storage_declares storage.Varying more = refl
storage_declares storage.InvariantVarying more = refl
storage_declares storage.Uniform more = refl

-- what begins with a type declares, where no bracket follows, and a name where the type is a name alone
pub parts_declare : (s : Option Storage) (p : Option Precision) (k : TypeSpecifier) (more : List PlainToken) → is_type k ≡ true
    → begins_with_mark (codes "(") more ≡ false
    → ((is_absent s && (is_absent p && is_named k)) ≡ true → begins_with_a_name more ≡ true)
    → declares (storage_tokens s ++ (precision_tokens p ++ (type_tokens k ++ more))) ≡ true
parts_declare (Some s) p k more fits e h = storage_declares s _
parts_declare None (Some p) k more fits e h = precision_declares p _
parts_declare None None k more fits e h = type_declares k fits more e h

-- An expression does not declare.
abbrev Undeclared : List PlainToken → Grade → ℕ → Expr → Type 0
Undeclared tokens g height e = g.fits ≡ true → (rest : List PlainToken) → begins_with_a_name rest ≡ false → declares (tokens ++ rest)
    ≡ false

name_alone : (text : List ℕ) (rest : List PlainToken) → begins_with_a_name rest ≡ false → declares (name text ∷ rest) ≡ false
unfolding declares begins_declaration storage_of precision_of is_word basic_of is_name
name_alone text rest e = and_right (is_free text) (begins_with_a_name rest) e

basic_called : (kind : Basic) (rest : List PlainToken) → declares (word (basic_text kind) ∷ mark (codes "(") ∷ rest) ≡ false
unfolding declares begins_declaration storage_of precision_of is_word basic_of is_name is_mark
basic_called basic.Float rest = refl
basic_called basic.Int rest = refl
basic_called basic.Bool rest = refl
basic_called basic.Vec2 rest = refl
basic_called basic.Vec3 rest = refl
basic_called basic.Vec4 rest = refl
basic_called basic.IVec2 rest = refl
basic_called basic.IVec3 rest = refl
basic_called basic.IVec4 rest = refl
basic_called basic.BVec2 rest = refl
basic_called basic.BVec3 rest = refl
basic_called basic.BVec4 rest = refl
basic_called basic.Mat2 rest = refl
basic_called basic.Mat3 rest = refl
basic_called basic.Mat4 rest = refl
basic_called basic.Sampler2D rest = refl
basic_called basic.SamplerCube rest = refl

int_undeclared : (text : List ℕ) (rest : List PlainToken) → declares (token Int text ∷ rest) ≡ false
unfolding declares begins_declaration storage_of precision_of is_word basic_of is_name
int_undeclared text rest = refl

float_undeclared : (text : List ℕ) (rest : List PlainToken) → declares (token Float text ∷ rest) ≡ false
unfolding declares begins_declaration storage_of precision_of is_word basic_of is_name
float_undeclared text rest = refl

truth_undeclared : (value : Bool) (rest : List PlainToken) → declares (word (cond value (codes "true") (codes "false")) ∷ rest) ≡ false
unfolding declares begins_declaration storage_of precision_of is_word basic_of is_name
truth_undeclared true rest = refl
truth_undeclared false rest = refl

pub mark_undeclared : (text : List ℕ) (rest : List PlainToken) → declares (mark text ∷ rest) ≡ false
unfolding declares begins_declaration storage_of precision_of is_word basic_of is_name
mark_undeclared text rest = refl

pub mark_no_name : (text : List ℕ) (rest : List PlainToken) → begins_with_a_name (mark text ∷ rest) ≡ false
unfolding is_name
mark_no_name text rest = refl

undeclared_step : (h : ℕ) → ((e : Expr) → expression_height e ≤ h → Undeclared (expression_tokens e) (grade e) (expression_height e) e)
    → (x : Expr-F Expr) → expressions.height_of x ≤ suc h
    → Undeclared (expressions.tokens_of x) (expressions.grade_of x) (expressions.height_of x) (roll-Expr x)
undeclared_step h within x high fits rest e = go x high fits
  where
    left : (level : ℕ) (base : Expr) (text : List ℕ) (tail : List PlainToken) → stands level (grade base) ≡ true
        → expression_height base ≤ h → declares ((expression_tokens base ++ (mark text ∷ tail)) ++ rest) ≡ false
    left level base text tail fits low = ap declares (append_assoc (expression_tokens base) (mark text ∷ tail) rest)
        ∙ within base low (stood level base fits).fits (mark text ∷ (tail ++ rest)) (mark_no_name text (tail ++ rest))

    go : (x : Expr-F Expr) → expressions.height_of x ≤ suc h → (expressions.grade_of x).fits ≡ true
        → declares (expressions.tokens_of x ++ rest) ≡ false
    go (Expr-F.Name text) high fits = name_alone text rest e
    go (Expr-F.Int text) high fits = int_undeclared text rest
    go (Expr-F.Float text) high fits = float_undeclared text rest
    go (Expr-F.Truth value) high fits = truth_undeclared value rest
    go (Expr-F.Bracket inner) high fits = mark_undeclared (codes "(") _
    go (Expr-F.Call (callee.Name text) arguments) high fits =
        name_alone text (mark (codes "(") ∷ ((separated (map expression_tokens arguments) ++ mark (codes ")") ∷ []) ++ rest))
        (mark_no_name (codes "(") ((separated (map expression_tokens arguments) ++ mark (codes ")") ∷ []) ++ rest))
    go (Expr-F.Call (callee.Basic kind) arguments) high fits = basic_called kind _
    go (Expr-F.CallVoid (callee.Name text)) high fits =
        name_alone text (mark (codes "(") ∷ word (codes "void") ∷ mark (codes ")") ∷ rest)
        (mark_no_name (codes "(") (word (codes "void") ∷ mark (codes ")") ∷ rest))
    go (Expr-F.CallVoid (callee.Basic kind)) high fits = basic_called kind _
    go (Expr-F.Index base index) high fits = left postfix_level base (codes "[") _ (and_parts _ _ fits).0 (omega arith)
    go (Expr-F.Field base field) high fits = left postfix_level base (codes ".") _ (and_parts _ _ fits).0 (omega arith)
    go (Expr-F.Postfix operand operator) high fits = left postfix_level operand (postfix_text operator) _ fits (omega arith)
    go (Expr-F.Prefix operator operand) high fits = mark_undeclared (prefix_text operator) _
    go (Expr-F.Binary operator l r) high fits =
        left (binary_level operator) l (binary_text operator) _ (and_parts _ _ fits).0 (omega arith)
    go (Expr-F.Conditional condition if_true if_false) high fits =
        left or_level condition (codes "?") _ (and_parts _ _ fits).0 (omega arith)
    go (Expr-F.Assign operator target value) high fits =
        left prefix_level target (assignment_text operator) _ (and_parts _ _ fits).0 (omega arith)

pub undeclared : (e : Expr) → Undeclared (expression_tokens e) (grade e) (expression_height e) e
undeclared = expressions.by_height Undeclared undeclared_step

-- a token that says nothing of a statement
pub record Leads (t : PlainToken) : Type 0 where
  pub other : leader_of t ≡ leader.Other
  pub no_else : is_word (codes "else") t ≡ false
  pub no_while : is_word (codes "while") t ≡ false
  pub no_brace : is_mark (codes "}") t ≡ false
  pub no_semicolon : is_mark (codes ";") t ≡ false

leads_name : (text : List ℕ) → Leads (name text)
unfolding leader_of is_word is_mark
leads_name text = record { other = refl; no_else = refl; no_while = refl; no_brace = refl; no_semicolon = refl }

leads_int : (text : List ℕ) → Leads (token Int text)
unfolding leader_of is_word is_mark
leads_int text = record { other = refl; no_else = refl; no_while = refl; no_brace = refl; no_semicolon = refl }

leads_float : (text : List ℕ) → Leads (token Float text)
unfolding leader_of is_word is_mark
leads_float text = record { other = refl; no_else = refl; no_while = refl; no_brace = refl; no_semicolon = refl }

leads_truth : (value : Bool) → Leads (word (cond value (codes "true") (codes "false")))
unfolding leader_of is_word is_mark
leads_truth true = record { other = refl; no_else = refl; no_while = refl; no_brace = refl; no_semicolon = refl }
leads_truth false = record { other = refl; no_else = refl; no_while = refl; no_brace = refl; no_semicolon = refl }

leads_basic : (kind : Basic) → Leads (word (basic_text kind))
unfolding leader_of is_word is_mark
leads_basic basic.Float = record { other = refl; no_else = refl; no_while = refl; no_brace = refl; no_semicolon = refl }
leads_basic basic.Int = record { other = refl; no_else = refl; no_while = refl; no_brace = refl; no_semicolon = refl }
leads_basic basic.Bool = record { other = refl; no_else = refl; no_while = refl; no_brace = refl; no_semicolon = refl }
leads_basic basic.Vec2 = record { other = refl; no_else = refl; no_while = refl; no_brace = refl; no_semicolon = refl }
leads_basic basic.Vec3 = record { other = refl; no_else = refl; no_while = refl; no_brace = refl; no_semicolon = refl }
leads_basic basic.Vec4 = record { other = refl; no_else = refl; no_while = refl; no_brace = refl; no_semicolon = refl }
leads_basic basic.IVec2 = record { other = refl; no_else = refl; no_while = refl; no_brace = refl; no_semicolon = refl }
leads_basic basic.IVec3 = record { other = refl; no_else = refl; no_while = refl; no_brace = refl; no_semicolon = refl }
leads_basic basic.IVec4 = record { other = refl; no_else = refl; no_while = refl; no_brace = refl; no_semicolon = refl }
leads_basic basic.BVec2 = record { other = refl; no_else = refl; no_while = refl; no_brace = refl; no_semicolon = refl }
leads_basic basic.BVec3 = record { other = refl; no_else = refl; no_while = refl; no_brace = refl; no_semicolon = refl }
leads_basic basic.BVec4 = record { other = refl; no_else = refl; no_while = refl; no_brace = refl; no_semicolon = refl }
leads_basic basic.Mat2 = record { other = refl; no_else = refl; no_while = refl; no_brace = refl; no_semicolon = refl }
leads_basic basic.Mat3 = record { other = refl; no_else = refl; no_while = refl; no_brace = refl; no_semicolon = refl }
leads_basic basic.Mat4 = record { other = refl; no_else = refl; no_while = refl; no_brace = refl; no_semicolon = refl }
leads_basic basic.Sampler2D = record { other = refl; no_else = refl; no_while = refl; no_brace = refl; no_semicolon = refl }
leads_basic basic.SamplerCube = record { other = refl; no_else = refl; no_while = refl; no_brace = refl; no_semicolon = refl }

leads_bracket : Leads (mark (codes "("))
unfolding leader_of is_word is_mark
leads_bracket = record { other = refl; no_else = refl; no_while = refl; no_brace = refl; no_semicolon = refl }

leads_prefix : (operator : PrefixOperator) → Leads (mark (prefix_text operator))
unfolding leader_of is_word is_mark
leads_prefix prefix.Increment = record { other = refl; no_else = refl; no_while = refl; no_brace = refl; no_semicolon = refl }
leads_prefix prefix.Decrement = record { other = refl; no_else = refl; no_while = refl; no_brace = refl; no_semicolon = refl }
leads_prefix prefix.Plus = record { other = refl; no_else = refl; no_while = refl; no_brace = refl; no_semicolon = refl }
leads_prefix prefix.Minus = record { other = refl; no_else = refl; no_while = refl; no_brace = refl; no_semicolon = refl }
leads_prefix prefix.Not = record { other = refl; no_else = refl; no_while = refl; no_brace = refl; no_semicolon = refl }

leads_precision : (p : Precision) → Leads (word (precision_text p))
unfolding leader_of is_word is_mark
leads_precision precision.Low = record { other = refl; no_else = refl; no_while = refl; no_brace = refl; no_semicolon = refl }
leads_precision precision.Medium = record { other = refl; no_else = refl; no_while = refl; no_brace = refl; no_semicolon = refl }
leads_precision precision.High = record { other = refl; no_else = refl; no_while = refl; no_brace = refl; no_semicolon = refl }

leads_void : Leads (word (codes "void"))
unfolding leader_of is_word is_mark
leads_void = record { other = refl; no_else = refl; no_while = refl; no_brace = refl; no_semicolon = refl }

leads_struct : Leads (word (codes "struct"))
unfolding leader_of is_word is_mark
leads_struct = record { other = refl; no_else = refl; no_while = refl; no_brace = refl; no_semicolon = refl }

leads_const : Leads (word (codes "const"))
unfolding leader_of is_word is_mark
leads_const = record { other = refl; no_else = refl; no_while = refl; no_brace = refl; no_semicolon = refl }

leads_attribute : Leads (word (codes "attribute"))
unfolding leader_of is_word is_mark
leads_attribute = record { other = refl; no_else = refl; no_while = refl; no_brace = refl; no_semicolon = refl }

leads_varying : Leads (word (codes "varying"))
unfolding leader_of is_word is_mark
leads_varying = record { other = refl; no_else = refl; no_while = refl; no_brace = refl; no_semicolon = refl }

leads_invariant : Leads (word (codes "invariant"))
unfolding leader_of is_word is_mark
leads_invariant = record { other = refl; no_else = refl; no_while = refl; no_brace = refl; no_semicolon = refl }

leads_uniform : Leads (word (codes "uniform"))
unfolding leader_of is_word is_mark
leads_uniform = record { other = refl; no_else = refl; no_while = refl; no_brace = refl; no_semicolon = refl }

leads_default : Leads (word (codes "precision"))
unfolding leader_of is_word is_mark
leads_default = record { other = refl; no_else = refl; no_while = refl; no_brace = refl; no_semicolon = refl }

leads_primary : (t : PlainToken) → BeginsPrimary t → Leads t
leads_primary t (BeginsPrimary.at_name text free e) = subst Leads (sym e) (leads_name text)
leads_primary t (BeginsPrimary.at_int text e) = subst Leads (sym e) (leads_int text)
leads_primary t (BeginsPrimary.at_float text e) = subst Leads (sym e) (leads_float text)
leads_primary t (BeginsPrimary.at_truth value e) = subst Leads (sym e) (leads_truth value)
leads_primary t (BeginsPrimary.at_basic kind e) = subst Leads (sym e) (leads_basic kind)
leads_primary t (BeginsPrimary.at_bracket e) = subst Leads (sym e) leads_bracket

leads_begin : (level : ℕ) (t : PlainToken) → Begins level t → Leads t
leads_begin level t (at_primary b) = leads_primary t b
leads_begin level t (at_prefix operator low e) = subst Leads (sym e) (leads_prefix operator)

leads_type : (t : PlainToken) → BeginsType t → Leads t
leads_type t (type_basic kind e) = subst Leads (sym e) (leads_basic kind)
leads_type t (type_void e) = subst Leads (sym e) leads_void
leads_type t (type_name text free e) = subst Leads (sym e) (leads_name text)
leads_type t (type_struct e) = subst Leads (sym e) leads_struct

pub expression_leads : (e : Expr) → (grade e).fits ≡ true → BeginsWith Leads (expression_tokens e)
expression_leads e fits = let s = starts e fits in
    record { first = s.first; more = s.more; are = s.are; is = leads_begin (grade e).level s.first s.begins }

pub parts_lead : (s : Option Storage) (p : Option Precision) (k : TypeSpecifier) (more : List PlainToken) → is_type k ≡ true
    → BeginsWith Leads (storage_tokens s ++ (precision_tokens p ++ (type_tokens k ++ more)))
parts_lead None None k more fits = begins_as BeginsType Leads _ leads_type
    (begins_on BeginsType (type_tokens k) more (type_starts k fits))
parts_lead None (Some p) k more fits = begins_at Leads _ _ (leads_precision p)
parts_lead (Some storage.Const) p k more fits = begins_at Leads _ _ leads_const
parts_lead (Some storage.Attribute) p k more fits = begins_at Leads _ _ leads_attribute
parts_lead (Some storage.Varying) p k more fits = begins_at Leads _ _ leads_varying
parts_lead (Some storage.InvariantVarying) p k more fits = begins_at Leads _ _ leads_invariant
parts_lead (Some storage.Uniform) p k more fits = begins_at Leads _ _ leads_uniform

pub full_leads : (full : FullType) (more : List PlainToken) → is_full_type full ≡ true → BeginsWith Leads (full_type_tokens full ++ more)
full_leads full more fits = subst (BeginsWith Leads) (sym (full_spelled full more))
    (parts_lead full.storage full.precision full.kind more fits)

pub default_leads : (more : List PlainToken) → BeginsWith Leads (word (codes "precision") ∷ more)
default_leads more = begins_at Leads _ _ leads_default

pub invariant_leads : (more : List PlainToken) → BeginsWith Leads (word (codes "invariant") ∷ more)
invariant_leads more = begins_at Leads _ _ leads_invariant
