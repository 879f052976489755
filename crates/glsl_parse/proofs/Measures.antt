-- The height and the level of each expression, and the height of each type, by its parts.
use Rattle.std.proofs.Common.{◌≡◌, ◌+◌, ℕ, Bool, List, [], ◌∷◌, ◌++◌, map, max, Option, ap, arith}
use Rattle.glsl_tree.specs.declared.operators.BinaryOperator.{BinaryOperator}
use Rattle.glsl_tree.specs.declared.operators.AssignmentOperator.{AssignmentOperator}
use Rattle.glsl_tree.specs.declared.operators.PrefixOperator.{PrefixOperator}
use Rattle.glsl_tree.specs.declared.operators.PostfixOperator.{PostfixOperator}
use Rattle.glsl_tree.specs.declared.expressions.Callee.{Callee}
use Rattle.glsl_tree.specs.declared.expressions.Expr.{Expr}
use Rattle.glsl_tree.specs.declared.expressions.Expr.TheVariants as tree
use Rattle.glsl_tree.specs.declared.expressions.Expr.TheOpen.{Expr-F}
use Rattle.glsl_tree.specs.declared.qualifiers.Basic.{Basic}
use Rattle.glsl_tree.specs.declared.declarations.Member.{Member}
use Rattle.glsl_tree.specs.declared.declarations.TypeSpecifier.TheVariants as kind
use Rattle.glsl_tree.specs.declared.declarations.TypeSpecifier.TheOpen.{TypeSpecifier-F}
use Rattle.glsl_tree.specs.Operators.{assignment_level, conditional_level, prefix_level, postfix_level, primary_level, binary_level}
use Rattle.glsl_tree.specs.Expressions.{grade, expression_height, highest}
use Rattle.glsl_tree.specs.declared.declarations.SizedName.{SizedName}
use Rattle.glsl_tree.specs.Types.{type_height, member_height, size_height}
use Rattle.glsl_parse.proofs.ExpressionNodes.{node}
use Rattle.glsl_parse.proofs.TypeNodes as types

pub name-height : (text : List ℕ) → expression_height (tree.Name text) ≡ 1
name-height text = (node (Expr-F.Name text) (tree.Name text) (tree.rolls-Name text)).high

pub name-level : (text : List ℕ) → (grade (tree.Name text)).level ≡ primary_level
name-level text = ap (λ g. g.level) (node (Expr-F.Name text) (tree.Name text) (tree.rolls-Name text)).graded

pub int-height : (text : List ℕ) → expression_height (tree.Int text) ≡ 1
int-height text = (node (Expr-F.Int text) (tree.Int text) (tree.rolls-Int text)).high

pub int-level : (text : List ℕ) → (grade (tree.Int text)).level ≡ primary_level
int-level text = ap (λ g. g.level) (node (Expr-F.Int text) (tree.Int text) (tree.rolls-Int text)).graded

pub float-height : (text : List ℕ) → expression_height (tree.Float text) ≡ 1
float-height text = (node (Expr-F.Float text) (tree.Float text) (tree.rolls-Float text)).high

pub float-level : (text : List ℕ) → (grade (tree.Float text)).level ≡ primary_level
float-level text = ap (λ g. g.level) (node (Expr-F.Float text) (tree.Float text) (tree.rolls-Float text)).graded

pub truth-height : (value : Bool) → expression_height (tree.Truth value) ≡ 1
truth-height value = (node (Expr-F.Truth value) (tree.Truth value) (tree.rolls-Truth value)).high

pub truth-level : (value : Bool) → (grade (tree.Truth value)).level ≡ primary_level
truth-level value = ap (λ g. g.level) (node (Expr-F.Truth value) (tree.Truth value) (tree.rolls-Truth value)).graded

pub bracket-height : (e : Expr) → expression_height (tree.Bracket e) ≡ expression_height e + 1
bracket-height e = (node (Expr-F.Bracket e) (tree.Bracket e) (tree.rolls-Bracket e)).high

pub bracket-level : (e : Expr) → (grade (tree.Bracket e)).level ≡ primary_level
bracket-level e = ap (λ g. g.level) (node (Expr-F.Bracket e) (tree.Bracket e) (tree.rolls-Bracket e)).graded

pub call-height : (called : Callee) (all : List Expr) → expression_height (tree.Call called all) ≡ highest (map expression_height all) + 1
call-height called all = (node (Expr-F.Call called all) (tree.Call called all) (tree.rolls-Call called all)).high

pub call-level : (called : Callee) (all : List Expr) → (grade (tree.Call called all)).level ≡ primary_level
call-level called all = ap (λ g. g.level) (node (Expr-F.Call called all) (tree.Call called all) (tree.rolls-Call called all)).graded

pub callvoid-height : (called : Callee) → expression_height (tree.CallVoid called) ≡ 1
callvoid-height called = (node (Expr-F.CallVoid called) (tree.CallVoid called) (tree.rolls-CallVoid called)).high

pub callvoid-level : (called : Callee) → (grade (tree.CallVoid called)).level ≡ primary_level
callvoid-level called = ap (λ g. g.level) (node (Expr-F.CallVoid called) (tree.CallVoid called) (tree.rolls-CallVoid called)).graded

pub index-height : (base index : Expr) → expression_height (tree.Index base index) ≡ max (expression_height base) (expression_height index) + 1
index-height base index = (node (Expr-F.Index base index) (tree.Index base index) (tree.rolls-Index base index)).high

pub index-level : (base index : Expr) → (grade (tree.Index base index)).level ≡ postfix_level
index-level base index = ap (λ g. g.level) (node (Expr-F.Index base index) (tree.Index base index) (tree.rolls-Index base index)).graded

pub field-height : (base : Expr) (text : List ℕ) → expression_height (tree.Field base text) ≡ expression_height base + 1
field-height base text = (node (Expr-F.Field base text) (tree.Field base text) (tree.rolls-Field base text)).high

pub field-level : (base : Expr) (text : List ℕ) → (grade (tree.Field base text)).level ≡ postfix_level
field-level base text = ap (λ g. g.level) (node (Expr-F.Field base text) (tree.Field base text) (tree.rolls-Field base text)).graded

pub postfix-height : (e : Expr) (operator : PostfixOperator) → expression_height (tree.Postfix e operator) ≡ expression_height e + 1
postfix-height e operator = (node (Expr-F.Postfix e operator) (tree.Postfix e operator) (tree.rolls-Postfix e operator)).high

pub postfix-level : (e : Expr) (operator : PostfixOperator) → (grade (tree.Postfix e operator)).level ≡ postfix_level
postfix-level e operator = ap (λ g. g.level) (node (Expr-F.Postfix e operator) (tree.Postfix e operator) (tree.rolls-Postfix e operator)).graded

pub prefix-height : (operator : PrefixOperator) (e : Expr) → expression_height (tree.Prefix operator e) ≡ expression_height e + 1
prefix-height operator e = (node (Expr-F.Prefix operator e) (tree.Prefix operator e) (tree.rolls-Prefix operator e)).high

pub prefix-level : (operator : PrefixOperator) (e : Expr) → (grade (tree.Prefix operator e)).level ≡ prefix_level
prefix-level operator e = ap (λ g. g.level) (node (Expr-F.Prefix operator e) (tree.Prefix operator e) (tree.rolls-Prefix operator e)).graded

pub binary-height : (operator : BinaryOperator) (left right : Expr) → expression_height (tree.Binary operator left right) ≡ max (expression_height left) (expression_height right) + 1
binary-height operator left right = (node (Expr-F.Binary operator left right) (tree.Binary operator left right) (tree.rolls-Binary operator left right)).high

pub binary-level : (operator : BinaryOperator) (left right : Expr) → (grade (tree.Binary operator left right)).level ≡ binary_level operator
binary-level operator left right = ap (λ g. g.level) (node (Expr-F.Binary operator left right) (tree.Binary operator left right) (tree.rolls-Binary operator left right)).graded

pub conditional-height : (condition if_true if_false : Expr) → expression_height (tree.Conditional condition if_true if_false) ≡ max (expression_height condition) (max (expression_height if_true) (expression_height if_false)) + 1
conditional-height condition if_true if_false = (node (Expr-F.Conditional condition if_true if_false) (tree.Conditional condition if_true if_false) (tree.rolls-Conditional condition if_true if_false)).high

pub conditional-level : (condition if_true if_false : Expr) → (grade (tree.Conditional condition if_true if_false)).level ≡ conditional_level
conditional-level condition if_true if_false = ap (λ g. g.level) (node (Expr-F.Conditional condition if_true if_false) (tree.Conditional condition if_true if_false) (tree.rolls-Conditional condition if_true if_false)).graded

pub assign-height : (operator : AssignmentOperator) (target value : Expr) → expression_height (tree.Assign operator target value) ≡ max (expression_height target) (expression_height value) + 1
assign-height operator target value = (node (Expr-F.Assign operator target value) (tree.Assign operator target value) (tree.rolls-Assign operator target value)).high

pub assign-level : (operator : AssignmentOperator) (target value : Expr) → (grade (tree.Assign operator target value)).level ≡ assignment_level
assign-level operator target value = ap (λ g. g.level) (node (Expr-F.Assign operator target value) (tree.Assign operator target value) (tree.rolls-Assign operator target value)).graded

pub empty_call-height : (called : Callee) → expression_height (tree.Call called []) ≡ 1
unfolding highest
empty_call-height called = call-height called []

pub ruleset measures = (empty_call-height, name-height, int-height, float-height, truth-height, bracket-height, call-height, callvoid-height, index-height, field-height, postfix-height, prefix-height, binary-height, conditional-height, assign-height, name-level, int-level, float-level, truth-level, bracket-level, call-level, callvoid-level, index-level, field-level, postfix-level, prefix-level, binary-level, conditional-level, assign-level)

pub basic_type-height : (basic : Basic) → type_height (kind.Basic basic) ≡ 1
basic_type-height basic = (types.node (TypeSpecifier-F.Basic basic) (kind.Basic basic) (kind.rolls-Basic basic)).high

pub void-height : type_height kind.Void ≡ 1
void-height = (types.node TypeSpecifier-F.Void kind.Void kind.rolls-Void).high

pub named_type-height : (text : List ℕ) → type_height (kind.Name text) ≡ 1
named_type-height text = (types.node (TypeSpecifier-F.Name text) (kind.Name text) (kind.rolls-Name text)).high

pub struct-height : (text : Option (List ℕ)) (members : List Member) → type_height (kind.Struct text members) ≡ highest (map member_height members) + 1
struct-height text members = (types.node (TypeSpecifier-F.Struct text members) (kind.Struct text members) (kind.rolls-Struct text members)).high

pub ruleset type_heights = (basic_type-height, void-height, named_type-height, struct-height)

-- the highest of a list and one more
pub highest_more : {A : Type 0} (f : A → ℕ) (done : List A) (x : A) → highest (map f (done ++ x ∷ [])) ≡ max (highest (map f done)) (f x)
unfolding highest
highest_more f [] x = omega arith
highest_more f (a ∷ done) x =
    let more : highest (map f (done ++ x ∷ [])) ≡ max (highest (map f done)) (f x) = highest_more f done x in omega arith

pub highest_one : {A : Type 0} (f : A → ℕ) (x : A) → highest (map f (x ∷ [])) ≡ f x
unfolding highest
highest_one f x = omega arith

-- the same of the heights of sizes
abbrev of_size : SizedName → ℕ
of_size sized = size_height sized.size

pub sizes_more : (done : List SizedName) (x : SizedName) → highest (map (λ sized. size_height sized.size) (done ++ x ∷ [])) ≡ max (highest (map (λ sized. size_height sized.size) done)) (size_height x.size)
sizes_more done x = highest_more of_size done x

pub sizes_one : (x : SizedName) → highest (map (λ sized. size_height sized.size) (x ∷ [])) ≡ size_height x.size
sizes_one x = highest_one of_size x
