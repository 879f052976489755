-- The spelling of a well-formed declaration is read as that declaration.
use Rattle.std.proofs.Common.{◌≡◌, ◌≤◌, ◌+◌, ℕ, zero, suc, Bool, true, false, not, ◌&&◌, ◌||◌, cond, List, [], ◌∷◌, ◌++◌, map, Option, Some, None, codes, refl, sym, ap, ◌∙◌, subst, append_assoc, arith}
use Rattle.std.specs.List.{list_all}
use Rattle.std.proofs.lemmas.Bool.{and_parts, and_from, le-leb}
use Rattle.glsl_tree.specs.declared.declarations.TypeSpecifier.{TypeSpecifier}
use Rattle.glsl_tree.specs.declared.declarations.FullType.{FullType}
use Rattle.glsl_tree.specs.declared.declarations.Declarator.{Declarator}
use Rattle.glsl_tree.specs.declared.declarations.Declarator.TheVariants as declarator
use Rattle.glsl_tree.specs.declared.declarations.Parameter.{Parameter}
use Rattle.glsl_tree.specs.declared.declarations.Parameters.{Parameters}
use Rattle.glsl_tree.specs.declared.declarations.Parameters.TheVariants as parameters
use Rattle.glsl_tree.specs.declared.declarations.Head.{Head}
use Rattle.glsl_tree.specs.declared.declarations.Decl.{Decl}
use Rattle.glsl_tree.specs.declared.declarations.Decl.TheVariants as declaration
use Rattle.glsl_tree.specs.declared.expressions.Expr.{Expr}
use Rattle.glsl_tree.specs.declared.qualifiers.Precision.{Precision}
use Rattle.glsl_tree.specs.declared.qualifiers.Precision.TheVariants as precision
use Rattle.glsl_tree.specs.declared.qualifiers.Direction.{Direction}
use Rattle.glsl_tree.specs.declared.qualifiers.Direction.TheVariants as direction
use Rattle.glsl_tree.specs.Operators.{assignment_level, conditional_level}
use Rattle.glsl_tree.specs.Qualifiers.{precision_text, direction_text}
use Rattle.glsl_tree.specs.Expressions.{mark, word, name, separated, listed as spelled_listed, grade, expression_tokens, is_expression, expression_height, is_free}
use Rattle.glsl_tree.specs.Types.{name_tokens, precision_tokens, direction_tokens, size_tokens, type_tokens, is_free_or_absent, is_size, is_any, is_type, size_height, type_height}
use Rattle.glsl_tree.specs.Declarations.{full_type_tokens, declarator_tokens, constant_tokens, parameter_tokens, head_tokens, one_name, declaration_tokens, is_full_type, is_declarator, is_void, is_absent, is_void_alone, is_parameter, are_parameters, is_head, begins_with_name, is_declaration, full_type_height, declarator_height, parameter_height, parameters_height, head_height, declaration_height}
use Rattle.glsl_tree.specs.Token.{PlainToken}
use Rattle.glsl_parse.specs.declared.symbols.Begun.{Begun}
use Rattle.glsl_parse.specs.declared.symbols.Begun.TheVariants as begun
use Rattle.glsl_parse.specs.Readings.{after, past, made, below}
use Rattle.glsl_parse.specs.Symbols.{is_mark, is_word, is_name, precision_of, after_mark, after_word, begins_with_mark, name_at}
use Rattle.glsl_parse.specs.ExpressionReadings.{expression, listed}
use Rattle.glsl_parse.specs.TypeReadings.{storage_of, precision_at, direction_at, optional_name, size_after, optional_size, type_specifier, full_type}
use Rattle.glsl_parse.specs.DeclarationReadings.{declarator_of, declarator_at, declarators, constant_at, unless_void, parameter_of, parameter_at, after_void, listed_parameters, parameters_at, begins_head, headed, parameters_after, head_after, is_declared, variables_after, begun_after, precision_declared, invariant_declared, after_invariant, begun_at, ended, declaration_at, begins_declaration, begins_with_a_name, declares}
use Rattle.glsl_parse.proofs.SoundLists.{AllOf}
use Rattle.glsl_parse.proofs.SoundItems.{Fits, all_from}
use Rattle.glsl_parse.proofs.SoundDeclarations.{all_declarator_tokens, are_declarators, declarators_height, closed_tokens}
use Rattle.glsl_parse.proofs.CompleteLists.{listed_complete}
use Rattle.glsl_parse.proofs.CompleteJoined.{BeginsWith, begins_on, begins_as, begins_at, at_first}
use Rattle.glsl_parse.proofs.CompleteExpressions.{FollowsPart, comma_follows, end_follows, ends_at_semicolon, expression_complete}
use Rattle.glsl_parse.proofs.ExpressionStarts.{stood}
use Rattle.glsl_parse.proofs.TypeStarts.{BeginsType, type_starts, type_plain, NoStorage}
use Rattle.glsl_parse.proofs.CompleteTypes.{precision_is, NoPrecision, precision_complete, NoDirection, direction_complete, name_complete, optional_name_complete, size_after_complete, optional_size_complete, types_complete, qualified_starts, full_type_complete}
use Rattle.glsl_parse.proofs.DeclarationStarts.{full_spelled, void_after, no_default, no_invariant, parts_declare, Leads, full_leads, default_leads, invariant_leads}

-- what follows a declarator: a comma or a semicolon
pub record FollowsDeclarator (rest : List PlainToken) : Type 0 where
  pub no_size : after_mark (codes "[") rest ≡ None
  pub no_value : after_mark (codes "=") rest ≡ None
  pub no_bracket : begins_with_mark (codes "(") rest ≡ false
  pub part : FollowsPart rest

comma_declarator : (rest : List PlainToken) → FollowsDeclarator (mark (codes ",") ∷ rest)
unfolding after_mark is_mark
comma_declarator rest = record { no_size = refl; no_value = refl; no_bracket = refl; part = comma_follows rest }

end_declarator : (rest : List PlainToken) → FollowsDeclarator (mark (codes ";") ∷ rest)
unfolding after_mark is_mark
end_declarator rest = record {
  no_size = refl;
  no_value = refl;
  no_bracket = refl;
  part = end_follows (mark (codes ";")) rest
      ends_at_semicolon;
}

-- a part of a list
pub part_complete : (n : ℕ) (e : Expr) (rest : List PlainToken) → is_expression assignment_level e ≡ true → expression_height e ≤ n
    → FollowsPart rest → expression n assignment_level (expression_tokens e ++ rest) ≡ Some (e, rest)
part_complete n e rest fits high follows =
    let k = stood assignment_level e fits in
    expression_complete n assignment_level e rest (omega arith) k.fits k.high high (follows.ends (grade e).level k.high) follows.below

name_declared : (n : ℕ) (text : List ℕ) (rest : List PlainToken) → FollowsDeclarator rest → declarator_of n text rest
    ≡ Some (declarator.Name text, rest)
unfolding declarator_of
name_declared n text rest f =
    ap (λ o. elim o [
      | Some rest ↦ below n (λ m. made (declarator.Array text) (size_after m rest))
      | None ↦ elim (after_mark (codes "=") rest) [
        | Some rest ↦ made (declarator.Initialized text) (expression n assignment_level rest)
        | None ↦ Some (declarator.Name text, rest)
      ]
    ]) f.no_size
    ∙ ap (λ o. elim o [
      | Some rest ↦ made (declarator.Initialized text) (expression n assignment_level rest)
      | None ↦ Some (declarator.Name text, rest)
    ]) f.no_value

array_declared : (n : ℕ) (text : List ℕ) (size : Expr) (rest : List PlainToken) → is_expression conditional_level size ≡ true
    → size_height (Some size) ≤ n
    → declarator_of n text (size_tokens (Some size) ++ rest) ≡ Some (declarator.Array text size, rest)
unfolding declarator_of after_mark is_mark
array_declared zero text size rest fits high = absurd (omega arith)
array_declared (suc m) text size rest fits high = ap (made (declarator.Array text)) (size_after_complete m size rest fits (omega arith))

value_declared : (n : ℕ) (text : List ℕ) (value : Expr) (rest : List PlainToken) → is_expression assignment_level value ≡ true
    → expression_height value ≤ n → FollowsPart rest
    → declarator_of n text (mark (codes "=") ∷ (expression_tokens value ++ rest)) ≡ Some (declarator.Initialized text value, rest)
unfolding declarator_of after_mark is_mark
value_declared n text value rest fits high follows =
    ap (made (declarator.Initialized text)) (part_complete n value rest fits high follows)

declarator_complete : (n : ℕ) (d : Declarator) (rest : List PlainToken) → Fits is_declarator declarator_height (suc n) d
    → FollowsDeclarator rest → declarator_at n (declarator_tokens d ++ rest) ≡ Some (d, rest)
unfolding declarator_at
declarator_complete n (declarator.Name text) rest fit f =
    ap (λ r. after r (declarator_of n)) (name_complete text rest fit.fits) ∙ name_declared n text rest f
declarator_complete n (declarator.Array text size) rest fit f =
    let both = and_parts _ _ fit.fits in
    ap (λ r. after r (declarator_of n)) (name_complete text (size_tokens (Some size) ++ rest) both.0)
    ∙ array_declared n text size rest both.1 (omega (arith, fit.high))
declarator_complete n (declarator.Initialized text value) rest fit f =
    let both = and_parts _ _ fit.fits in
    ap (λ r. after r (declarator_of n)) (name_complete text (mark (codes "=") ∷ (expression_tokens value ++ rest)) both.0)
    ∙ value_declared n text value rest both.1 (omega (arith, fit.high)) f.part

-- a declarator has a height
declarator_positive : (d : Declarator) → 1 ≤ declarator_height d
declarator_positive (declarator.Name text) = omega arith
declarator_positive (declarator.Array text size) = omega arith
declarator_positive (declarator.Initialized text value) = omega arith

-- a declarator is a name, and no bracket follows the name
pub record NamedOnly (list : List PlainToken) : Type 0 where
  pub text : List ℕ
  pub more : List PlainToken
  pub are : list ≡ name text ∷ more
  pub free : is_free text ≡ true
  pub no_bracket : begins_with_mark (codes "(") more ≡ false

declarator_named : (d : Declarator) (rest : List PlainToken) → is_declarator d ≡ true → begins_with_mark (codes "(") rest ≡ false
    → NamedOnly (declarator_tokens d ++ rest)
unfolding is_mark
declarator_named (declarator.Name text) rest fits none = record { text = text; more = rest; are = refl; free = fits; no_bracket = none }
declarator_named (declarator.Array text size) rest fits none =
    record { text = text; more = size_tokens (Some size) ++ rest; are = refl; free = (and_parts _ _ fits).0; no_bracket = refl }
declarator_named (declarator.Initialized text value) rest fits none =
    record {
      text = text;
      more = mark (codes "=") ∷ (expression_tokens value ++ rest);
      are = refl;
      free = (and_parts _ _ fits).0;
      no_bracket = refl;
    }

first_named : (d : Declarator) (others : List Declarator) (rest : List PlainToken) → is_declarator d ≡ true
    → NamedOnly (all_declarator_tokens (d ∷ others) ++ (mark (codes ";") ∷ rest))
unfolding is_mark
first_named d [] rest fits = subst NamedOnly (sym (append_assoc (declarator_tokens d) [] (mark (codes ";") ∷ rest)))
    (declarator_named d (mark (codes ";") ∷ rest) fits refl)
first_named d (b ∷ others) rest fits =
    subst NamedOnly (sym (append_assoc (declarator_tokens d) (spelled_listed false (map declarator_tokens (b ∷ others)))
    (mark (codes ";") ∷ rest)))
    (declarator_named d (spelled_listed false (map declarator_tokens (b ∷ others)) ++ (mark (codes ";") ∷ rest)) fits refl)

no_head_name : (text : List ℕ) (more : List PlainToken) → begins_with_mark (codes "(") more ≡ false → begins_head (name text ∷ more)
    ≡ false
unfolding begins_head is_name
no_head_name text more e = ap (λ b. is_free text && b) e ∙ never (is_free text)
  where
    never : (b : Bool) → (b && false) ≡ false
    never true = refl
    never false = refl

no_head_semicolon : (rest : List PlainToken) → begins_head (mark (codes ";") ∷ rest) ≡ false
unfolding begins_head is_name
no_head_semicolon rest = refl

no_head : (all : List Declarator) (rest : List PlainToken) → are_declarators all ≡ true
    → begins_head (all_declarator_tokens all ++ (mark (codes ";") ∷ rest)) ≡ false
no_head [] rest fits = no_head_semicolon rest
no_head (d ∷ others) rest fits = let k =
    first_named d others rest (and_parts _ _ fits).0 in ap begins_head k.are ∙ no_head_name k.text k.more k.no_bracket

no_declarator : (room : ℕ) (rest : List PlainToken) → declarators room (mark (codes ";") ∷ rest) ≡ Some ([], mark (codes ";") ∷ rest)
unfolding declarators is_mark
no_declarator room rest = refl

some_declarators : (room : ℕ) (list : List PlainToken) → NamedOnly list → declarators room list
    ≡ below room (λ n. listed (declarator_at n) list)
unfolding declarators is_mark
some_declarators room list k = ap (λ w. cond (begins_with_mark (codes ";") w) (Some ([], list))
    (below room (λ n. listed (declarator_at n) list))) k.are

listed_declarators : (room : ℕ) (first : Declarator) (others : List Declarator) (rest : List PlainToken)
    → AllOf (Fits is_declarator declarator_height room) (first ∷ others)
    → below room (λ n. listed (declarator_at n) (all_declarator_tokens (first ∷ others) ++ (mark (codes ";") ∷ rest)))
    ≡ Some (first ∷ others, mark (codes ";") ∷ rest)
unfolding after_mark is_mark
listed_declarators zero first others rest fit = absurd (omega (arith, fit.0.high, declarator_positive first))
listed_declarators (suc n) first others rest fit =
    listed_complete (declarator_at n) declarator_tokens (Fits is_declarator declarator_height (suc n)) FollowsDeclarator
    (declarator_complete n) comma_declarator first others (mark (codes ";") ∷ rest) fit (end_declarator rest) refl

declarators_complete : (room : ℕ) (all : List Declarator) (rest : List PlainToken) → are_declarators all ≡ true
    → declarators_height all ≤ room
    → declarators room (all_declarator_tokens all ++ (mark (codes ";") ∷ rest)) ≡ Some (all, mark (codes ";") ∷ rest)
declarators_complete room [] rest fits high = no_declarator room rest
declarators_complete room (first ∷ others) rest fits high =
    some_declarators room _ (first_named first others rest (and_parts _ _ fits).0)
    ∙ listed_declarators room first others rest (all_from is_declarator declarator_height room (first ∷ others) fits high)

-- Parameters.

-- a token that is no `const`
record NoConstant (t : PlainToken) : Type 0 where
  is : is_word (codes "const") t ≡ false

not_constant : (t : PlainToken) (more : List PlainToken) → NoConstant t
    → ◌≡◌ {A = Bool × List PlainToken} (constant_at (t ∷ more)) (false, t ∷ more)
unfolding constant_at after_word
not_constant t more absent = ap (λ b. elim (cond b (Some more) None) as (λ x. Bool × List PlainToken)
    [ Some rest ↦ (true, rest) | None ↦ (false, t ∷ more) ]) absent.is

constant_complete : (c : Bool) (list : List PlainToken) → BeginsWith NoConstant list
    → ◌≡◌ {A = Bool × List PlainToken} (constant_at (constant_tokens c ++ list)) (c, list)
unfolding constant_at after_word is_word
constant_complete true list b = refl
constant_complete false list b = at_first NoConstant (λ w. ◌≡◌ {A = Bool × List PlainToken} (constant_at w) (false, w)) list b
    not_constant

storage_no_constant : (t : PlainToken) → NoStorage t → NoConstant t
storage_no_constant t absent = record { is = absent.no_constant }

storage_no_direction : (t : PlainToken) → NoStorage t → NoDirection t
storage_no_direction t absent = record { is = absent.no_direction }

type_no_precision : (t : PlainToken) → BeginsType t → NoPrecision t
type_no_precision t b = record { is = (type_plain t b).no_precision }

direction_no_constant : (d : Direction) → NoConstant (word (direction_text d))
unfolding is_word
direction_no_constant direction.In = record { is = refl }
direction_no_constant direction.Out = record { is = refl }
direction_no_constant direction.InOut = record { is = refl }

directed_starts : (d : Option Direction) (list : List PlainToken) → BeginsWith NoStorage list
    → BeginsWith NoConstant (direction_tokens d ++ list)
directed_starts None list b = begins_as NoStorage NoConstant list storage_no_constant b
directed_starts (Some d) list b = begins_at NoConstant _ _ (direction_no_constant d)

-- what follows a parameter: a comma or a bracket
pub record FollowsParameter (rest : List PlainToken) : Type 0 where
  pub no_name : name_at rest ≡ None
  pub no_size : after_mark (codes "[") rest ≡ None

comma_parameter : (rest : List PlainToken) → FollowsParameter (mark (codes ",") ∷ rest)
unfolding after_mark is_mark name_at is_name
comma_parameter rest = record { no_name = refl; no_size = refl }

end_parameter : (rest : List PlainToken) → FollowsParameter (mark (codes ")") ∷ rest)
unfolding after_mark is_mark name_at is_name
end_parameter rest = record { no_name = refl; no_size = refl }

no_name_size : (size : Option Expr) (rest : List PlainToken) → name_at rest ≡ None → name_at (size_tokens size ++ rest) ≡ None
unfolding name_at is_name
no_name_size (Some size) rest none = refl
no_name_size None rest none = none

-- the tokens of a parameter before others, one part after another
parameter_spelled : (p : Parameter) (rest : List PlainToken) → parameter_tokens p ++ rest
    ≡ constant_tokens p.is_constant ++ (direction_tokens p.direction
    ++ (precision_tokens p.precision ++ (type_tokens p.kind ++ (name_tokens p.name ++ (size_tokens p.size ++ rest)))))
parameter_spelled p rest =
    append_assoc (constant_tokens p.is_constant)
    (direction_tokens p.direction ++ (precision_tokens p.precision
    ++ (type_tokens p.kind ++ (name_tokens p.name ++ size_tokens p.size)))) rest
    ∙ ap (λ w. constant_tokens p.is_constant ++ w)
    (append_assoc (direction_tokens p.direction)
    (precision_tokens p.precision ++ (type_tokens p.kind ++ (name_tokens p.name ++ size_tokens p.size))) rest
    ∙ ap (λ w. direction_tokens p.direction ++ w)
    (append_assoc (precision_tokens p.precision) (type_tokens p.kind ++ (name_tokens p.name ++ size_tokens p.size)) rest
    ∙ ap (λ w. precision_tokens p.precision ++ w) (append_assoc (type_tokens p.kind) (name_tokens p.name ++ size_tokens p.size) rest
    ∙ ap (λ w. type_tokens p.kind ++ w) (append_assoc (name_tokens p.name) (size_tokens p.size) rest))))

-- a parameter that is well formed is not `void` alone
is_parameter-parts : (p : Parameter) → is_parameter p ≡ true → (is_type p.kind ≡ true) × (is_free_or_absent p.name ≡ true)
    × (is_size p.size ≡ true) × (is_void_alone p ≡ false)
is_parameter-parts p fits =
    let a = and_parts _ _ fits in
    let b = and_parts _ _ a.1 in
    let c = and_parts _ _ b.1 in
    (a.0, b.0, c.0, not_alone (is_void_alone p) c.1)
  where
    not_alone : (b : Bool) → not b ≡ true → b ≡ false
    not_alone true e = absurd cc
    not_alone false e = refl

parameter_complete : (n : ℕ) (p : Parameter) (rest : List PlainToken) → Fits is_parameter parameter_height (suc n) p
    → FollowsParameter rest → parameter_at n (parameter_tokens p ++ rest) ≡ Some (p, rest)
unfolding parameter_at
parameter_complete n p rest fit f =
    let parts = is_parameter-parts p fit.fits in
    let begins = qualified_starts p.precision p.kind (name_tokens p.name ++ (size_tokens p.size ++ rest)) parts.0 in
    ap (parameter_at n) (parameter_spelled p rest)
    ∙ ap (λ (c : Bool × List PlainToken). unless_void (after (type_specifier n (precision_at (direction_at c.1).1).1) (λ k rest.
    made (parameter_of c.0 (direction_at c.1).0 (precision_at (direction_at c.1).1).0 k (optional_name rest).0)
    (optional_size n (optional_name rest).1))))
    (constant_complete p.is_constant (direction_tokens p.direction
    ++ (precision_tokens p.precision ++ (type_tokens p.kind ++ (name_tokens p.name ++ (size_tokens p.size ++ rest)))))
    (directed_starts p.direction (precision_tokens p.precision
    ++ (type_tokens p.kind ++ (name_tokens p.name ++ (size_tokens p.size ++ rest)))) begins))
    ∙ ap (λ (d : Option Direction × List PlainToken). unless_void (after (type_specifier n (precision_at d.1).1) (λ k rest.
    made (parameter_of p.is_constant d.0 (precision_at d.1).0 k (optional_name rest).0) (optional_size n (optional_name rest).1))))
    (direction_complete p.direction (precision_tokens p.precision
    ++ (type_tokens p.kind ++ (name_tokens p.name ++ (size_tokens p.size ++ rest))))
    (begins_as NoStorage NoDirection _ storage_no_direction begins))
    ∙ ap (λ (q : Option Precision × List PlainToken). unless_void (after (type_specifier n q.1) (λ k rest.
    made (parameter_of p.is_constant p.direction q.0 k (optional_name rest).0) (optional_size n (optional_name rest).1))))
    (precision_complete p.precision (type_tokens p.kind ++ (name_tokens p.name ++ (size_tokens p.size ++ rest)))
    (begins_as BeginsType NoPrecision _ type_no_precision
    (begins_on BeginsType (type_tokens p.kind) (name_tokens p.name ++ (size_tokens p.size ++ rest))
    (type_starts p.kind parts.0))))
    ∙ ap (λ r. unless_void (after r (λ k rest. made (parameter_of p.is_constant p.direction p.precision k (optional_name rest).0)
    (optional_size n (optional_name rest).1))))
    ((types_complete n).types p.kind (name_tokens p.name ++ (size_tokens p.size ++ rest))
    (record { fits = parts.0; high = omega (arith, fit.high) }))
    ∙ ap (λ (o : Option (List ℕ) × List PlainToken). unless_void
    (made (parameter_of p.is_constant p.direction p.precision p.kind o.0) (optional_size n o.1)))
    (optional_name_complete p.name (size_tokens p.size ++ rest) parts.1 (no_name_size p.size rest f.no_name))
    ∙ ap (λ r. unless_void (made (parameter_of p.is_constant p.direction p.precision p.kind p.name) r))
    (optional_size_complete n p.size rest parts.2 (omega (arith, fit.high)) f.no_size)
    ∙ ap (λ b. cond b None (Some (p, rest))) parts.3

parameter_positive : (p : Parameter) → 1 ≤ parameter_height p
parameter_positive p = omega arith

-- a list that begins with no closing bracket, and not with `void` and one
record NoEnd (list : List PlainToken) : Type 0 where
  no_bracket : after_mark (codes ")") list ≡ None
  no_void : after_void list ≡ None

-- a word that begins a parameter, and is not `void`
record OtherWord (t : PlainToken) : Type 0 where
  no_bracket : is_mark (codes ")") t ≡ false
  no_void : is_word (codes "void") t ≡ false

other_word : (t : PlainToken) (more : List PlainToken) → OtherWord t → NoEnd (t ∷ more)
unfolding after_mark after_void after_word
other_word t more o = record {
  no_bracket = ap (λ b. cond b (Some more) None) o.no_bracket;
  no_void = ap (λ b. elim (cond b (Some more) None) [ Some rest ↦ after_mark (codes ")") rest | None ↦ None ]) o.no_void;
}

const_other : OtherWord (word (codes "const"))
unfolding is_mark is_word
const_other = record { no_bracket = refl; no_void = refl }

direction_other : (d : Direction) → OtherWord (word (direction_text d))
unfolding is_mark is_word
direction_other direction.In = record { no_bracket = refl; no_void = refl }
direction_other direction.Out = record { no_bracket = refl; no_void = refl }
direction_other direction.InOut = record { no_bracket = refl; no_void = refl }

precision_other : (p : Precision) → OtherWord (word (precision_text p))
unfolding is_mark is_word
precision_other precision.Low = record { no_bracket = refl; no_void = refl }
precision_other precision.Medium = record { no_bracket = refl; no_void = refl }
precision_other precision.High = record { no_bracket = refl; no_void = refl }

type_no_bracket : (t : PlainToken) (more : List PlainToken) → BeginsType t → after_mark (codes ")") (t ∷ more) ≡ None
unfolding after_mark is_mark
type_no_bracket t more (BeginsType.type_basic kind e) = ap (λ (u : PlainToken). after_mark (codes ")") (u ∷ more)) e
type_no_bracket t more (BeginsType.type_void e) = ap (λ (u : PlainToken). after_mark (codes ")") (u ∷ more)) e
type_no_bracket t more (BeginsType.type_name text free e) = ap (λ (u : PlainToken). after_mark (codes ")") (u ∷ more)) e
type_no_bracket t more (BeginsType.type_struct e) = ap (λ (u : PlainToken). after_mark (codes ")") (u ∷ more)) e

no_bracket_after : (text : Option (List ℕ)) (size : Option Expr) (rest : List PlainToken) → (is_absent text && is_absent size)
    ≡ false → after_mark (codes ")") (name_tokens text ++ (size_tokens size ++ rest)) ≡ None
unfolding after_mark is_mark
no_bracket_after (Some text) size rest e = refl
no_bracket_after None (Some size) rest e = refl
no_bracket_after None None rest e = absurd cc

parts_no_end : (c : Bool) (d : Option Direction) (q : Option Precision) (k : TypeSpecifier) (text : Option (List ℕ))
    (size : Option Expr) (rest : List PlainToken) → is_type k ≡ true
    → (not c && (is_absent d && (is_absent q && (is_void k && (is_absent text && is_absent size))))) ≡ false
    → NoEnd (constant_tokens c ++ (direction_tokens d
    ++ (precision_tokens q ++ (type_tokens k ++ (name_tokens text ++ (size_tokens size ++ rest))))))
parts_no_end true d q k text size rest fits e = other_word _ _ const_other
parts_no_end false (Some d) q k text size rest fits e = other_word _ _ (direction_other d)
parts_no_end false None (Some q) k text size rest fits e = other_word _ _ (precision_other q)
parts_no_end false None None k text size rest fits e = record {
  no_bracket = at_first BeginsType (λ w. after_mark (codes ")") w ≡ None) _
      (begins_on BeginsType (type_tokens k) (name_tokens text ++ (size_tokens size ++ rest)) (type_starts k fits)) type_no_bracket;
  no_void = void_after k (name_tokens text ++ (size_tokens size ++ rest))
      (λ is. no_bracket_after text size rest (sym (ap (λ b. b && (is_absent text && is_absent size)) is) ∙ e));
}

parameter_no_end : (p : Parameter) (rest : List PlainToken) → is_parameter p ≡ true → NoEnd (parameter_tokens p ++ rest)
parameter_no_end p rest fits =
    let parts = is_parameter-parts p fits in
    subst NoEnd (sym (parameter_spelled p rest)) (parts_no_end p.is_constant p.direction p.precision p.kind p.name p.size rest parts.0
    parts.3)

listed_parameters_complete : (room : ℕ) (first : Parameter) (others : List Parameter) (rest : List PlainToken)
    → AllOf (Fits is_parameter parameter_height room) (first ∷ others)
    → listed_parameters room (closed_tokens (parameters.Listed (first ∷ others)) ++ rest)
    ≡ Some (parameters.Listed (first ∷ others), rest)
unfolding listed_parameters after_mark is_mark
listed_parameters_complete zero first others rest fit = absurd (omega (arith, fit.0.high, parameter_positive first))
listed_parameters_complete (suc n) first others rest fit =
    ap (λ list. after (listed (parameter_at n) list)
    (λ all rest. past (after_mark (codes ")") rest) (λ rest. Some (parameters.Listed all, rest))))
    (append_assoc (separated (map parameter_tokens (first ∷ others))) (mark (codes ")") ∷ []) rest)
    ∙ ap (λ r. after r (λ all rest. past (after_mark (codes ")") rest) (λ rest. Some (parameters.Listed all, rest))))
    (listed_complete (parameter_at n) parameter_tokens (Fits is_parameter parameter_height (suc n)) FollowsParameter
    (parameter_complete n) comma_parameter first others (mark (codes ")") ∷ rest) fit (end_parameter rest) refl)

some_parameters : (room : ℕ) (list : List PlainToken) → NoEnd list → parameters_at room list ≡ listed_parameters room list
unfolding parameters_at
some_parameters room list k =
    ap (λ o. elim o [
      | Some rest ↦ Some (parameters.Listed [], rest)
      | None ↦ elim (after_void list) [
        | Some rest ↦ Some (parameters.Void, rest)
        | None ↦ listed_parameters room list
      ]
    ]) k.no_bracket
    ∙ ap (λ o. elim o [
      | Some rest ↦ Some (parameters.Void, rest)
      | None ↦ listed_parameters room list
    ]) k.no_void

no_parameters : (room : ℕ) (rest : List PlainToken) → parameters_at room (mark (codes ")") ∷ rest) ≡ Some (parameters.Listed [], rest)
unfolding parameters_at after_mark is_mark
no_parameters room rest = refl

void_parameters : (room : ℕ) (rest : List PlainToken) → parameters_at room (word (codes "void") ∷ mark (codes ")") ∷ rest)
    ≡ Some (parameters.Void, rest)
unfolding parameters_at after_mark is_mark after_void after_word is_word
void_parameters room rest = refl

parameters_complete : (room : ℕ) (p : Parameters) (rest : List PlainToken) → are_parameters p ≡ true → parameters_height p ≤ room
    → parameters_at room (closed_tokens p ++ rest) ≡ Some (p, rest)
parameters_complete room parameters.Void rest fits high = void_parameters room rest
parameters_complete room (parameters.Listed []) rest fits high = no_parameters room rest
parameters_complete room (parameters.Listed (first ∷ others)) rest fits high =
    some_parameters room (closed_tokens (parameters.Listed (first ∷ others)) ++ rest)
    (subst NoEnd (sym (append_assoc (parameter_tokens first ++ spelled_listed false (map parameter_tokens others))
    (mark (codes ")") ∷ []) rest
    ∙ append_assoc (parameter_tokens first) (spelled_listed false (map parameter_tokens others)) (mark (codes ")") ∷ rest)))
    (parameter_no_end first (spelled_listed false (map parameter_tokens others) ++ (mark (codes ")") ∷ rest)) (and_parts _ _ fits).0))
    ∙ listed_parameters_complete room first others rest (all_from is_parameter parameter_height room (first ∷ others) fits high)

-- Heads and declarations.
head_complete : (room : ℕ) (head : Head) (rest : List PlainToken) → is_head head ≡ true → head_height head ≤ room
    → head_after room head.full_type (name head.name ∷ mark (codes "(") ∷ (closed_tokens head.parameters ++ rest)) ≡ Some (head, rest)
unfolding head_after parameters_after after_mark is_mark
head_complete zero head rest fits high = absurd (omega arith)
head_complete (suc n) head rest fits high =
    let a = and_parts _ _ fits in
    let b = and_parts _ _ a.1 in
    ap (λ r. after r (λ text rest. past (after_mark (codes "(") rest) (parameters_after (suc n) head.full_type text)))
    (name_complete head.name (mark (codes "(") ∷ (closed_tokens head.parameters ++ rest)) b.0)
    ∙ ap (λ b. cond b (made (headed head.full_type head.name) (parameters_at n (closed_tokens head.parameters ++ rest))) None)
    (le-leb (full_type_height head.full_type) n (omega arith))
    ∙ ap (made (headed head.full_type head.name)) (parameters_complete n head.parameters rest b.1 (omega arith))

a_head : (text : List ℕ) (rest : List PlainToken) → is_free text ≡ true → begins_head (name text ∷ mark (codes "(") ∷ rest) ≡ true
unfolding begins_head is_name is_mark
a_head text rest free = and_from (is_free text) true free refl

declared_is : (full : FullType) (all : List Declarator) → (is_any all || not (begins_with_name full)) ≡ true → is_declared full all ≡ true
unfolding is_declared
declared_is full [] e = e
declared_is full (d ∷ more) e = refl

variables_complete : (n : ℕ) (full : FullType) (all : List Declarator) (rest : List PlainToken) → are_declarators all ≡ true
    → declarators_height all ≤ n → is_declared full all ≡ true
    → variables_after n full (all_declarator_tokens all ++ (mark (codes ";") ∷ rest)) ≡ Some (declaration.Variables full all, rest)
unfolding variables_after after_mark is_mark
variables_complete n full all rest fits high declared =
    ap (λ r. after r (λ all rest. past (after_mark (codes ";") rest)
    (λ rest. cond (is_declared full all) (Some (declaration.Variables full all, rest)) None)))
    (declarators_complete n all rest fits high)
    ∙ ap (λ b. cond b (Some (declaration.Variables full all, rest)) None) declared

-- what begins after a type
begun_full : (n : ℕ) (full : FullType) (more rest : List PlainToken) (b : Begun) → Fits is_full_type full_type_height n full
    → begun_after n full more ≡ Some (b, rest)
    → begun_at n (full_type_tokens full ++ more) ≡ Some (b, rest)
unfolding begun_at
begun_full n full more rest b fit is =
    let begins = qualified_starts full.precision full.kind more fit.fits in
    ap (λ o. elim o [
      | Some rest ↦ made begun.Whole (precision_declared n rest)
      | None ↦ elim (after_invariant (full_type_tokens full ++ more)) [
        | Some rest ↦ made begun.Whole (invariant_declared rest)
        | None ↦ after (full_type n (full_type_tokens full ++ more)) (begun_after n)
      ]
    ]) (ap (after_word (codes "precision")) (full_spelled full more)
    ∙ no_default full.storage (precision_tokens full.precision ++ (type_tokens full.kind ++ more)) begins)
    ∙ ap (λ o. elim o [
      | Some rest ↦ made begun.Whole (invariant_declared rest)
      | None ↦ after (full_type n (full_type_tokens full ++ more)) (begun_after n)
    ]) (ap after_invariant (full_spelled full more)
    ∙ no_invariant full.storage (precision_tokens full.precision ++ (type_tokens full.kind ++ more)) begins)
    ∙ ap (λ r. after r (begun_after n)) (full_type_complete n full more fit)
    ∙ is

head_begun : (n : ℕ) (full : FullType) (list rest : List PlainToken) (head : Head) → begins_head list ≡ true → head_after n full list
    ≡ Some (head, rest) → begun_after n full list ≡ Some (begun.Headed head, rest)
unfolding begun_after
head_begun n full list rest head e is = ap
    (λ b. cond b (made begun.Headed (head_after n full list)) (made begun.Whole (variables_after n full list))) e
    ∙ ap (made begun.Headed) is

variables_begun : (n : ℕ) (full : FullType) (list rest : List PlainToken) (d : Decl) → begins_head list ≡ false
    → variables_after n full list ≡ Some (d, rest) → begun_after n full list ≡ Some (begun.Whole d, rest)
unfolding begun_after
variables_begun n full list rest d e is =
    ap (λ b. cond b (made begun.Headed (head_after n full list)) (made begun.Whole (variables_after n full list))) e
    ∙ ap (made begun.Whole) is

head_spelled : (head : Head) (rest : List PlainToken) → head_tokens head ++ rest
    ≡ full_type_tokens head.full_type ++ (name head.name ∷ mark (codes "(") ∷ (closed_tokens head.parameters ++ rest))
head_spelled head rest = append_assoc (full_type_tokens head.full_type)
    (name head.name ∷ mark (codes "(") ∷ closed_tokens head.parameters) rest

-- a function's head, before what ends it
pub headed_complete : (n : ℕ) (head : Head) (rest : List PlainToken) → is_head head ≡ true → head_height head ≤ n
    → begun_at n (head_tokens head ++ rest) ≡ Some (begun.Headed head, rest)
headed_complete n head rest fits high =
    let a = and_parts _ _ fits in
    let b = and_parts _ _ a.1 in
    ap (begun_at n) (head_spelled head rest)
    ∙ begun_full n head.full_type (name head.name ∷ mark (codes "(") ∷ (closed_tokens head.parameters ++ rest)) rest
    (begun.Headed head) (record { fits = a.0; high = omega arith })
    (head_begun n head.full_type (name head.name ∷ mark (codes "(") ∷ (closed_tokens head.parameters ++ rest)) rest head
    (a_head head.name (closed_tokens head.parameters ++ rest) b.0) (head_complete n head rest fits high))

pub default_complete : (n : ℕ) (p : Precision) (k : TypeSpecifier) (rest : List PlainToken) → is_type k ≡ true → type_height k ≤ n
    → begun_at n (word (codes "precision") ∷ word (precision_text p) ∷ ((type_tokens k ++ mark (codes ";") ∷ []) ++ rest))
    ≡ Some (begun.Whole (declaration.Precision p k), rest)
unfolding begun_at after_word is_word precision_declared after_mark is_mark
default_complete n p k rest fits high =
    ap (λ o. made begun.Whole (elim o [
      | None ↦ None
      | Some precision ↦ after (type_specifier n ((type_tokens k ++ mark (codes ";") ∷ []) ++ rest))
          (λ k rest. past (after_mark (codes ";") rest) (λ rest. Some (declaration.Precision precision k, rest)))
    ])) (precision_is p)
    ∙ ap (λ list. made begun.Whole (after (type_specifier n list)
    (λ k rest. past (after_mark (codes ";") rest) (λ rest. Some (declaration.Precision p k, rest)))))
    (append_assoc (type_tokens k) (mark (codes ";") ∷ []) rest)
    ∙ ap (λ r. made begun.Whole (after r (λ k rest. past (after_mark (codes ";") rest)
    (λ rest. Some (declaration.Precision p k, rest)))))
    ((types_complete n).types k (mark (codes ";") ∷ rest) (record { fits = fits; high = high }))

record FreeName (text : List ℕ) : Type 0 where
  free : is_free text ≡ true

free_names : (names : List (List ℕ)) → list_all is_free names ≡ true → AllOf FreeName names
free_names [] h = tt
free_names (text ∷ names) h = let both = and_parts _ _ h in (record { free = both.0 }, free_names names both.1)

names_complete : (first : List ℕ) (others : List (List ℕ)) (rest : List PlainToken) → AllOf FreeName (first ∷ others)
    → listed name_at (separated (map one_name (first ∷ others)) ++ (mark (codes ";") ∷ rest))
    ≡ Some (first ∷ others, mark (codes ";") ∷ rest)
unfolding after_mark is_mark
names_complete first others rest fit = listed_complete name_at one_name FreeName (λ list. Unit {0})
    (λ text rest f any. name_complete text rest f.free) (λ rest. tt) first others (mark (codes ";") ∷ rest) fit tt refl

invariant_at_name : (n : ℕ) (text : List ℕ) (more : List PlainToken) → begun_at n (word (codes "invariant") ∷ name text ∷ more)
    ≡ made begun.Whole (invariant_declared (name text ∷ more))
unfolding begun_at after_word is_word after_invariant
invariant_at_name n text more = refl

invariant_declared_complete : (first : List ℕ) (others : List (List ℕ)) (rest : List PlainToken) → AllOf FreeName (first ∷ others)
    → invariant_declared ((separated (map one_name (first ∷ others)) ++ mark (codes ";") ∷ []) ++ rest)
    ≡ Some (declaration.Invariant (first ∷ others), rest)
unfolding invariant_declared after_mark is_mark
invariant_declared_complete first others rest fit =
    ap invariant_declared (append_assoc (separated (map one_name (first ∷ others))) (mark (codes ";") ∷ []) rest)
    ∙ ap (λ r. after r (λ names rest. past (after_mark (codes ";") rest) (λ rest. Some (declaration.Invariant names, rest))))
    (names_complete first others rest fit)

pub invariant_complete : (n : ℕ) (names : List (List ℕ)) (rest : List PlainToken) → is_any names ≡ true → list_all is_free names ≡ true
    → begun_at n (word (codes "invariant") ∷ ((separated (map one_name names) ++ mark (codes ";") ∷ []) ++ rest))
    ≡ Some (begun.Whole (declaration.Invariant names), rest)
invariant_complete n [] rest any fits = absurd cc
invariant_complete n (first ∷ others) rest any fits =
    invariant_at_name n first _ ∙ ap (made begun.Whole) (invariant_declared_complete first others rest (free_names (first ∷ others) fits))

pub variables_whole : (n : ℕ) (full : FullType) (all : List Declarator) (rest : List PlainToken)
    → Fits is_declaration declaration_height (suc n) (declaration.Variables full all)
    → begun_at n (declaration_tokens (declaration.Variables full all) ++ rest) ≡ Some (begun.Whole (declaration.Variables full all), rest)
variables_whole n full all rest fit =
    let a = and_parts _ _ fit.fits in
    let b = and_parts _ _ a.1 in
    ap (begun_at n) (append_assoc (full_type_tokens full) (all_declarator_tokens all ++ mark (codes ";") ∷ []) rest
    ∙ ap (λ w. full_type_tokens full ++ w) (append_assoc (all_declarator_tokens all) (mark (codes ";") ∷ []) rest))
    ∙ begun_full n full (all_declarator_tokens all ++ (mark (codes ";") ∷ rest)) rest (begun.Whole (declaration.Variables full all))
    (record { fits = a.0; high = omega (arith, fit.high) })
    (variables_begun n full (all_declarator_tokens all ++ (mark (codes ";") ∷ rest)) rest (declaration.Variables full all)
    (no_head all rest b.0)
    (variables_complete n full all rest b.0 (omega (arith, fit.high)) (declared_is full all b.1)))

-- a declaration that is no prototype, whole
pub whole_complete : (n : ℕ) (d : Decl) (rest : List PlainToken) → Fits is_declaration declaration_height (suc n) d
    → after (begun_at n (declaration_tokens d ++ rest)) ended ≡ Some (d, rest)
unfolding after_mark is_mark
whole_complete n (declaration.Prototype head) rest fit =
    ap (λ list. after (begun_at n list) ended) (append_assoc (head_tokens head) (mark (codes ";") ∷ []) rest)
    ∙ ap (λ r. after r ended) (headed_complete n head (mark (codes ";") ∷ rest) fit.fits (omega (arith, fit.high)))
whole_complete n (declaration.Precision p k) rest fit =
    ap (λ r. after r ended) (default_complete n p k rest fit.fits (omega (arith, fit.high)))
whole_complete n (declaration.Invariant names) rest fit = let both =
    and_parts _ _ fit.fits in ap (λ r. after r ended) (invariant_complete n names rest both.0 both.1)
whole_complete n (declaration.Variables full all) rest fit = ap (λ r. after r ended) (variables_whole n full all rest fit)

declaration_positive : (d : Decl) → 1 ≤ declaration_height d
declaration_positive (declaration.Prototype head) = omega arith
declaration_positive (declaration.Precision p k) = omega arith
declaration_positive (declaration.Invariant names) = omega arith
declaration_positive (declaration.Variables full all) = omega arith

pub declaration_complete : (room : ℕ) (d : Decl) (rest : List PlainToken) → Fits is_declaration declaration_height room d
    → declaration_at room (declaration_tokens d ++ rest) ≡ Some (d, rest)
unfolding declaration_at
declaration_complete zero d rest fit = absurd (omega (arith, fit.high, declaration_positive d))
declaration_complete (suc n) d rest fit = whole_complete n d rest fit

-- a declaration declares
full_declares : (full : FullType) (more : List PlainToken) → is_full_type full ≡ true → begins_with_mark (codes "(") more ≡ false
    → (begins_with_name full ≡ true → begins_with_a_name more ≡ true)
    → declares (full_type_tokens full ++ more) ≡ true
full_declares full more fits none named =
    ap declares (full_spelled full more) ∙ parts_declare full.storage full.precision full.kind more fits none named

name_first : (text : List ℕ) (more : List PlainToken) → is_free text ≡ true → begins_with_a_name (name text ∷ more) ≡ true
unfolding is_name
name_first text more free = free

name_no_bracket : (text : List ℕ) (more : List PlainToken) → begins_with_mark (codes "(") (name text ∷ more) ≡ false
unfolding is_mark
name_no_bracket text more = refl

-- a type before a name declares
pub named_declares : (full : FullType) (text : List ℕ) (more : List PlainToken) → is_full_type full ≡ true → is_free text ≡ true
    → declares (full_type_tokens full ++ (name text ∷ more)) ≡ true
named_declares full text more fits free =
    full_declares full (name text ∷ more) fits (name_no_bracket text more) (λ is. name_first text more free)

default_declares : (more : List PlainToken) → declares (word (codes "precision") ∷ more) ≡ true
unfolding declares begins_declaration storage_of precision_of is_word
default_declares more = refl

invariant_declares : (more : List PlainToken) → declares (word (codes "invariant") ∷ more) ≡ true
unfolding declares begins_declaration storage_of precision_of is_word
invariant_declares more = refl

variables_declare : (full : FullType) (all : List Declarator) (rest : List PlainToken) → is_full_type full ≡ true
    → are_declarators all ≡ true → (is_any all || not (begins_with_name full)) ≡ true
    → declares (full_type_tokens full ++ (all_declarator_tokens all ++ (mark (codes ";") ∷ rest))) ≡ true
unfolding is_mark
variables_declare full [] rest fits each any =
    full_declares full (mark (codes ";") ∷ rest) fits refl (λ is. never (begins_with_name full) is any)
  where
    never : {P : Type 0} (b : Bool) → b ≡ true → not b ≡ true → P
    never true e f = absurd cc
    never false e f = absurd cc
variables_declare full (d ∷ others) rest fits each any =
    let k = first_named d others rest (and_parts _ _ each).0 in
    ap (λ w. declares (full_type_tokens full ++ w)) k.are ∙ named_declares full k.text k.more fits k.free

pub declaration_declares : (d : Decl) (rest : List PlainToken) → is_declaration d ≡ true → declares (declaration_tokens d ++ rest) ≡ true
declaration_declares (declaration.Prototype head) rest fits =
    let a = and_parts _ _ fits in
    ap declares (append_assoc (head_tokens head) (mark (codes ";") ∷ []) rest ∙ head_spelled head (mark (codes ";") ∷ rest))
    ∙ named_declares head.full_type head.name _ a.0 (and_parts _ _ a.1).0
declaration_declares (declaration.Precision p k) rest fits = default_declares _
declaration_declares (declaration.Invariant names) rest fits = invariant_declares _
declaration_declares (declaration.Variables full all) rest fits =
    let a = and_parts _ _ fits in
    let b = and_parts _ _ a.1 in
    ap declares (append_assoc (full_type_tokens full) (all_declarator_tokens all ++ mark (codes ";") ∷ []) rest
    ∙ ap (λ w. full_type_tokens full ++ w) (append_assoc (all_declarator_tokens all) (mark (codes ";") ∷ []) rest))
    ∙ variables_declare full all rest a.0 b.0 b.1

pub declaration_leads : (d : Decl) → is_declaration d ≡ true → BeginsWith Leads (declaration_tokens d)
declaration_leads (declaration.Prototype head) fits =
    subst (BeginsWith Leads) (sym (head_spelled head (mark (codes ";") ∷ []))) (full_leads head.full_type _ (and_parts _ _ fits).0)
declaration_leads (declaration.Precision p k) fits = default_leads _
declaration_leads (declaration.Invariant names) fits = invariant_leads _
declaration_leads (declaration.Variables full all) fits = full_leads full _ (and_parts _ _ fits).0
