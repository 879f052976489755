-- No reading depends on the lines of tokens: without them it finds the same, and the same tokens follow.
use Rattle.std.proofs.Common.{◌≡◌, ◌+◌, ℕ, zero, suc, Bool, true, false, not, ◌&&◌, ◌||◌, cond, ltb, List, [], ◌∷◌, ◌++◌, length, Option, Some, None, is_some, codes, refl, ap, ◌∙◌}
use Rattle.glsl_tree.specs.declared.token.Class.{Class}
use Rattle.glsl_tree.specs.declared.token.Class.TheVariants.{Identifier, Keyword, Int, Float, Punct, Hash, NewLine, Params}
use Rattle.glsl_tree.specs.declared.declarations.TypeSpecifier.{TypeSpecifier}
use Rattle.glsl_tree.specs.declared.declarations.TypeSpecifier.TheVariants as kind
use Rattle.glsl_tree.specs.declared.declarations.TypeSpecifier.TheViews.{roll-Member}
use Rattle.glsl_tree.specs.declared.declarations.Member.{Member}
use Rattle.glsl_tree.specs.declared.declarations.FullType.{FullType}
use Rattle.glsl_tree.specs.declared.declarations.Declarator.TheVariants as declarator
use Rattle.glsl_tree.specs.declared.declarations.Parameter.{Parameter}
use Rattle.glsl_tree.specs.declared.declarations.Parameters.TheVariants as parameters
use Rattle.glsl_tree.specs.declared.declarations.Head.{Head}
use Rattle.glsl_tree.specs.declared.declarations.Decl.{Decl}
use Rattle.glsl_tree.specs.declared.declarations.Decl.TheVariants as declaration
use Rattle.glsl_tree.specs.declared.statements.Condition.TheVariants as condition
use Rattle.glsl_tree.specs.declared.statements.Start.TheVariants as start
use Rattle.glsl_tree.specs.declared.statements.Stmt.{Stmt}
use Rattle.glsl_tree.specs.declared.statements.Stmt.TheVariants as statement
use Rattle.glsl_tree.specs.declared.statements.Item.TheVariants as item
use Rattle.glsl_tree.specs.declared.expressions.Callee.{Callee}
use Rattle.glsl_tree.specs.declared.expressions.Callee.TheVariants as callee
use Rattle.glsl_tree.specs.declared.expressions.Expr.{Expr}
use Rattle.glsl_tree.specs.declared.expressions.Expr.TheVariants as tree
use Rattle.glsl_tree.specs.declared.operators.PrefixOperator.{PrefixOperator}
use Rattle.glsl_tree.specs.declared.qualifiers.Basic.{Basic}
use Rattle.glsl_tree.specs.declared.qualifiers.Precision.{Precision}
use Rattle.glsl_tree.specs.declared.qualifiers.Direction.{Direction}
use Rattle.glsl_tree.specs.declared.qualifiers.Storage.{Storage}
use Rattle.glsl_tree.specs.declared.qualifiers.Storage.TheVariants as storage
use Rattle.glsl_tree.specs.Operators.{any_level, assignment_level, conditional_level, prefix_level, binary_level}
use Rattle.glsl_tree.specs.Expressions.{grade}
use Rattle.glsl_tree.specs.Declarations.{is_void_alone}
use Rattle.glsl_tree.specs.Statements.{without_line}
use Rattle.glsl_tree.specs.Token.{PlainToken}
use Rattle.glsl_parse.specs.declared.symbols.Begun.{Begun}
use Rattle.glsl_parse.specs.declared.symbols.Begun.TheVariants as begun
use Rattle.glsl_parse.specs.declared.symbols.Leader.{Leader}
use Rattle.glsl_parse.specs.declared.symbols.Leader.TheVariants as leader
use Rattle.glsl_parse.specs.declared.symbols.Infix.{Infix}
use Rattle.glsl_parse.specs.declared.symbols.Infix.TheVariants as join
use Rattle.glsl_parse.specs.declared.symbols.Suffix.{Suffix}
use Rattle.glsl_parse.specs.declared.symbols.Suffix.TheVariants as suffix
use Rattle.glsl_parse.specs.Readings.{Reads, after, past, made, below, Turn, Stop, Go, turn_on, turns, looped}
use Rattle.glsl_parse.specs.Symbols.{is_mark, is_word, is_name, binary_of, assignment_of, prefix_of, postfix_of, basic_of, precision_of, direction_of, infix_of, suffix_of, leader_of, after_mark, after_word, begins_with_mark, name_at}
use Rattle.glsl_parse.specs.ExpressionReadings.{ReadsLevel, more_listed, listed, arguments, call, named, constructed, word_expression, bracketed, primary_of, primary, suffixed_by, suffixed, fits_below, suffix_at, after_first, more_suffixed, postfixed, prefix_at, operand, branches, joined_by, joined, infix_at, more_joined, climbed, expression}
use Rattle.glsl_parse.specs.TypeReadings.{Allows, or_absent, first_or_absent, precision_at, direction_at, optional_name, storage_of, after_invariant_varying, word_storage_at, storage_at, size_after, optional_size, sized, sized_name, more_members, structure, type_word, alone, type_of, member_of, type_specifier, member, qualified, full_type}
use Rattle.glsl_parse.specs.DeclarationReadings.{declarator_of, declarator_at, declarators, constant_at, unless_void, parameter_of, parameter_at, after_void, listed_parameters, parameters_at, begins_head, full_fits, headed, parameters_after, head_after, is_declared, variables_after, begun_after, precision_declared, invariant_declared, after_invariant, begun_at, ended, declaration_at, begins_declaration, begins_with_a_name, declares}
use Rattle.glsl_parse.specs.StatementReadings.{any_expression, closed_expression, test_at, ended_expression, declared_condition, condition_at, closed_condition, optional_condition, optional_step, start_at, optional_value, more_statements, statements_at, choice_after, choice_at, while_at, do_at, for_at, jump, simple_at, statement_led, statement_of, statement_at, body_at, function_after, headed_item, ended_item, item_at, more_items, items_at}
use Rattle.glsl_parse.proofs.SoundReadings.{bare}

-- what was read, before tokens on no line
abbrev pub lineless : {A : Type 0} → Option (A × List PlainToken) → Option (A × List PlainToken)
lineless None = None
lineless (Some found) = Some (found.0, bare found.1)

abbrev bare_rest : Option (List PlainToken) → Option (List PlainToken)
bare_rest None = None
bare_rest (Some rest) = Some (bare rest)

-- a reading that does not depend on lines
abbrev pub IsLineless : {A : Type 0} → Reads A → Type 0
IsLineless reads = (list : List PlainToken) → reads (bare list) ≡ lineless (reads list)

after_line : {A B : Type 0} (r : Option (A × List PlainToken)) (next : A → Reads B) → ((a : A) → IsLineless (next a))
    → after (lineless r) next ≡ lineless (after r next)
after_line None next h = refl
after_line (Some found) next h = h found.0 found.1

line_after : {A B : Type 0} (reads : Reads A) (next : A → Reads B) → IsLineless reads → ((a : A) → IsLineless (next a))
    → IsLineless (λ list. after (reads list) next)
line_after reads next h g list = ap (λ r. after r next) (h list) ∙ after_line (reads list) next g

past_line : {B : Type 0} (r : Option (List PlainToken)) (next : Reads B) → IsLineless next → past (bare_rest r) next
    ≡ lineless (past r next)
past_line None next h = refl
past_line (Some rest) next h = h rest

line_mark : (text : List ℕ) (list : List PlainToken) → after_mark text (bare list) ≡ bare_rest (after_mark text list)
unfolding after_mark is_mark
line_mark text [] = refl
line_mark text (t ∷ rest) = go (is_mark text t)
  where
    go : (b : Bool) → cond b (Some (bare rest)) None ≡ bare_rest (cond b (Some rest) None)
    go true = refl
    go false = refl

line_word : (text : List ℕ) (list : List PlainToken) → after_word text (bare list) ≡ bare_rest (after_word text list)
unfolding after_word is_word
line_word text [] = refl
line_word text (t ∷ rest) = go (is_word text t)
  where
    go : (b : Bool) → cond b (Some (bare rest)) None ≡ bare_rest (cond b (Some rest) None)
    go true = refl
    go false = refl

line_past : {B : Type 0} (find : List PlainToken → Option (List PlainToken)) (next : Reads B)
    → ((list : List PlainToken) → find (bare list) ≡ bare_rest (find list)) → IsLineless next
    → IsLineless (λ list. past (find list) next)
line_past find next h g list = ap (λ r. past r next) (h list) ∙ past_line (find list) next g

made_line : {A B : Type 0} (make : A → B) (r : Option (A × List PlainToken)) → made make (lineless r) ≡ lineless (made make r)
made_line make None = refl
made_line make (Some found) = refl

line_made : {A B : Type 0} (make : A → B) (reads : Reads A) → IsLineless reads → IsLineless (λ list. made make (reads list))
line_made make reads h list = ap (made make) (h list) ∙ made_line make (reads list)

line_below : {B : Type 0} (room : ℕ) (next : ℕ → Reads B) → ((n : ℕ) → IsLineless (next n))
    → IsLineless (λ list. below room (λ n. next n list))
line_below zero next h list = refl
line_below (suc n) next h list = h n list

line_if : {B : Type 0} (test : List PlainToken → Bool) (r s : Reads B) → ((list : List PlainToken) → test (bare list) ≡ test list)
    → IsLineless r → IsLineless s → IsLineless (λ list. cond (test list) (r list) (s list))
line_if test r s same h g list = ap (λ b. cond b (r (bare list)) (s (bare list))) (same list) ∙ go (test list)
  where
    go : (b : Bool) → cond b (r (bare list)) (s (bare list)) ≡ lineless (cond b (r list) (s list))
    go true = h list
    go false = g list

line_when : {B : Type 0} (b : Bool) (r s : Reads B) → IsLineless r → IsLineless s → IsLineless (λ list. cond b (r list) (s list))
line_when true r s h g list = h list
line_when false r s h g list = g list

-- a choice by what is found at the front
line_found : {B : Type 0} (find : List PlainToken → Option (List PlainToken)) (next other : Reads B)
    → ((list : List PlainToken) → find (bare list) ≡ bare_rest (find list)) → IsLineless next → IsLineless other
    → IsLineless (λ list. elim (find list) [ Some rest ↦ next rest | None ↦ other list ])
line_found {B} find next other same h g list = ap (λ o. elim o [ Some rest ↦ next rest | None ↦ other (bare list) ]) (same list)
    ∙ go (find list)
  where
    go : (o : Option (List PlainToken)) → elim (bare_rest o) as (λ x. Option (B × List PlainToken))
        [ Some rest ↦ next rest | None ↦ other (bare list) ]
        ≡ lineless (elim o as (λ x. Option (B × List PlainToken)) [ Some rest ↦ next rest | None ↦ other list ])
    go None = g list
    go (Some rest) = h rest

line_name : IsLineless name_at
unfolding name_at is_name
line_name [] = refl
line_name (t ∷ rest) = go (is_name t)
  where
    go : (b : Bool) → cond {A = Option (List ℕ × List PlainToken)} b (Some (t.text, bare rest)) None
        ≡ lineless (cond {A = Option (List ℕ × List PlainToken)} b (Some (t.text, rest)) None)
    go true = refl
    go false = refl

line_begins : (text : List ℕ) (list : List PlainToken) → begins_with_mark text (bare list) ≡ begins_with_mark text list
unfolding is_mark
line_begins text [] = refl
line_begins text (t ∷ rest) = refl

line_some : {A : Type 0} (a : A) → IsLineless (λ list. Some (a, list))
line_some a list = refl

line_none : {A : Type 0} → IsLineless {A = A} (λ list. None)
line_none list = refl

-- Loops.
abbrev lineless_turn : {S : Type 0} → Turn S → Turn S
lineless_turn Stop = Stop
lineless_turn (Go r) = Go (lineless r)

abbrev IsLinelessTurn : {S : Type 0} → (S → List PlainToken → Turn S) → Type 0
IsLinelessTurn {S} turn = (s : S) (list : List PlainToken) → turn s (bare list) ≡ lineless_turn (turn s list)

length_bare : (list : List PlainToken) → length (bare list) ≡ length list
length_bare [] = refl
length_bare (t ∷ list) = ap suc (length_bare list)

line_turns : {S : Type 0} (turn : S → List PlainToken → Turn S) → IsLinelessTurn turn → (k : ℕ) (s : S) → IsLineless (turns turn k s)
unfolding turns
line_turns turn h zero s list = refl
line_turns {S} turn h (suc k) s list =
    ap (λ t. elim t [
      | Stop ↦ Some (s, bare list)
      | Go found ↦ after found (λ u rest. cond (ltb (length rest) (length (bare list))) (turns turn k u rest) None)
    ]) (h s list) ∙ go (turn s list) (λ u rest. line_turns turn h k u rest)
  where
    go : (t : Turn S) → ((u : S) → IsLineless (turns turn k u)) → elim (lineless_turn t) as (λ x. Option (S × List PlainToken)) [
      | Stop ↦ Some (s, bare list)
      | Go found ↦ after found (λ u rest. cond (ltb (length rest) (length (bare list))) (turns turn k u rest) None)
    ] ≡ lineless (elim t as (λ x. Option (S × List PlainToken)) [
      | Stop ↦ Some (s, list)
      | Go found ↦ after found (λ u rest. cond (ltb (length rest) (length list)) (turns turn k u rest) None)
    ])
    go Stop more = refl
    go (Go found) more = ap (λ m. after (lineless found) (λ u rest. cond (ltb (length rest) m) (turns turn k u rest) None))
        (length_bare list)
        ∙ after_line found (λ u rest. cond (ltb (length rest) (length list)) (turns turn k u rest) None) (λ u rest.
        ap (λ m. cond (ltb m (length list)) (turns turn k u (bare rest)) None) (length_bare rest)
        ∙ line_when (ltb (length rest) (length list)) (turns turn k u) (λ w. None) (more u) line_none rest)

line_looped : {S : Type 0} (turn : S → List PlainToken → Turn S) → IsLinelessTurn turn → (s : S) → IsLineless (looped turn s)
line_looped turn h s list = ap (λ k. turns turn (suc k) s (bare list)) (length_bare list) ∙ line_turns turn h (suc (length list)) s list

-- Lists.
mark_turn : {S : Type 0} (find : List PlainToken → Option (List PlainToken)) (next : Reads S)
    → ((list : List PlainToken) → find (bare list) ≡ bare_rest (find list)) → IsLineless next
    → (list : List PlainToken) → turn_on (find (bare list)) next ≡ lineless_turn (turn_on (find list) next)
mark_turn find next same h list = ap (λ o. turn_on o next) (same list) ∙ go (find list)
  where
    go : (o : Option (List PlainToken)) → turn_on (bare_rest o) next ≡ lineless_turn (turn_on o next)
    go None = refl
    go (Some rest) = ap Go (h rest)

line_listed : {A : Type 0} (item : Reads A) → IsLineless item → IsLineless (listed item)
unfolding listed more_listed
line_listed item h = line_after item _ h
    (λ first. line_looped (more_listed item)
    (λ done list. mark_turn (after_mark (codes ",")) (λ rest. made (λ a. done ++ a ∷ []) (item rest)) (line_mark (codes ","))
    (line_made (λ a. done ++ a ∷ []) item h) list) (first ∷ []))

-- Expressions.
abbrev LinelessLevels : ReadsLevel → Type 0
LinelessLevels inner = (least : ℕ) → IsLineless (inner least)

line_suffix : (list : List PlainToken) → suffix_at (bare list) ≡ suffix_at list
unfolding suffix_of postfix_of is_mark
line_suffix [] = refl
line_suffix (t ∷ rest) = refl

line_prefix : (list : List PlainToken) → prefix_at (bare list) ≡ prefix_at list
unfolding prefix_of
line_prefix [] = refl
line_prefix (t ∷ rest) = refl

line_first : (list : List PlainToken) → after_first (bare list) ≡ bare (after_first list)
line_first [] = refl
line_first (t ∷ rest) = refl

line_infix : (least level : ℕ) (list : List PlainToken) → infix_at least level (bare list) ≡ infix_at least level list
unfolding infix_at infix_of binary_of assignment_of is_mark
line_infix least level [] = refl
line_infix least level (t ∷ rest) = refl

-- a turn by the first token
first_turn : {B S : Type 0} (o p : Option B) (next : B → Reads S) (list : List PlainToken) → p ≡ o → ((b : B) → IsLineless (next b))
    → turn_on p (λ b. next b (after_first (bare list))) ≡ lineless_turn (turn_on o (λ b. next b (after_first list)))
first_turn {B} {S} o p next list same h =
    ap (λ q. turn_on q (λ b. next b (after_first (bare list)))) same ∙ ap (λ w. turn_on o (λ b. next b w)) (line_first list) ∙ go o
  where
    go : (o : Option B) → turn_on o (λ b. next b (bare (after_first list))) ≡ lineless_turn (turn_on o (λ b. next b (after_first list)))
    go None = refl
    go (Some b) = ap Go (h b (after_first list))

module _ (n : ℕ) (inner : ReadsLevel) (free : LinelessLevels inner) where
  line_arguments : (called : Callee) → IsLineless (arguments inner called)
  unfolding arguments
  line_arguments called = line_after (listed (inner assignment_level)) _
      (line_listed (inner assignment_level) (free assignment_level))
      (λ all. line_past (after_mark (codes ")")) _ (line_mark (codes ")")) (line_some (tree.Call called all)))

  line_call : (called : Callee) → IsLineless (call inner called)
  unfolding call
  line_call called = line_found (after_mark (codes ")")) _ _ (line_mark (codes ")")) (line_some (tree.Call called []))
      (line_found (after_word (codes "void")) _ _ (line_word (codes "void"))
      (line_past (after_mark (codes ")")) _ (line_mark (codes ")")) (line_some (tree.CallVoid called)))
      (line_arguments called))

  line_named : (text : List ℕ) → IsLineless (named inner text)
  unfolding named
  line_named text = line_found (after_mark (codes "(")) _ _ (line_mark (codes "(")) (line_call (callee.Name text))
      (line_some (tree.Name text))

  line_constructed : (o : Option Basic) → IsLineless (constructed inner o)
  line_constructed None = line_none
  line_constructed (Some kind) = line_past (after_mark (codes "(")) (call inner (callee.Basic kind)) (line_mark (codes "("))
      (line_call (callee.Basic kind))

  line_word_expression : (t : PlainToken) (list : List PlainToken) → word_expression inner (without_line t) (bare list)
      ≡ lineless (word_expression inner t list)
  unfolding word_expression is_word basic_of
  line_word_expression t list = line_when (is_word (codes "true") t) (λ w. Some (tree.Truth true, w))
      (λ w. cond (is_word (codes "false") t) (Some (tree.Truth false, w)) (constructed inner (basic_of t) w))
      (line_some (tree.Truth true)) (line_when (is_word (codes "false") t) (λ w. Some (tree.Truth false, w))
      (constructed inner (basic_of t)) (line_some (tree.Truth false)) (line_constructed (basic_of t))) list

  line_bracketed : IsLineless (bracketed inner)
  unfolding bracketed
  line_bracketed = line_after (inner any_level) _ (free any_level)
      (λ e. line_past (after_mark (codes ")")) _ (line_mark (codes ")")) (line_some (tree.Bracket e)))

  line_primary_of : (c : Class) (t : PlainToken) (list : List PlainToken) → primary_of inner c (without_line t) (bare list)
      ≡ lineless (primary_of inner c t list)
  unfolding is_name is_mark
  line_primary_of Identifier t list = line_when (is_name t) (named inner t.text) (λ w. None) (line_named t.text) line_none list
  line_primary_of Keyword t list = line_word_expression t list
  line_primary_of Int t list = refl
  line_primary_of Float t list = refl
  line_primary_of Punct t list = line_when (is_mark (codes "(") t) (bracketed inner) (λ w. None) line_bracketed line_none list
  line_primary_of Hash t list = refl
  line_primary_of NewLine t list = refl
  line_primary_of Params t list = refl

  line_primary : IsLineless (primary inner)
  unfolding primary
  line_primary [] = refl
  line_primary (t ∷ list) = line_primary_of t.class t list

  line_suffixed_by : (base : Expr) (s : Suffix) → IsLineless (suffixed_by inner base s)
  line_suffixed_by base suffix.Index = line_after (inner any_level) _ (free any_level)
      (λ index. line_past (after_mark (codes "]")) _ (line_mark (codes "]")) (line_some (tree.Index base index)))
  line_suffixed_by base suffix.Field = line_made (tree.Field base) name_at line_name
  line_suffixed_by base (suffix.Step operator) = line_some (tree.Postfix base operator)

  line_suffixed : (base : Expr) (s : Suffix) → IsLineless (suffixed n inner base s)
  unfolding suffixed
  line_suffixed base s = line_when (fits_below n base) (suffixed_by inner base s) (λ w. None) (line_suffixed_by base s) line_none

  line_postfixed : IsLineless (postfixed n inner)
  unfolding postfixed more_suffixed
  line_postfixed = line_after (primary inner) _ line_primary
      (λ e. line_looped (more_suffixed n inner)
      (λ base list. first_turn (suffix_at list) (suffix_at (bare list)) (λ s. suffixed n inner base s) list (line_suffix list)
      (λ s. line_suffixed base s)) e)

  line_operand : IsLineless (operand n inner)
  unfolding operand
  line_operand list =
      ap (λ o. elim o [
        | Some operator ↦ made (tree.Prefix operator) (inner prefix_level (after_first (bare list)))
        | None ↦ postfixed n inner (bare list)
      ]) (line_prefix list) ∙ go (prefix_at list)
    where
      go : (o : Option PrefixOperator) → elim o as (λ x. Option (Expr × List PlainToken)) [
        | Some operator ↦ made (tree.Prefix operator) (inner prefix_level (after_first (bare list)))
        | None ↦ postfixed n inner (bare list)
      ] ≡ lineless (elim o as (λ x. Option (Expr × List PlainToken)) [
        | Some operator ↦ made (tree.Prefix operator) (inner prefix_level (after_first list))
        | None ↦ postfixed n inner list
      ])
      go None = line_postfixed list
      go (Some operator) = ap (λ w. made (tree.Prefix operator) (inner prefix_level w)) (line_first list)
          ∙ line_made (tree.Prefix operator) (inner prefix_level) (free prefix_level) (after_first list)

  line_branches : (e : Expr) → IsLineless (branches inner e)
  unfolding branches
  line_branches e = line_after (inner any_level) _ (free any_level)
      (λ if_true. line_past (after_mark (codes ":")) _ (line_mark (codes ":"))
      (line_made (tree.Conditional e if_true) (inner assignment_level) (free assignment_level)))

  line_joined_by : (left : Expr) (o : Infix) → IsLineless (joined_by inner left o)
  line_joined_by left (join.Binary operator) =
      line_made (tree.Binary operator left) (inner (binary_level operator + 1)) (free (binary_level operator + 1))
  line_joined_by left join.Conditional = line_branches left
  line_joined_by left (join.Assign operator) = line_made (tree.Assign operator left) (inner assignment_level) (free assignment_level)

  line_joined : (left : Expr) (o : Infix) → IsLineless (joined n inner left o)
  unfolding joined
  line_joined left o = line_when (fits_below n left) (joined_by inner left o) (λ w. None) (line_joined_by left o) line_none

  line_climbed : LinelessLevels (climbed n inner)
  unfolding climbed more_joined
  line_climbed least = line_after (operand n inner) _ line_operand (λ e. line_looped (more_joined n inner least) (λ left list.
      first_turn (infix_at least (grade left).level list) (infix_at least (grade left).level (bare list)) (λ o. joined n inner left o)
      list (line_infix least (grade left).level list) (λ o. line_joined left o)) e)

line_expression : (n : ℕ) → LinelessLevels (expression n)
unfolding expression
line_expression zero least list = refl
line_expression (suc n) least list = line_climbed n (expression n) (line_expression n) least list

-- Types.
abbrev lineless_part : {A : Type 0} → Option A × List PlainToken → Option A × List PlainToken
lineless_part found = (found.0, bare found.1)

abbrev AllowsLineless : {A : Type 0} → Allows A → Type 0
AllowsLineless {A} allows = (list : List PlainToken)
    → ◌≡◌ {A = Option A × List PlainToken} (allows (bare list)) (lineless_part (allows list))

line_allows : {A B : Type 0} (allows : Allows A) (next : Option A → Reads B) → AllowsLineless allows
    → ((o : Option A) → IsLineless (next o)) → IsLineless (λ list. next (allows list).0 (allows list).1)
line_allows {A} allows next h g list = ap (λ (p : Option A × List PlainToken). next p.0 p.1) (h list) ∙ g (allows list).0 (allows list).1

first_part : {A : Type 0} (o : Option A) (t : PlainToken) (rest : List PlainToken)
    → ◌≡◌ {A = Option A × List PlainToken} (first_or_absent o (without_line t) (bare rest)) (lineless_part (first_or_absent o t rest))
first_part None t rest = refl
first_part (Some a) t rest = refl

line_precision : AllowsLineless precision_at
unfolding precision_at precision_of
line_precision [] = refl
line_precision (t ∷ rest) = first_part (precision_of t) t rest

line_direction : AllowsLineless direction_at
unfolding direction_at direction_of
line_direction [] = refl
line_direction (t ∷ rest) = first_part (direction_of t) t rest

line_optional_name : AllowsLineless optional_name
unfolding optional_name
line_optional_name list = ap (λ o. or_absent o (bare list)) (line_name list) ∙ go (name_at list)
  where
    go : (o : Option (List ℕ × List PlainToken)) → ◌≡◌ {A = Option (List ℕ) × List PlainToken} (or_absent (lineless o) (bare list))
        (lineless_part (or_absent o list))
    go None = refl
    go (Some found) = refl

line_word_storage : AllowsLineless word_storage_at
unfolding storage_of is_word
line_word_storage [] = refl
line_word_storage (t ∷ rest) = first_part (storage_of t) t rest

line_invariant_varying : (list : List PlainToken) → after_invariant_varying (bare list) ≡ bare_rest (after_invariant_varying list)
unfolding after_invariant_varying
line_invariant_varying list = ap (λ o. elim o [ Some rest ↦ after_word (codes "varying") rest | None ↦ None ])
    (line_word (codes "invariant") list) ∙ go (after_word (codes "invariant") list)
  where
    go : (o : Option (List PlainToken)) → elim (bare_rest o) as (λ x. Option (List PlainToken))
        [ Some rest ↦ after_word (codes "varying") rest | None ↦ None ]
        ≡ bare_rest (elim o as (λ x. Option (List PlainToken)) [ Some rest ↦ after_word (codes "varying") rest | None ↦ None ])
    go None = refl
    go (Some rest) = line_word (codes "varying") rest

line_storage : AllowsLineless storage_at
unfolding storage_at
line_storage list = ap (λ o. elim o as (λ x. Option Storage × List PlainToken) [
  | Some rest ↦ (Some storage.InvariantVarying, rest)
  | None ↦ word_storage_at (bare list)
]) (line_invariant_varying list) ∙ go (after_invariant_varying list)
  where
    go : (o : Option (List PlainToken)) → ◌≡◌ {A = Option Storage × List PlainToken}
        (elim (bare_rest o) as (λ x. Option Storage × List PlainToken) [
          | Some rest ↦ (Some storage.InvariantVarying, rest)
          | None ↦ word_storage_at (bare list)
        ])
        (lineless_part (elim o as (λ x. Option Storage × List PlainToken) [
          | Some rest ↦ (Some storage.InvariantVarying, rest)
          | None ↦ word_storage_at list
        ]))
    go None = line_word_storage list
    go (Some rest) = refl

line_size : (n : ℕ) → IsLineless (size_after n)
unfolding size_after
line_size n = line_after (expression n conditional_level) _ (line_expression n conditional_level)
    (λ size. line_past (after_mark (codes "]")) _ (line_mark (codes "]")) (line_some size))

line_optional_size : (room : ℕ) → IsLineless (optional_size room)
unfolding optional_size
line_optional_size room = line_found (after_mark (codes "[")) _ _ (line_mark (codes "["))
    (line_below room (λ n list. made Some (size_after n list)) (λ n. line_made Some (size_after n) (line_size n))) (line_some None)

line_sized : (n : ℕ) → IsLineless (sized_name n)
unfolding sized_name
line_sized n = line_after name_at _ line_name (λ text. line_made (sized text) (optional_size n) (line_optional_size n))

-- a turn that reads on, unless the brace stands there
brace_turn : {A : Type 0} (item : Reads A) → IsLineless item → (done : List A) (list : List PlainToken)
    → cond (begins_with_mark (codes "}") (bare list)) Stop (Go (made (λ a. done ++ a ∷ []) (item (bare list))))
    ≡ lineless_turn (cond (begins_with_mark (codes "}") list) Stop (Go (made (λ a. done ++ a ∷ []) (item list))))
brace_turn item h done list = ap (λ b. cond b Stop (Go (made (λ a. done ++ a ∷ []) (item (bare list)))))
    (line_begins (codes "}") list) ∙ go (begins_with_mark (codes "}") list)
  where
    go : (b : Bool) → cond b Stop (Go (made (λ a. done ++ a ∷ []) (item (bare list))))
        ≡ lineless_turn (cond b Stop (Go (made (λ a. done ++ a ∷ []) (item list))))
    go true = refl
    go false = ap Go (line_made (λ a. done ++ a ∷ []) item h list)

line_structure : (reads : Reads Member) → IsLineless reads → IsLineless (structure reads)
unfolding structure more_members
line_structure reads h = line_allows optional_name
    (λ text list. past (after_mark (codes "{") list)
    (λ rest. after (looped (more_members reads) [] rest)
    (λ members rest. past (after_mark (codes "}") rest) (λ rest. Some (kind.Struct text members, rest))))) line_optional_name
    (λ text.
    line_past (after_mark (codes "{")) _ (line_mark (codes "{"))
    (line_after (looped (more_members reads) []) _
    (line_looped (more_members reads) (λ done list. brace_turn reads h done list) []) (λ members.
    line_past (after_mark (codes "}")) _ (line_mark (codes "}")) (line_some (kind.Struct text members)))))

line_alone : (o : Option TypeSpecifier) → IsLineless (alone o)
line_alone None = line_none
line_alone (Some k) = line_some k

line_type_of : (reads : Reads Member) → IsLineless reads → IsLineless (type_of reads)
unfolding type_of is_word type_word basic_of is_name
line_type_of reads h [] = refl
line_type_of reads h (t ∷ list) = line_when (is_word (codes "struct") t) (structure reads) (alone (type_word t))
    (line_structure reads h) (line_alone (type_word t)) list

line_member_of : (n : ℕ) (kinds : Reads TypeSpecifier) → IsLineless kinds → IsLineless (member_of n kinds)
unfolding member_of
line_member_of n kinds h = line_allows precision_at
    (λ p list. after (kinds list) (λ k rest. after (listed (sized_name n) rest)
    (λ names rest. past (after_mark (codes ";") rest) (λ rest.
    Some (roll-Member (record { precision = p; kind = k; names = names }), rest))))) line_precision (λ p.
    line_after kinds _ h (λ k. line_after (listed (sized_name n)) _ (line_listed (sized_name n) (line_sized n))
    (λ names. line_past (after_mark (codes ";")) _ (line_mark (codes ";")) (line_some _))))

record LinelessTypes (n : ℕ) : Type 0 where
  types : IsLineless (type_specifier n)
  lines : IsLineless (member n)

line_types : (n : ℕ) → LinelessTypes n
unfolding type_specifier member
line_types zero = record { types = λ list. refl; lines = λ list. refl }
line_types (suc n) = record {
  types = line_type_of (member n) (line_types n).lines;
  lines = line_member_of n (type_specifier n)
      (line_types n).types;
}

line_full : (room : ℕ) → IsLineless (full_type room)
unfolding full_type
line_full room = line_allows storage_at (λ s list. below room
    (λ n. made (qualified s (precision_at list).0) (type_specifier n (precision_at list).1))) line_storage (λ s.
    line_allows precision_at (λ p list. below room (λ n. made (qualified s p) (type_specifier n list))) line_precision (λ p.
    line_below room (λ n list. made (qualified s p) (type_specifier n list))
    (λ n. line_made (qualified s p) (type_specifier n) (line_types n).types)))

-- Declarations.
line_declarator_of : (n : ℕ) (text : List ℕ) → IsLineless (declarator_of n text)
unfolding declarator_of
line_declarator_of n text = line_found (after_mark (codes "[")) _ _ (line_mark (codes "["))
    (line_below n (λ m list. made (declarator.Array text) (size_after m list))
    (λ m. line_made (declarator.Array text) (size_after m) (line_size m)))
    (line_found (after_mark (codes "=")) _ _ (line_mark (codes "="))
    (line_made (declarator.Initialized text) (expression n assignment_level) (line_expression n assignment_level))
    (line_some (declarator.Name text)))

line_declarator : (n : ℕ) → IsLineless (declarator_at n)
unfolding declarator_at
line_declarator n = line_after name_at (declarator_of n) line_name (line_declarator_of n)

line_declarators : (room : ℕ) → IsLineless (declarators room)
unfolding declarators
line_declarators room = line_if (begins_with_mark (codes ";")) _ _ (line_begins (codes ";")) (line_some [])
    (line_below room (λ n list. listed (declarator_at n) list) (λ n. line_listed (declarator_at n) (line_declarator n)))

line_constant : (list : List PlainToken)
    → ◌≡◌ {A = Bool × List PlainToken} (constant_at (bare list)) ((constant_at list).0, bare (constant_at list).1)
unfolding constant_at
line_constant list = ap (λ o. elim o as (λ x. Bool × List PlainToken) [ Some rest ↦ (true, rest) | None ↦ (false, bare list) ])
    (line_word (codes "const") list) ∙ go (after_word (codes "const") list)
  where
    go : (o : Option (List PlainToken)) → ◌≡◌ {A = Bool × List PlainToken}
        (elim (bare_rest o) as (λ x. Bool × List PlainToken) [ Some rest ↦ (true, rest) | None ↦ (false, bare list) ]) (
          (elim o as (λ x. Bool × List PlainToken) [ Some rest ↦ (true, rest) | None ↦ (false, list) ]).0,
          bare
              (elim o as (λ x. Bool × List PlainToken) [ Some rest ↦ (true, rest) | None ↦ (false, list) ]).1,
        )
    go None = refl
    go (Some rest) = refl

void_line : (r : Option (Parameter × List PlainToken)) → unless_void (lineless r) ≡ lineless (unless_void r)
void_line None = refl
void_line (Some found) = go (is_void_alone found.0)
  where
    go : (b : Bool) → cond {A = Option (Parameter × List PlainToken)} b None (Some (found.0, bare found.1))
        ≡ lineless (cond b None (Some found))
    go true = refl
    go false = refl

line_unless_void : (reads : Reads Parameter) → IsLineless reads → IsLineless (λ list. unless_void (reads list))
line_unless_void reads h list = ap unless_void (h list) ∙ void_line (reads list)

line_parameter : (n : ℕ) → IsLineless (parameter_at n)
unfolding parameter_at
line_parameter n = line_unless_void _ (λ list. ap (λ (p : Bool × List PlainToken). directed p.0 p.1) (line_constant list)
    ∙ line_directed (constant_at list).0 (constant_at list).1)
  where
    typed : Bool → Option Direction → Option Precision → Reads Parameter
    typed c d p list = after (type_specifier n list)
        (λ k rest. made (parameter_of c d p k (optional_name rest).0) (optional_size n (optional_name rest).1))

    directed : Bool → Reads Parameter
    directed c list = typed c (direction_at list).0 (precision_at (direction_at list).1).0 (precision_at (direction_at list).1).1

    line_typed : (c : Bool) (d : Option Direction) (p : Option Precision) → IsLineless (typed c d p)
    line_typed c d p = line_after (type_specifier n) _ (line_types n).types
        (λ k. line_allows optional_name (λ text list. made (parameter_of c d p k text) (optional_size n list)) line_optional_name
        (λ text. line_made (parameter_of c d p k text) (optional_size n) (line_optional_size n)))

    line_directed : (c : Bool) → IsLineless (directed c)
    line_directed c = line_allows direction_at (λ d list. typed c d (precision_at list).0 (precision_at list).1) line_direction
        (λ d. line_allows precision_at (λ p list. typed c d p list) line_precision (λ p. line_typed c d p))

line_void : (list : List PlainToken) → after_void (bare list) ≡ bare_rest (after_void list)
unfolding after_void
line_void list = ap (λ o. elim o as (λ x. Option (List PlainToken)) [ Some rest ↦ after_mark (codes ")") rest | None ↦ None ])
    (line_word (codes "void") list) ∙ go (after_word (codes "void") list)
  where
    go : (o : Option (List PlainToken)) → elim (bare_rest o) as (λ x. Option (List PlainToken))
        [ Some rest ↦ after_mark (codes ")") rest | None ↦ None ]
        ≡ bare_rest (elim o as (λ x. Option (List PlainToken)) [ Some rest ↦ after_mark (codes ")") rest | None ↦ None ])
    go None = refl
    go (Some rest) = line_mark (codes ")") rest

line_listed_parameters : (room : ℕ) → IsLineless (listed_parameters room)
unfolding listed_parameters
line_listed_parameters room = line_below room
    (λ n list. after (listed (parameter_at n) list)
    (λ all rest. past (after_mark (codes ")") rest) (λ rest. Some (parameters.Listed all, rest)))) (λ n.
    line_after (listed (parameter_at n)) _ (line_listed (parameter_at n) (line_parameter n))
    (λ all. line_past (after_mark (codes ")")) _ (line_mark (codes ")")) (line_some (parameters.Listed all))))

line_parameters : (room : ℕ) → IsLineless (parameters_at room)
unfolding parameters_at
line_parameters room = line_found (after_mark (codes ")")) _ _ (line_mark (codes ")")) (line_some (parameters.Listed []))
    (line_found after_void _ _ line_void (line_some parameters.Void) (line_listed_parameters room))

line_begins_head : (list : List PlainToken) → begins_head (bare list) ≡ begins_head list
unfolding begins_head is_name
line_begins_head [] = refl
line_begins_head (t ∷ rest) = ap (λ b. is_name t && b) (line_begins (codes "(") rest)

line_head : (room : ℕ) (full : FullType) → IsLineless (head_after room full)
unfolding head_after parameters_after
line_head room full = line_after name_at _ line_name
    (λ text. line_past (after_mark (codes "(")) _ (line_mark (codes "("))
    (line_below room (λ n list. cond (full_fits n full) (made (headed full text) (parameters_at n list)) None) (λ n.
    line_when (full_fits n full) (λ list. made (headed full text) (parameters_at n list)) (λ list. None)
    (line_made (headed full text) (parameters_at n) (line_parameters n)) line_none)))

line_variables : (n : ℕ) (full : FullType) → IsLineless (variables_after n full)
unfolding variables_after
line_variables n full = line_after (declarators n) _ (line_declarators n)
    (λ all. line_past (after_mark (codes ";")) _ (line_mark (codes ";"))
    (line_when (is_declared full all) (λ list. Some (declaration.Variables full all, list)) (λ list. None)
    (line_some (declaration.Variables full all)) line_none))

line_begun_after : (n : ℕ) (full : FullType) → IsLineless (begun_after n full)
unfolding begun_after
line_begun_after n full = line_if begins_head _ _ line_begins_head (line_made begun.Headed (head_after n full) (line_head n full))
    (line_made begun.Whole (variables_after n full) (line_variables n full))

line_default : (n : ℕ) → IsLineless (precision_declared n)
unfolding precision_declared precision_of
line_default n [] = refl
line_default n (t ∷ list) = go (precision_of t)
  where
    rest_of : Precision → Reads Decl
    rest_of p list = after (type_specifier n list)
        (λ k rest. past (after_mark (codes ";") rest) (λ rest. Some (declaration.Precision p k, rest)))

    go : (o : Option Precision) → elim o as (λ x. Option (Decl × List PlainToken)) [ None ↦ None | Some p ↦ rest_of p (bare list) ]
        ≡ lineless (elim o as (λ x. Option (Decl × List PlainToken)) [ None ↦ None | Some p ↦ rest_of p list ])
    go None = refl
    go (Some p) = line_after (type_specifier n) _ (line_types n).types
        (λ k. line_past (after_mark (codes ";")) _ (line_mark (codes ";")) (line_some (declaration.Precision p k))) list

line_invariant_names : IsLineless invariant_declared
unfolding invariant_declared
line_invariant_names = line_after (listed name_at) _ (line_listed name_at line_name)
    (λ names. line_past (after_mark (codes ";")) _ (line_mark (codes ";")) (line_some (declaration.Invariant names)))

line_invariant : (list : List PlainToken) → after_invariant (bare list) ≡ bare_rest (after_invariant list)
unfolding after_invariant
line_invariant list = ap (λ o. elim o as (λ x. Option (List PlainToken))
    [ None ↦ None | Some rest ↦ elim (after_word (codes "varying") rest) [ None ↦ Some rest | Some more ↦ None ] ])
    (line_word (codes "invariant") list) ∙ go (after_word (codes "invariant") list)
  where
    inside : (rest : List PlainToken) (o : Option (List PlainToken))
        → elim (bare_rest o) as (λ x. Option (List PlainToken)) [ None ↦ Some (bare rest) | Some more ↦ None ]
        ≡ bare_rest (elim o as (λ x. Option (List PlainToken)) [ None ↦ Some rest | Some more ↦ None ])
    inside rest None = refl
    inside rest (Some more) = refl

    go : (o : Option (List PlainToken)) → elim (bare_rest o) as (λ x. Option (List PlainToken))
        [ None ↦ None | Some rest ↦ elim (after_word (codes "varying") rest) [ None ↦ Some rest | Some more ↦ None ] ]
        ≡ bare_rest (elim o as (λ x. Option (List PlainToken))
        [ None ↦ None | Some rest ↦ elim (after_word (codes "varying") rest) [ None ↦ Some rest | Some more ↦ None ] ])
    go None = refl
    go (Some rest) = ap (λ o. elim o as (λ x. Option (List PlainToken)) [ None ↦ Some (bare rest) | Some more ↦ None ])
        (line_word (codes "varying") rest) ∙ inside rest (after_word (codes "varying") rest)

line_begun : (n : ℕ) → IsLineless (begun_at n)
unfolding begun_at
line_begun n = line_found (after_word (codes "precision")) _ _ (line_word (codes "precision"))
    (line_made begun.Whole (precision_declared n) (line_default n))
    (line_found after_invariant _ _ line_invariant (line_made begun.Whole invariant_declared line_invariant_names)
    (line_after (full_type n) (begun_after n) (line_full n) (line_begun_after n)))

line_ended : (b : Begun) → IsLineless (ended b)
line_ended (begun.Whole d) = line_some d
line_ended (begun.Headed head) = line_past (after_mark (codes ";")) _ (line_mark (codes ";")) (line_some (declaration.Prototype head))

line_declaration : (room : ℕ) → IsLineless (declaration_at room)
unfolding declaration_at
line_declaration room = line_below room (λ n list. after (begun_at n list) ended)
    (λ n. line_after (begun_at n) ended (line_begun n) line_ended)

line_a_name : (list : List PlainToken) → begins_with_a_name (bare list) ≡ begins_with_a_name list
unfolding is_name
line_a_name [] = refl
line_a_name (t ∷ rest) = refl

line_declares : (list : List PlainToken) → declares (bare list) ≡ declares list
unfolding declares begins_declaration storage_of precision_of is_word basic_of is_name
line_declares [] = refl
line_declares (t ∷ rest) =
    ap (λ b. begins_declaration t || ((is_some (basic_of t) && not b) || (is_name t && begins_with_a_name (bare rest))))
    (line_begins (codes "(") rest)
    ∙ ap (λ b. begins_declaration t || ((is_some (basic_of t) && not (begins_with_mark (codes "(") rest)) || (is_name t && b)))
    (line_a_name rest)

-- Statements.
line_closed_expression : (n : ℕ) → IsLineless (closed_expression n)
unfolding closed_expression
line_closed_expression n = line_after (expression n any_level) _ (line_expression n any_level)
    (λ e. line_past (after_mark (codes ")")) _ (line_mark (codes ")")) (line_some e))

line_test : (n : ℕ) → IsLineless (test_at n)
unfolding test_at
line_test n = line_past (after_mark (codes "(")) (closed_expression n) (line_mark (codes "(")) (line_closed_expression n)

line_ended_expression : (n : ℕ) → IsLineless (ended_expression n)
unfolding ended_expression
line_ended_expression n = line_after (expression n any_level) _ (line_expression n any_level)
    (λ e. line_past (after_mark (codes ";")) _ (line_mark (codes ";")) (line_some e))

line_declared_condition : (n : ℕ) → IsLineless (declared_condition n)
unfolding declared_condition
line_declared_condition n = line_after (full_type n) _ (line_full n)
    (λ full. line_after name_at _ line_name (λ text. line_past (after_mark (codes "=")) _ (line_mark (codes "="))
    (line_made (condition.Declared full text) (expression n assignment_level) (line_expression n assignment_level))))

line_condition : (room : ℕ) → IsLineless (condition_at room)
unfolding condition_at
line_condition room = line_if declares _ _ line_declares
    (line_below room (λ n list. declared_condition n list) line_declared_condition)
    (line_made condition.Expression (any_expression room) (line_expression room any_level))

line_closed_condition : (n : ℕ) → IsLineless (closed_condition n)
unfolding closed_condition
line_closed_condition n = line_after (condition_at n) _ (line_condition n)
    (λ c. line_past (after_mark (codes ")")) _ (line_mark (codes ")")) (line_some c))

line_optional_condition : (n : ℕ) → IsLineless (optional_condition n)
unfolding optional_condition
line_optional_condition n = line_found (after_mark (codes ";")) _ _ (line_mark (codes ";")) (line_some None)
    (line_after (condition_at n) _ (line_condition n)
    (λ c. line_past (after_mark (codes ";")) _ (line_mark (codes ";")) (line_some (Some c))))

line_optional_step : (n : ℕ) → IsLineless (optional_step n)
unfolding optional_step
line_optional_step n = line_found (after_mark (codes ")")) _ _ (line_mark (codes ")")) (line_some None)
    (line_made Some (closed_expression n) (line_closed_expression n))

line_start : (n : ℕ) → IsLineless (start_at n)
unfolding start_at
line_start n = line_found (after_mark (codes ";")) _ _ (line_mark (codes ";")) (line_some start.Empty)
    (line_if declares _ _ line_declares (line_made start.Declaration (declaration_at n) (line_declaration n))
    (line_made start.Expression (ended_expression n) (line_ended_expression n)))

line_optional_value : (n : ℕ) → IsLineless (optional_value n)
unfolding optional_value
line_optional_value n = line_found (after_mark (codes ";")) _ _ (line_mark (codes ";")) (line_some None)
    (line_made Some (ended_expression n) (line_ended_expression n))

module _ (n : ℕ) (inner : Reads Stmt) (free : IsLineless inner) where
  line_statements : IsLineless (statements_at inner)
  unfolding statements_at more_statements
  line_statements = line_after (looped (more_statements inner) []) _
      (line_looped (more_statements inner) (λ done list. brace_turn inner free done list) [])
      (λ all. line_past (after_mark (codes "}")) _ (line_mark (codes "}")) (line_some all))

  line_choice : IsLineless (choice_at n inner)
  unfolding choice_at choice_after
  line_choice = line_after (test_at n) _ (line_test n)
      (λ test. line_after inner _ free (λ branch. line_found (after_word (codes "else")) _ _ (line_word (codes "else"))
      (line_made (λ otherwise. statement.If test branch (Some otherwise)) inner free) (line_some (statement.If test branch None))))

  line_while : IsLineless (while_at n inner)
  unfolding while_at
  line_while = line_past (after_mark (codes "(")) _ (line_mark (codes "("))
      (line_after (closed_condition n) _ (line_closed_condition n) (λ test. line_made (statement.While test) inner free))

  line_do : IsLineless (do_at n inner)
  unfolding do_at
  line_do = line_after inner _ free (λ body. line_past (after_word (codes "while")) _ (line_word (codes "while"))
      (line_after (test_at n) _ (line_test n) (λ test.
      line_past (after_mark (codes ";")) _ (line_mark (codes ";")) (line_some (statement.Do body test)))))

  line_for : IsLineless (for_at n inner)
  unfolding for_at
  line_for = line_past (after_mark (codes "(")) _ (line_mark (codes "("))
      (line_after (start_at n) _ (line_start n) (λ first. line_after (optional_condition n) _ (line_optional_condition n) (λ test.
      line_after (optional_step n) _ (line_optional_step n) (λ step. line_made (statement.For first test step) inner free))))

  line_jump : (s : Stmt) → IsLineless (jump s)
  line_jump s = line_past (after_mark (codes ";")) _ (line_mark (codes ";")) (line_some s)

  line_simple : IsLineless (simple_at n)
  unfolding simple_at
  line_simple = line_if declares _ _ line_declares (line_made statement.Declaration (declaration_at n) (line_declaration n))
      (line_made statement.Expression (ended_expression n) (line_ended_expression n))

  line_led : (l : Leader) (t : PlainToken) (list : List PlainToken) → statement_led n inner l (bare (t ∷ list))
      ≡ lineless (statement_led n inner l (t ∷ list))
  unfolding statement_led
  line_led leader.Block t list = line_made statement.Block (statements_at inner) line_statements list
  line_led leader.Empty t list = refl
  line_led leader.If t list = line_choice list
  line_led leader.While t list = line_while list
  line_led leader.Do t list = line_do list
  line_led leader.For t list = line_for list
  line_led leader.Break t list = line_jump statement.Break list
  line_led leader.Continue t list = line_jump statement.Continue list
  line_led leader.Discard t list = line_jump statement.Discard list
  line_led leader.Return t list = line_made statement.Return (optional_value n) (line_optional_value n) list
  line_led leader.Other t list = line_simple (t ∷ list)

  line_statement_of : IsLineless (statement_of n inner)
  unfolding statement_of leader_of is_mark is_word
  line_statement_of [] = refl
  line_statement_of (t ∷ list) = line_led (leader_of t) t list

line_statement : (n : ℕ) → IsLineless (statement_at n)
unfolding statement_at
line_statement zero list = refl
line_statement (suc n) list = line_statement_of n (statement_at n) (line_statement n) list

-- Shaders.
line_body : (room : ℕ) → IsLineless (body_at room)
unfolding body_at
line_body room = line_below room (λ n list. statements_at (statement_at n) list)
    (λ n. line_statements n (statement_at n) (line_statement n))

line_headed : (n : ℕ) (head : Head) → IsLineless (headed_item n head)
unfolding headed_item function_after
line_headed n head = line_found (after_mark (codes ";")) _ _ (line_mark (codes ";"))
    (line_some (item.Declaration (declaration.Prototype head)))
    (line_past (after_mark (codes "{")) _ (line_mark (codes "{")) (line_made (item.Function head) (body_at n) (line_body n)))

line_ended_item : (n : ℕ) (b : Begun) → IsLineless (ended_item n b)
line_ended_item n (begun.Whole d) = line_some (item.Declaration d)
line_ended_item n (begun.Headed head) = line_headed n head

line_item : (room : ℕ) → IsLineless (item_at room)
unfolding item_at
line_item room = line_below room (λ n list. after (begun_at n list) (ended_item n))
    (λ n. line_after (begun_at n) (ended_item n) (line_begun n) (line_ended_item n))

line_more_items : (n : ℕ) → IsLinelessTurn (more_items n)
unfolding more_items
line_more_items n done [] = refl
line_more_items n done (t ∷ rest) = ap Go (line_made (λ i. done ++ i ∷ []) (item_at n) (line_item n) (t ∷ rest))

-- a shader is read alike without lines
pub line_items : (n : ℕ) → IsLineless (items_at n)
unfolding items_at
line_items n [] = refl
line_items n (t ∷ rest) = line_looped (more_items n) (line_more_items n) [] (t ∷ rest)
