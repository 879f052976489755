-- The spelling of a well-formed expression is read as that expression, where what follows cannot be read on into it.
use Rattle.std.proofs.Common.{◌≡◌, ◌≤◌, ◌<◌, ◌+◌, ℕ, zero, suc, Bool, true, false, ◌&&◌, cond, leb, List, [], ◌∷◌, ◌++◌, map, Option, Some, None, codes, refl, sym, ap, ◌∙◌, subst, append_assoc, arith, length-append}
use Rattle.std.specs.List.{list_all}
use Rattle.std.proofs.lemmas.Bool.{and_parts, le-leb, lt-leb}
use Rattle.glsl_tree.specs.declared.token.Class.TheVariants.{Int, Float}
use Rattle.glsl_tree.specs.declared.operators.BinaryOperator.TheVariants as binary
use Rattle.glsl_tree.specs.declared.operators.PrefixOperator.{PrefixOperator}
use Rattle.glsl_tree.specs.declared.operators.PostfixOperator.TheVariants as postfix
use Rattle.glsl_tree.specs.declared.qualifiers.Basic.{Basic}
use Rattle.glsl_tree.specs.declared.expressions.Callee.{Callee}
use Rattle.glsl_tree.specs.declared.expressions.Callee.TheVariants as callee
use Rattle.glsl_tree.specs.declared.expressions.Expr.{Expr}
use Rattle.glsl_tree.specs.declared.expressions.Expr.TheVariants as tree
use Rattle.glsl_tree.specs.declared.expressions.Expr.TheOpen.{Expr-F}
use Rattle.glsl_tree.specs.declared.expressions.Expr.TheViews.{roll-Expr}
use Rattle.glsl_tree.specs.Operators.{prefix_text, any_level, assignment_level, conditional_level, prefix_level, postfix_level, primary_level, binary_level}
use Rattle.glsl_tree.specs.Qualifiers.{basic_text}
use Rattle.glsl_tree.specs.Expressions.{Grade, token, mark, word, name, separated, callee_token, expression_tokens, grade, stands, is_free, is_callee, highest, expression_height}
use Rattle.glsl_tree.specs.Token.{PlainToken}
use Rattle.glsl_parse.specs.declared.symbols.Infix.{Infix}
use Rattle.glsl_parse.specs.declared.symbols.Infix.TheVariants as join
use Rattle.glsl_parse.specs.declared.symbols.Suffix.{Suffix}
use Rattle.glsl_parse.specs.declared.symbols.Suffix.TheVariants as suffix
use Rattle.glsl_parse.specs.Readings.{Reads, after, past, made, Stop, Go, turn_on, looped}
use Rattle.glsl_parse.specs.Symbols.{is_mark, is_word, is_name, prefix_of, basic_of, infix_of, infix_level, level_before, suffix_of, binary_of, assignment_of, postfix_of, after_mark, after_word, name_at}
use Rattle.glsl_parse.specs.ExpressionReadings.{ReadsLevel, arguments, call, named, constructed, word_expression, bracketed, primary, suffixed_by, suffixed, suffix_at, after_first, more_suffixed, postfixed, prefix_at, operand, branches, joined_by, joined, taken, infix_at, more_joined, climbed, expression}
use Rattle.glsl_parse.proofs.CompleteReadings.{Runs, runs_stop, runs_go, looped_runs}
use Rattle.glsl_parse.proofs.SoundSymbols.{infix_text, suffix_text}
use Rattle.glsl_parse.proofs.CompleteSymbols.{infix_is, suffix_is, prefix_is, basic_is, basic_no_truth, joins_only, has_levels}
use Rattle.glsl_parse.proofs.SoundLists.{AllOf}
use Rattle.glsl_parse.proofs.CompleteLists.{listed_complete}
use Rattle.glsl_parse.proofs.SoundExpressions.{binary_low}
use Rattle.glsl_parse.proofs.ExpressionNodes.{tokens_of, grade_of, height_of, node, by_height, has_height}
use Rattle.glsl_parse.proofs.ExpressionStarts.{Starts, Begins, at_primary, at_prefix, stood, left_starts, starts, no_closing, no_void, no_prefix_operator}

-- the operator at the front of a list
abbrev pub infix_front : List PlainToken → Option Infix
infix_front [] = None
infix_front (t ∷ rest) = infix_of t

-- What follows an expression of this level cannot be read on into it: no suffix, no call, and an operator only where it may
-- have the expression as its left operand.
pub record Ends (level : ℕ) (rest : List PlainToken) : Type 0 where
  pub no_suffix : suffix_at rest ≡ None
  pub no_call : after_mark (codes "(") rest ≡ None
  pub joins : (o : Infix) → infix_front rest ≡ Some o → level_before o ≤ level

-- No operator of this level or a higher one follows.
abbrev pub IsBelow : ℕ → List PlainToken → Type 0
IsBelow least rest = (o : Infix) → infix_front rest ≡ Some o → infix_level o < least

-- what reads expressions of each level reads each one of at most this height whole
abbrev pub IsComplete : ℕ → ReadsLevel → Type 0
IsComplete n inner = (least : ℕ) (e : Expr) (rest : List PlainToken) → least ≤ prefix_level → (grade e).fits ≡ true
    → least ≤ (grade e).level → expression_height e ≤ n
    → Ends (grade e).level rest → IsBelow least rest → inner least (expression_tokens e ++ rest) ≡ Some (e, rest)

-- a token that ends an expression
pub record EndsAll (m : PlainToken) : Type 0 where
  pub no_suffix : suffix_of m ≡ None
  pub no_call : is_mark (codes "(") m ≡ false
  pub no_infix : infix_of m ≡ None

pub ends_all : (m : PlainToken) (level : ℕ) (rest : List PlainToken) → EndsAll m → Ends level (m ∷ rest)
unfolding after_mark
ends_all m level rest e = record {
  no_suffix = e.no_suffix;
  no_call = ap (λ b. cond b (Some rest) None) e.no_call;
  joins = λ o f. let no : None ≡ Some o = sym e.no_infix ∙ f in absurd cc;
}

pub below_all : (m : PlainToken) (least : ℕ) (rest : List PlainToken) → EndsAll m → IsBelow least (m ∷ rest)
below_all m least rest e o f = let no : None ≡ Some o = sym e.no_infix ∙ f in absurd cc

pub ends_at_bracket : EndsAll (mark (codes ")"))
unfolding suffix_of postfix_of infix_of binary_of assignment_of is_mark
ends_at_bracket = record { no_suffix = refl; no_call = refl; no_infix = refl }

pub ends_at_square : EndsAll (mark (codes "]"))
unfolding suffix_of postfix_of infix_of binary_of assignment_of is_mark
ends_at_square = record { no_suffix = refl; no_call = refl; no_infix = refl }

pub ends_at_colon : EndsAll (mark (codes ":"))
unfolding suffix_of postfix_of infix_of binary_of assignment_of is_mark
ends_at_colon = record { no_suffix = refl; no_call = refl; no_infix = refl }

pub ends_at_semicolon : EndsAll (mark (codes ";"))
unfolding suffix_of postfix_of infix_of binary_of assignment_of is_mark
ends_at_semicolon = record { no_suffix = refl; no_call = refl; no_infix = refl }

-- before an operator that may have the expression as its left operand
ends_at_infix : (a : Infix) (level : ℕ) (rest : List PlainToken) → level_before a ≤ level → Ends level (mark (infix_text a) ∷ rest)
unfolding after_mark
ends_at_infix a level rest h = record {
  no_suffix = (joins_only a).no_suffix;
  no_call = ap (λ b. cond b (Some rest) None) (joins_only a).no_bracket;
  joins = λ o f. let same : a ≡ o = some_same (sym (infix_is a) ∙ f) in subst (λ x. level_before x ≤ level) same h;
}
  where
    some_same : {o : Infix} → Some a ≡ Some o → a ≡ o
    some_same e = cc

weaker : (level more : ℕ) (rest : List PlainToken) → level ≤ more → Ends level rest → Ends more rest
weaker level more rest h e = record {
  no_suffix = e.no_suffix;
  no_call = e.no_call;
  joins = λ o f. let k : level_before o
      ≤ level = e.joins o f in omega (arith, k, h);
}

-- one argument: a comma or a bracket follows
pub record IsArgument (n : ℕ) (e : Expr) : Type 0 where
  pub fits : (grade e).fits ≡ true
  pub level : assignment_level ≤ (grade e).level
  pub high : expression_height e ≤ n

all_arguments : (n : ℕ) (all : List Expr) → list_all (stands assignment_level) (map grade all) ≡ true
    → highest (map expression_height all) ≤ n → AllOf (IsArgument n) all
unfolding highest
all_arguments n [] f h = tt
all_arguments n (e ∷ all) f h =
    let both = and_parts _ _ f in
    let k = stood assignment_level e both.0 in
    (record { fits = k.fits; level = k.high; high = omega (arith, h) }, all_arguments n all both.1 (omega (arith, h)))

-- what follows an argument
pub record FollowsPart (rest : List PlainToken) : Type 0 where
  pub ends : (level : ℕ) → assignment_level ≤ level → Ends level rest
  pub below : IsBelow assignment_level rest

pub comma_follows : (rest : List PlainToken) → FollowsPart (mark (codes ",") ∷ rest)
comma_follows rest = record {
  ends = λ level h. ends_at_infix (join.Binary binary.Comma) level rest (omega arith);
  below = λ o f. let same : join.Binary binary.Comma ≡ o =
      some_same o (sym (infix_is (join.Binary binary.Comma)) ∙ f) in subst (λ x. infix_level x < assignment_level) same (omega arith);
}
  where
    some_same : (o : Infix) → Some (join.Binary binary.Comma) ≡ Some o → join.Binary binary.Comma ≡ o
    some_same o e = cc

pub end_follows : (m : PlainToken) (rest : List PlainToken) → EndsAll m → FollowsPart (m ∷ rest)
end_follows m rest e = record { ends = λ level h. ends_all m level rest e; below = below_all m assignment_level rest e }

module _ (n : ℕ) (inner : ReadsLevel) (complete : IsComplete n inner) where
  argument_complete : (e : Expr) (rest : List PlainToken) → IsArgument n e → FollowsPart rest
      → inner assignment_level (expression_tokens e ++ rest) ≡ Some (e, rest)
  argument_complete e rest a f = complete assignment_level e rest (omega arith) a.fits a.level a.high (f.ends (grade e).level a.level)
      f.below

  closed_complete : (e : Expr) (m : PlainToken) (rest : List PlainToken) → EndsAll m → (grade e).fits ≡ true → expression_height e ≤ n
      → inner any_level (expression_tokens e ++ (m ∷ rest)) ≡ Some (e, m ∷ rest)
  closed_complete e m rest end fits high =
      complete any_level e (m ∷ rest) (omega arith) fits (omega arith) high (ends_all m (grade e).level rest end)
      (below_all m any_level rest end)

  -- after a bracket that must stand there
  after_is : {B : Type 0} (text : List ℕ) (rest : List PlainToken) (next : Reads B) → is_mark text (mark text) ≡ true
      → past (after_mark text (mark text ∷ rest)) next ≡ next rest
  unfolding after_mark
  after_is text rest next e = ap (λ b. past (cond b (Some rest) None) next) e

  arguments_complete : (called : Callee) (first : Expr) (others : List Expr) (rest : List PlainToken)
      → AllOf (IsArgument n) (first ∷ others)
      → arguments inner called ((separated (map expression_tokens (first ∷ others)) ++ mark (codes ")") ∷ []) ++ rest)
      ≡ Some (tree.Call called (first ∷ others), rest)
  unfolding arguments after_mark is_mark
  arguments_complete called first others rest fit =
      ap (λ list. arguments inner called list)
      (append_assoc (separated (map expression_tokens (first ∷ others))) (mark (codes ")") ∷ []) rest)
      ∙ ap (λ r. after r (λ all rest. past (after_mark (codes ")") rest) (λ rest. Some (tree.Call called all, rest))))
      (listed_complete (inner assignment_level) expression_tokens (IsArgument n) FollowsPart argument_complete comma_follows first
      others (mark (codes ")") ∷ rest) fit
      (end_follows (mark (codes ")")) rest ends_at_bracket) refl)

  -- an argument is no bracket and no `void`
  call_complete : (called : Callee) (all : List Expr) (rest : List PlainToken) → AllOf (IsArgument n) all
      → call inner called ((separated (map expression_tokens all) ++ mark (codes ")") ∷ []) ++ rest) ≡ Some (tree.Call called all, rest)
  unfolding call after_mark is_mark after_word
  call_complete called [] rest fit = refl
  call_complete called (first ∷ others) rest fit =
      chosen ((separated (map expression_tokens (first ∷ others)) ++ mark (codes ")") ∷ []) ++ rest)
      (left_starts (grade first).level any_level _ rest (omega arith)
      (left_starts (grade first).level (grade first).level _ (mark (codes ")") ∷ []) (omega arith)
      (left_starts (grade first).level (grade first).level (expression_tokens first) _ (omega arith) (starts first fit.0.fits))))
      ∙ arguments_complete called first others rest fit
    where
      chosen : (list : List PlainToken) → Starts any_level list → call inner called list ≡ arguments inner called list
      chosen list s =
          ap (λ l. call inner called l) s.are
          ∙ ap (λ b. elim (cond b (Some s.more) None) [
            | Some rest ↦ Some (tree.Call called [], rest)
            | None ↦ elim (cond (is_word (codes "void") s.first) (Some s.more) None) [
              | Some rest ↦ past (after_mark (codes ")") rest) (λ rest. Some (tree.CallVoid called, rest))
              | None ↦ arguments inner called (s.first ∷ s.more)
            ]
          ]) (no_closing any_level s.first s.begins)
          ∙ ap (λ b. elim (cond b (Some s.more) None) [
            | Some rest ↦ past (after_mark (codes ")") rest) (λ rest. Some (tree.CallVoid called, rest))
            | None ↦ arguments inner called (s.first ∷ s.more)
          ]) (no_void any_level s.first s.begins)
          ∙ ap (λ l. arguments inner called l) (sym s.are)

  -- a name that is called, or a basic type
  called_read : (called : Callee) (list : List PlainToken) → is_callee called ≡ true
      → primary inner (callee_token called ∷ mark (codes "(") ∷ list) ≡ call inner called list
  unfolding primary is_name named after_mark is_mark word_expression
  called_read (callee.Name text) list fits = ap (λ b. cond b (call inner (callee.Name text) list) None) fits
  called_read (callee.Basic kind) list fits =
      ap (λ b. cond b (Some (tree.Truth true, mark (codes "(") ∷ list))
      (cond (is_word (codes "false") (word (basic_text kind))) (Some (tree.Truth false, mark (codes "(") ∷ list))
      (constructed inner (basic_of (word (basic_text kind))) (mark (codes "(") ∷ list)))) (basic_no_truth kind).0
      ∙ ap (λ b. cond b (Some (tree.Truth false, mark (codes "(") ∷ list))
      (constructed inner (basic_of (word (basic_text kind))) (mark (codes "(") ∷ list))) (basic_no_truth kind).1
      ∙ ap (λ o. constructed inner o (mark (codes "(") ∷ list)) (basic_is kind)

  name_alone : (text : List ℕ) (rest : List PlainToken) → is_free text ≡ true → after_mark (codes "(") rest ≡ None
      → primary inner (name text ∷ rest) ≡ Some (tree.Name text, rest)
  unfolding primary is_name named
  name_alone text rest fits no_call =
      ap (λ b. cond b (named inner text rest) None) fits
      ∙ ap (λ o. elim o [ Some rest ↦ call inner (callee.Name text) rest | None ↦ Some (tree.Name text, rest) ]) no_call

  -- reading this gives this expression, under either of its names
  rolled_as : (r : Option (Expr × List PlainToken)) (e f : Expr) (rest : List PlainToken) → f ≡ e → r ≡ Some (e, rest) → r
      ≡ Some (f, rest)
  rolled_as r e f rest same is = is ∙ ap (λ x. Some (x, rest)) (sym same)

  abbrev ReadsPrimary : List PlainToken → Grade → ℕ → Expr → Type 0
  ReadsPrimary tokens g height e = g.fits ≡ true → primary_level ≤ g.level → height ≤ suc n → (rest : List PlainToken)
      → after_mark (codes "(") rest ≡ None → primary inner (tokens ++ rest) ≡ Some (e, rest)

  int_complete : (text : List ℕ) (rest : List PlainToken) → primary inner (token Int text ∷ rest) ≡ Some (tree.Int text, rest)
  unfolding primary
  int_complete text rest = refl

  float_complete : (text : List ℕ) (rest : List PlainToken) → primary inner (token Float text ∷ rest) ≡ Some (tree.Float text, rest)
  unfolding primary
  float_complete text rest = refl

  truth_complete : (value : Bool) (rest : List PlainToken) → primary inner (word (cond value (codes "true") (codes "false")) ∷ rest)
      ≡ Some (tree.Truth value, rest)
  unfolding primary word_expression is_word
  truth_complete true rest = refl
  truth_complete false rest = refl

  bracket_complete : (e : Expr) (rest : List PlainToken) → (grade e).fits ≡ true → expression_height e ≤ n
      → primary inner (mark (codes "(") ∷ ((expression_tokens e ++ mark (codes ")") ∷ []) ++ rest)) ≡ Some (tree.Bracket e, rest)
  unfolding primary is_mark bracketed after_mark
  bracket_complete e rest fits high =
      ap (λ list. bracketed inner list) (append_assoc (expression_tokens e) (mark (codes ")") ∷ []) rest)
      ∙ ap (λ r. after r (λ e rest. past (after_mark (codes ")") rest) (λ rest. Some (tree.Bracket e, rest))))
      (closed_complete e (mark (codes ")")) rest ends_at_bracket fits high)

  void_complete : (called : Callee) (rest : List PlainToken) → call inner called (word (codes "void") ∷ mark (codes ")") ∷ rest)
      ≡ Some (tree.CallVoid called, rest)
  unfolding call after_mark after_word is_mark is_word
  void_complete called rest = refl

  primary_layer : (x : Expr-F Expr) → ReadsPrimary (tokens_of x) (grade_of x) (height_of x) (roll-Expr x)
  primary_layer (Expr-F.Name text) fits level high rest no_call =
      rolled_as _ (tree.Name text) _ rest (tree.rolls-Name text) (name_alone text rest fits no_call)
  primary_layer (Expr-F.Int text) fits level high rest no_call =
      rolled_as _ (tree.Int text) _ rest (tree.rolls-Int text) (int_complete text rest)
  primary_layer (Expr-F.Float text) fits level high rest no_call =
      rolled_as _ (tree.Float text) _ rest (tree.rolls-Float text) (float_complete text rest)
  primary_layer (Expr-F.Truth value) fits level high rest no_call =
      rolled_as _ (tree.Truth value) _ rest (tree.rolls-Truth value) (truth_complete value rest)
  primary_layer (Expr-F.Bracket e) fits level high rest no_call =
      rolled_as _ (tree.Bracket e) _ rest (tree.rolls-Bracket e) (bracket_complete e rest (stood any_level e fits).fits (omega arith))
  primary_layer (Expr-F.Call called all) fits level high rest no_call =
      rolled_as _ (tree.Call called all) _ rest (tree.rolls-Call called all)
      (called_read called ((separated (map expression_tokens all) ++ mark (codes ")") ∷ []) ++ rest) (and_parts _ _ fits).0
      ∙ call_complete called all rest (all_arguments n all (and_parts _ _ fits).1 (omega arith)))
  primary_layer (Expr-F.CallVoid called) fits level high rest no_call =
      rolled_as _ (tree.CallVoid called) _ rest (tree.rolls-CallVoid called)
      (called_read called (word (codes "void") ∷ mark (codes ")") ∷ rest) fits ∙ void_complete called rest)
  primary_layer (Expr-F.Index base index) fits level high rest no_call = absurd (omega arith)
  primary_layer (Expr-F.Field base field) fits level high rest no_call = absurd (omega arith)
  primary_layer (Expr-F.Postfix e operator) fits level high rest no_call = absurd (omega arith)
  primary_layer (Expr-F.Prefix operator e) fits level high rest no_call = absurd (omega arith)
  primary_layer (Expr-F.Binary operator left right) fits level high rest no_call = absurd (omega (arith, level, binary_low operator))
  primary_layer (Expr-F.Conditional condition if_true if_false) fits level high rest no_call = absurd (omega arith)
  primary_layer (Expr-F.Assign operator target value) fits level high rest no_call = absurd (omega arith)

  -- a turn that reads what stands directly after an expression
  suffix_turn : (base : Expr) (s : Suffix) (list : List PlainToken) → expression_height base ≤ n
      → more_suffixed n inner base (mark (suffix_text s) ∷ list) ≡ Go (suffixed_by inner base s list)
  unfolding more_suffixed suffixed
  suffix_turn base s list high =
      ap (λ o. turn_on o (λ s. suffixed n inner base s list)) (suffix_is s)
      ∙ ap (λ b. Go (cond b (suffixed_by inner base s list) None)) (le-leb (expression_height base) n high)

  no_suffix_turn : (base : Expr) (list : List PlainToken) → suffix_at list ≡ None → more_suffixed n inner base list ≡ Stop
  unfolding more_suffixed
  no_suffix_turn base list e = ap (λ o. turn_on o (λ s. suffixed n inner base s (after_first list))) e

  index_read : (base index : Expr) (rest : List PlainToken) → (grade index).fits ≡ true → expression_height index ≤ n
      → suffixed_by inner base suffix.Index ((expression_tokens index ++ mark (codes "]") ∷ []) ++ rest)
      ≡ Some (tree.Index base index, rest)
  unfolding after_mark is_mark
  index_read base index rest fits high =
      ap (λ list. suffixed_by inner base suffix.Index list) (append_assoc (expression_tokens index) (mark (codes "]") ∷ []) rest)
      ∙ ap (λ r. after r (λ index rest. past (after_mark (codes "]") rest) (λ rest. Some (tree.Index base index, rest))))
      (closed_complete index (mark (codes "]")) rest ends_at_square fits high)

  field_read : (base : Expr) (field : List ℕ) (rest : List PlainToken) → is_free field ≡ true
      → suffixed_by inner base suffix.Field (name field ∷ rest) ≡ Some (tree.Field base field, rest)
  unfolding name_at is_name
  field_read base field rest fits = ap (λ b. made (tree.Field base) (cond b (Some (field, rest)) None)) fits

  abbrev ReadsPostfix : List PlainToken → Grade → ℕ → Expr → Type 0
  ReadsPostfix tokens g height e = g.fits ≡ true → postfix_level ≤ g.level → height ≤ suc n → (rest : List PlainToken)
      → after_mark (codes "(") rest ≡ None
      → (u : Expr) (end : List PlainToken) → Runs (more_suffixed n inner) e rest u end → postfixed n inner (tokens ++ rest)
      ≡ Some (u, end)

  from_primary : (x : Expr-F Expr) → (grade_of x).fits ≡ true → primary_level ≤ (grade_of x).level → height_of x ≤ suc n
      → (rest : List PlainToken) → after_mark (codes "(") rest ≡ None
      → (u : Expr) (end : List PlainToken) → Runs (more_suffixed n inner) (roll-Expr x) rest u end
      → postfixed n inner (tokens_of x ++ rest) ≡ Some (u, end)
  unfolding postfixed
  from_primary x fits level high rest no_call u end runs =
      ap (λ r. after r (looped (more_suffixed n inner))) (primary_layer x fits level high rest no_call)
      ∙ looped_runs (more_suffixed n inner) (roll-Expr x) u rest end runs

  -- a suffix after an expression of which this is known
  after_base : (base : Expr) (s : Suffix) (tail rest end : List PlainToken) (e f u : Expr)
      → ReadsPostfix (expression_tokens base) (grade base) (expression_height base) base → stands postfix_level (grade base) ≡ true
      → expression_height base ≤ n
      → suffixed_by inner base s (tail ++ rest) ≡ Some (e, rest) → f ≡ e → Runs (more_suffixed n inner) f rest u end
      → postfixed n inner ((expression_tokens base ++ (mark (suffix_text s) ∷ tail)) ++ rest) ≡ Some (u, end)
  unfolding after_mark is_mark
  after_base base s tail rest end e f u reads fits high is same runs =
      let k = stood postfix_level base fits in
      ap (λ list. postfixed n inner list) (append_assoc (expression_tokens base) (mark (suffix_text s) ∷ tail) rest)
      ∙ reads k.fits k.high (omega (arith, high)) (mark (suffix_text s) ∷ (tail ++ rest)) (no_bracket s (tail ++ rest)) u end
      (runs_go (more_suffixed n inner) base e u (mark (suffix_text s) ∷ (tail ++ rest)) rest end
      (suffix_turn base s (tail ++ rest) high ∙ ap Go is)
      (omega (arith, length-append tail rest)) (subst (λ x. Runs (more_suffixed n inner) x rest u end) same runs))
    where
      no_bracket : (s : Suffix) (list : List PlainToken) → after_mark (codes "(") (mark (suffix_text s) ∷ list) ≡ None
      no_bracket suffix.Index list = refl
      no_bracket suffix.Field list = refl
      no_bracket (suffix.Step postfix.Increment) list = refl
      no_bracket (suffix.Step postfix.Decrement) list = refl

  postfix_step : (h : ℕ) → ((e : Expr) → expression_height e ≤ h → ReadsPostfix (expression_tokens e) (grade e) (expression_height e) e)
      → (x : Expr-F Expr) → height_of x ≤ suc h → ReadsPostfix (tokens_of x) (grade_of x) (height_of x) (roll-Expr x)
  postfix_step h within (Expr-F.Index base index) below fits level high rest no_call u end runs =
      let both = and_parts _ _ fits in
      after_base base suffix.Index (expression_tokens index ++ mark (codes "]") ∷ []) rest end (tree.Index base index) _ u
      (within base (omega arith)) both.0 (omega arith)
      (index_read base index rest (stood any_level index both.1).fits (omega arith)) (tree.rolls-Index base index) runs
  postfix_step h within (Expr-F.Field base field) below fits level high rest no_call u end runs =
      let both = and_parts _ _ fits in
      after_base base suffix.Field (name field ∷ []) rest end (tree.Field base field) _ u (within base (omega arith)) both.0
      (omega arith)
      (field_read base field rest both.1) (tree.rolls-Field base field) runs
  postfix_step h within (Expr-F.Postfix e operator) below fits level high rest no_call u end runs =
      after_base e (suffix.Step operator) [] rest end (tree.Postfix e operator) _ u (within e (omega arith)) fits (omega arith)
      refl (tree.rolls-Postfix e operator) runs
  postfix_step h within (Expr-F.Prefix operator e) below fits level high rest no_call u end runs = absurd (omega arith)
  postfix_step h within (Expr-F.Binary operator left right) below fits level high rest no_call u end runs =
      absurd (omega (arith, level, binary_low operator))
  postfix_step h within (Expr-F.Conditional condition if_true if_false) below fits level high rest no_call u end runs =
      absurd (omega arith)
  postfix_step h within (Expr-F.Assign operator target value) below fits level high rest no_call u end runs = absurd (omega arith)
  postfix_step h within (Expr-F.Name text) below fits level high rest no_call u end runs =
      from_primary (Expr-F.Name text) fits (omega arith) high rest no_call u end runs
  postfix_step h within (Expr-F.Int text) below fits level high rest no_call u end runs =
      from_primary (Expr-F.Int text) fits (omega arith) high rest no_call u end runs
  postfix_step h within (Expr-F.Float text) below fits level high rest no_call u end runs =
      from_primary (Expr-F.Float text) fits (omega arith) high rest no_call u end runs
  postfix_step h within (Expr-F.Truth value) below fits level high rest no_call u end runs =
      from_primary (Expr-F.Truth value) fits (omega arith) high rest no_call u end runs
  postfix_step h within (Expr-F.Bracket e) below fits level high rest no_call u end runs =
      from_primary (Expr-F.Bracket e) fits (omega arith) high rest no_call u end runs
  postfix_step h within (Expr-F.Call called all) below fits level high rest no_call u end runs =
      from_primary (Expr-F.Call called all) fits (omega arith) high rest no_call u end runs
  postfix_step h within (Expr-F.CallVoid called) below fits level high rest no_call u end runs =
      from_primary (Expr-F.CallVoid called) fits (omega arith) high rest no_call u end runs

  postfix_complete : (e : Expr) → ReadsPostfix (expression_tokens e) (grade e) (expression_height e) e
  postfix_complete = by_height ReadsPostfix postfix_step

  -- an expression of this level does not begin with an operator
  operand_of_postfix : (e : Expr) (rest : List PlainToken) → (grade e).fits ≡ true → postfix_level ≤ (grade e).level
      → operand n inner (expression_tokens e ++ rest) ≡ postfixed n inner (expression_tokens e ++ rest)
  unfolding operand
  operand_of_postfix e rest fits level = go (left_starts (grade e).level postfix_level (expression_tokens e) rest level (starts e fits))
    where
      none : (t : PlainToken) → Begins postfix_level t → prefix_of t ≡ None
      none t (at_primary b) = no_prefix_operator t b
      none t (at_prefix operator low f) = absurd (omega arith)

      go : Starts postfix_level (expression_tokens e ++ rest) → operand n inner (expression_tokens e ++ rest)
          ≡ postfixed n inner (expression_tokens e ++ rest)
      go s = ap (λ o. elim o [
        | Some operator ↦ made (tree.Prefix operator) (inner prefix_level (after_first (expression_tokens e ++ rest)))
        | None ↦ postfixed n inner (expression_tokens e ++ rest)
      ]) (ap prefix_at s.are ∙ none s.first s.begins)

  postfix_operand : (e : Expr) → (grade e).fits ≡ true → postfix_level ≤ (grade e).level → expression_height e ≤ suc n
      → (rest : List PlainToken) → Ends (grade e).level rest
      → operand n inner (expression_tokens e ++ rest) ≡ Some (e, rest)
  postfix_operand e fits level high rest ends =
      operand_of_postfix e rest fits level
      ∙ postfix_complete e fits level high rest ends.no_call e rest
      (runs_stop (more_suffixed n inner) e rest (no_suffix_turn e rest ends.no_suffix))

  prefix_complete : (operator : PrefixOperator) (e : Expr) (rest : List PlainToken) → stands prefix_level (grade e) ≡ true
      → expression_height e ≤ n → Ends prefix_level rest
      → operand n inner (mark (prefix_text operator) ∷ (expression_tokens e ++ rest)) ≡ Some (tree.Prefix operator e, rest)
  unfolding operand
  prefix_complete operator e rest fits high ends =
      let k = stood prefix_level e fits in
      ap (λ o. elim o [
        | Some operator ↦ made (tree.Prefix operator) (inner prefix_level (expression_tokens e ++ rest))
        | None ↦ postfixed n inner (mark (prefix_text operator) ∷ (expression_tokens e ++ rest))
      ]) (prefix_is operator)
      ∙ ap (made (tree.Prefix operator)) (complete prefix_level e rest (omega arith) k.fits k.high high
      (weaker prefix_level (grade e).level rest k.high ends) (λ o f. (has_levels o).low))

  -- a turn that reads what joins an expression to what follows
  join_turn : (least : ℕ) (left : Expr) (o : Infix) (list : List PlainToken) → least ≤ infix_level o
      → level_before o ≤ (grade left).level → expression_height left ≤ n
      → more_joined n inner least left (mark (infix_text o) ∷ list) ≡ Go (joined_by inner left o list)
  unfolding more_joined infix_at joined
  join_turn least left o list asked before high =
      ap (λ p. turn_on (taken least (grade left).level p) (λ operator. joined n inner left operator list)) (infix_is o)
      ∙ ap (λ b. turn_on (cond (b && leb (level_before o) (grade left).level) (Some o) None)
      (λ operator. joined n inner left operator list)) (le-leb least (infix_level o) asked)
      ∙ ap (λ b. turn_on (cond b (Some o) None) (λ operator. joined n inner left operator list))
      (le-leb (level_before o) (grade left).level before)
      ∙ ap (λ b. Go (cond b (joined_by inner left o list) None)) (le-leb (expression_height left) n high)

  abbrev ReadsClimbed : ℕ → List PlainToken → Grade → ℕ → Expr → Type 0
  ReadsClimbed least tokens g height e = g.fits ≡ true → least ≤ g.level → height ≤ suc n → (rest : List PlainToken) → Ends g.level rest
      → (u : Expr) (end : List PlainToken) → Runs (more_joined n inner least) e rest u end → climbed n inner least (tokens ++ rest)
      ≡ Some (u, end)

  from_operand : (least : ℕ) (list rest end : List PlainToken) (e f u : Expr) → operand n inner list ≡ Some (e, rest) → f ≡ e
      → Runs (more_joined n inner least) f rest u end
      → climbed n inner least list ≡ Some (u, end)
  unfolding climbed
  from_operand least list rest end e f u is same runs = ap (λ r. after r (looped (more_joined n inner least))) is
      ∙ looped_runs (more_joined n inner least) e u rest end (subst (λ x. Runs (more_joined n inner least) x rest u end) same runs)

  from_postfix : (least : ℕ) (x : Expr-F Expr) → (grade_of x).fits ≡ true → postfix_level ≤ (grade_of x).level → height_of x ≤ suc n
      → (rest : List PlainToken) → Ends (grade_of x).level rest
      → (u : Expr) (end : List PlainToken) → Runs (more_joined n inner least) (roll-Expr x) rest u end
      → climbed n inner least (tokens_of x ++ rest) ≡ Some (u, end)
  from_postfix least x fits level high rest ends u end runs =
      let k = node x (roll-Expr x) refl in
      let read = postfix_operand (roll-Expr x) (ap (λ g. g.fits) k.graded ∙ fits)
      (subst (λ g. postfix_level ≤ g.level) (sym k.graded) level) (subst (λ h. h ≤ suc n) (sym k.high) high) rest
      (subst (λ g. Ends g.level rest) (sym k.graded) ends) in
      from_operand least (tokens_of x ++ rest) rest end (roll-Expr x) (roll-Expr x) u
      (subst (λ w. operand n inner (w ++ rest) ≡ Some (roll-Expr x, rest)) k.spelled read) refl runs

  -- no operator of the level that is asked for follows
  no_join : (least : ℕ) (e : Expr) (rest : List PlainToken) → IsBelow least rest → more_joined n inner least e rest ≡ Stop
  unfolding more_joined infix_at
  no_join least e [] below = refl
  no_join least e (t ∷ rest) below = go (infix_of t) (λ o f. below o f)
    where
      go : (o : Option Infix) → ((p : Infix) → o ≡ Some p → infix_level p < least)
          → turn_on (taken least (grade e).level o) (λ operator. joined n inner e operator rest) ≡ Stop
      go None below = refl
      go (Some o) below = ap (λ b. turn_on (cond (b && leb (level_before o) (grade e).level) (Some o) None)
          (λ operator. joined n inner e operator rest)) (lt-leb least (infix_level o) (below o refl))

  -- an operator after a left operand of which this is known
  after_left : (least : ℕ) (left : Expr) (o : Infix) (tail rest end : List PlainToken) (e f u : Expr)
      → ReadsClimbed least (expression_tokens left) (grade left) (expression_height left) left → stands (level_before o) (grade left)
      ≡ true → least ≤ infix_level o → expression_height left ≤ n
      → joined_by inner left o (tail ++ rest) ≡ Some (e, rest) → f ≡ e → Runs (more_joined n inner least) f rest u end
      → climbed n inner least ((expression_tokens left ++ (mark (infix_text o) ∷ tail)) ++ rest) ≡ Some (u, end)
  after_left least left o tail rest end e f u reads fits asked high is same runs =
      let k = stood (level_before o) left fits in
      ap (λ list. climbed n inner least list) (append_assoc (expression_tokens left) (mark (infix_text o) ∷ tail) rest)
      ∙ reads k.fits (omega (arith, asked, (has_levels o).before, k.high)) (omega (arith, high))
      (mark (infix_text o) ∷ (tail ++ rest)) (ends_at_infix o (grade left).level (tail ++ rest) k.high) u end
      (runs_go (more_joined n inner least) left e u (mark (infix_text o) ∷ (tail ++ rest)) rest end
      (join_turn least left o (tail ++ rest) asked k.high high ∙ ap Go is)
      (omega (arith, length-append tail rest)) (subst (λ x. Runs (more_joined n inner least) x rest u end) same runs))

  -- the last part of an expression that is open at its right end
  last_complete : (least level : ℕ) (e : Expr) (rest : List PlainToken) → least ≤ prefix_level → stands least (grade e) ≡ true
      → level ≤ least → expression_height e ≤ n → Ends level rest
      → IsBelow least rest → inner least (expression_tokens e ++ rest) ≡ Some (e, rest)
  last_complete least level e rest low fits under high ends below =
      let k = stood least e fits in
      complete least e rest low k.fits k.high high (weaker level (grade e).level rest (omega (arith, under, k.high)) ends) below

  -- an operator that may follow an expression of such a level is a comma
  only_comma : (level : ℕ) (rest : List PlainToken) → level ≤ conditional_level → Ends level rest
      → Ends any_level rest × IsBelow assignment_level rest
  only_comma level rest h ends = (
    record { no_suffix = ends.no_suffix; no_call = ends.no_call; joins = λ o f. (has_levels o).gap (omega (arith, h, ends.joins o f)) },
    λ o f. omega (arith, (has_levels o).before, (has_levels o).gap (omega (arith, h, ends.joins o f))),
  )

  branches_read : (condition if_true if_false : Expr) (rest : List PlainToken) → stands any_level (grade if_true) ≡ true
      → stands assignment_level (grade if_false) ≡ true
      → expression_height if_true ≤ n → expression_height if_false ≤ n → Ends conditional_level rest
      → branches inner condition ((expression_tokens if_true ++ (mark (codes ":") ∷ expression_tokens if_false)) ++ rest)
      ≡ Some (tree.Conditional condition if_true if_false, rest)
  unfolding branches after_mark is_mark
  branches_read condition if_true if_false rest first second high higher ends =
      let comma = only_comma conditional_level rest (omega arith) ends in
      ap (λ list. branches inner condition list)
      (append_assoc (expression_tokens if_true) (mark (codes ":") ∷ expression_tokens if_false) rest)
      ∙ ap (λ r. after r (λ if_true rest. past (after_mark (codes ":") rest)
      (λ rest. made (tree.Conditional condition if_true) (inner assignment_level rest))))
      (closed_complete if_true (mark (codes ":")) (expression_tokens if_false ++ rest) ends_at_colon
      (stood any_level if_true first).fits high)
      ∙ ap (made (tree.Conditional condition if_true))
      (last_complete assignment_level any_level if_false rest (omega arith) second (omega arith) higher comma.0 comma.1)

  climb_step : (least h : ℕ) → least ≤ prefix_level
      → ((e : Expr) → expression_height e ≤ h → ReadsClimbed least (expression_tokens e) (grade e) (expression_height e) e)
      → (x : Expr-F Expr) → height_of x ≤ suc h → ReadsClimbed least (tokens_of x) (grade_of x) (height_of x) (roll-Expr x)
  climb_step least h low within (Expr-F.Binary operator left right) below fits level high rest ends u end runs =
      let both = and_parts _ _ fits in
      after_left least left (join.Binary operator) (expression_tokens right) rest end (tree.Binary operator left right) _ u
      (within left (omega arith)) both.0 level (omega arith)
      (ap (made (tree.Binary operator left)) (last_complete (binary_level operator + 1) (binary_level operator) right rest
      (binary_low operator) both.1 (omega arith) (omega arith) ends
      (λ o f. let k : level_before o ≤ binary_level operator = ends.joins o f in omega (arith, k, (has_levels o).before))))
      (tree.rolls-Binary operator left right) runs
  climb_step least h low within (Expr-F.Conditional condition if_true if_false) below fits level high rest ends u end runs =
      let both = and_parts _ _ fits in
      let parts = and_parts _ _ both.1 in
      after_left least condition join.Conditional (expression_tokens if_true ++ (mark (codes ":") ∷ expression_tokens if_false)) rest
      end (tree.Conditional condition if_true if_false) _ u
      (within condition (omega arith)) both.0 level (omega arith)
      (branches_read condition if_true if_false rest parts.0 parts.1 (omega arith) (omega arith) ends)
      (tree.rolls-Conditional condition if_true if_false) runs
  climb_step least h low within (Expr-F.Assign operator target value) below fits level high rest ends u end runs =
      let both = and_parts _ _ fits in
      let comma = only_comma assignment_level rest (omega arith) ends in
      after_left least target (join.Assign operator) (expression_tokens value) rest end (tree.Assign operator target value) _ u
      (within target (omega arith)) both.0 level (omega arith)
      (ap (made (tree.Assign operator target))
      (last_complete assignment_level any_level value rest (omega arith) both.1 (omega arith) (omega arith) comma.0 comma.1))
      (tree.rolls-Assign operator target value) runs
  climb_step least h low within (Expr-F.Prefix operator e) below fits level high rest ends u end runs =
      from_operand least (mark (prefix_text operator) ∷ (expression_tokens e ++ rest)) rest end (tree.Prefix operator e) _ u
      (prefix_complete operator e rest fits (omega arith) ends) (tree.rolls-Prefix operator e) runs
  climb_step least h low within (Expr-F.Name text) below fits level high rest ends u end runs =
      from_postfix least (Expr-F.Name text) fits (omega arith) high rest ends u end runs
  climb_step least h low within (Expr-F.Int text) below fits level high rest ends u end runs =
      from_postfix least (Expr-F.Int text) fits (omega arith) high rest ends u end runs
  climb_step least h low within (Expr-F.Float text) below fits level high rest ends u end runs =
      from_postfix least (Expr-F.Float text) fits (omega arith) high rest ends u end runs
  climb_step least h low within (Expr-F.Truth value) below fits level high rest ends u end runs =
      from_postfix least (Expr-F.Truth value) fits (omega arith) high rest ends u end runs
  climb_step least h low within (Expr-F.Bracket e) below fits level high rest ends u end runs =
      from_postfix least (Expr-F.Bracket e) fits (omega arith) high rest ends u end runs
  climb_step least h low within (Expr-F.Call called all) below fits level high rest ends u end runs =
      from_postfix least (Expr-F.Call called all) fits (omega arith) high rest ends u end runs
  climb_step least h low within (Expr-F.CallVoid called) below fits level high rest ends u end runs =
      from_postfix least (Expr-F.CallVoid called) fits (omega arith) high rest ends u end runs
  climb_step least h low within (Expr-F.Index base index) below fits level high rest ends u end runs =
      from_postfix least (Expr-F.Index base index) fits (omega arith) high rest ends u end runs
  climb_step least h low within (Expr-F.Field base field) below fits level high rest ends u end runs =
      from_postfix least (Expr-F.Field base field) fits (omega arith) high rest ends u end runs
  climb_step least h low within (Expr-F.Postfix e operator) below fits level high rest ends u end runs =
      from_postfix least (Expr-F.Postfix e operator) fits (omega arith) high rest ends u end runs

  pub climbed_complete : IsComplete (suc n) (climbed n inner)
  climbed_complete least e rest low fits level high ends below =
      by_height (ReadsClimbed least) (λ h within x. climb_step least h low within x) e fits level high rest ends e rest
      (runs_stop (more_joined n inner least) e rest (no_join least e rest below))

-- each well-formed expression of at most this height is read whole
pub expression_complete : (n : ℕ) → IsComplete n (expression n)
unfolding expression
expression_complete zero least e rest low fits level high ends below = absurd (omega (arith, high, has_height e))
expression_complete (suc n) least e rest low fits level high ends below =
    climbed_complete n (expression n) (expression_complete n) least e rest low fits level high ends below
