-- What is read as an expression is a well-formed expression that spells the tokens, of the level and the height that are asked for.
use Rattle.std.proofs.Common.{◌≡◌, ◌≤◌, ◌+◌, ℕ, zero, suc, Bool, true, false, ◌&&◌, cond, leb, List, [], ◌∷◌, ◌++◌, map, Option, Some, None, codes, refl, sym, ap, ◌∙◌, subst, append_assoc, arith}
use Rattle.std.specs.List.{list_all}
use Rattle.std.proofs.lemmas.Bool.{and_from, le-leb, leb-true}
use Rattle.glsl_tree.specs.declared.token.Class.{Class}
use Rattle.glsl_tree.specs.declared.token.Class.TheVariants.{Identifier, Keyword, Int, Float, Punct, Hash, NewLine, Params}
use Rattle.glsl_tree.specs.declared.operators.BinaryOperator.{BinaryOperator}
use Rattle.glsl_tree.specs.declared.operators.BinaryOperator.TheVariants as binary
use Rattle.glsl_tree.specs.declared.operators.PrefixOperator.{PrefixOperator}
use Rattle.glsl_tree.specs.declared.qualifiers.Basic.{Basic}
use Rattle.glsl_tree.specs.declared.expressions.Callee.{Callee}
use Rattle.glsl_tree.specs.declared.expressions.Callee.TheVariants as callee
use Rattle.glsl_tree.specs.declared.expressions.Expr.{Expr}
use Rattle.glsl_tree.specs.declared.expressions.Expr.TheVariants as tree
use Rattle.glsl_tree.specs.declared.expressions.Expr.TheOpen.{Expr-F}
use Rattle.glsl_tree.specs.declared.expressions.Expr.TheViews.{roll-Expr}
use Rattle.glsl_tree.specs.Operators.{prefix_text, binary_text, any_level, assignment_level, or_level, prefix_level, postfix_level, primary_level, binary_level}
use Rattle.glsl_tree.specs.Qualifiers.{basic_text}
use Rattle.glsl_tree.specs.Expressions.{Grade, mark, word, name, separated, callee_token, expression_tokens, grade, stands, is_free, is_callee, highest, expression_height}
use Rattle.glsl_tree.specs.Token.{PlainToken}
use Rattle.glsl_tree.specs.Statements.{without_line}
use Rattle.glsl_parse.specs.declared.symbols.Infix.{Infix}
use Rattle.glsl_parse.specs.declared.symbols.Infix.TheVariants as join
use Rattle.glsl_parse.specs.declared.symbols.Suffix.{Suffix}
use Rattle.glsl_parse.specs.declared.symbols.Suffix.TheVariants as suffix
use Rattle.glsl_parse.specs.Readings.{made}
use Rattle.glsl_parse.specs.Symbols.{is_mark, is_word, is_name, basic_of, infix_of, infix_level, level_before, suffix_of, after_mark, after_word, name_at}
use Rattle.glsl_parse.specs.ExpressionReadings.{ReadsLevel, listed, arguments, call, named, constructed, word_expression, bracketed, primary_of, primary, suffixed_by, suffixed, fits_below, after_first, more_suffixed, postfixed, prefix_at, operand, branches, joined_by, joined, taken, infix_at, more_joined, climbed, expression}
use Rattle.glsl_parse.proofs.SoundReadings.{bare, OnRead, OnGo, on_none, on_some, sound_after, sound_past, sound_made, sound_chosen, sound_either, sound_found, sound_stop, sound_turn, sound_looped}
use Rattle.glsl_parse.proofs.SoundSymbols.{token_is, is_mark-true, is_word-true, is_name-true, is_name-free, mark_read, word_read, name_read, prefix_found, basic_found, infix_text, suffix_text, infix_found, suffix_found}
use Rattle.glsl_parse.proofs.SoundLists.{AllOf, closed_by, IsItem, AreItems, listed_sound}
use Rattle.glsl_parse.proofs.ExpressionNodes.{tokens_of, grade_of, height_of, node}

-- an expression of this level or a higher one, and at most this height, is read from these tokens
pub record IsRead (least n : ℕ) (all : List PlainToken) (e : Expr) (rest : List PlainToken) : Type 0 where
  pub spelled : all ≡ expression_tokens e ++ bare rest
  pub fits : (grade e).fits ≡ true
  pub level : least ≤ (grade e).level
  pub high : expression_height e ≤ n

-- what reads expressions of each level, of at most this height, reads nothing else
abbrev pub IsSound : ℕ → ReadsLevel → Type 0
IsSound n inner = (least : ℕ) (list : List PlainToken) → least ≤ prefix_level → OnRead (IsRead least n (bare list)) (inner least list)

is_read : (least n : ℕ) (all rest : List PlainToken) (x : Expr-F Expr) (e : Expr) → roll-Expr x ≡ e → all ≡ tokens_of x ++ bare rest
    → (grade_of x).fits ≡ true
    → least ≤ (grade_of x).level → height_of x ≤ n → IsRead least n all e rest
is_read least n all rest x e is spelled fits level high =
    let k = node x e is in
    record {
      spelled = spelled ∙ ap (λ w. w ++ bare rest) (sym k.spelled);
      fits = ap (λ g. g.fits) k.graded ∙ fits;
      level = subst (λ g. least ≤ g.level) (sym k.graded) level;
      high = subst (λ h. h ≤ n) (sym k.high) high;
    }

lower : (least more n : ℕ) (all rest : List PlainToken) (e : Expr) → least ≤ more → IsRead more n all e rest → IsRead least n all e rest
lower least more n all rest e h r = record { spelled = r.spelled; fits = r.fits; level = omega (arith, h, r.level); high = r.high }

from_list : (least n : ℕ) (all other rest : List PlainToken) (e : Expr) → all ≡ other → IsRead least n other e rest
    → IsRead least n all e rest
from_list least n all other rest e same r = record { spelled = same ∙ r.spelled; fits = r.fits; level = r.level; high = r.high }

on_list : (least n : ℕ) (all other : List PlainToken) (r : Option (Expr × List PlainToken)) → all ≡ other
    → OnRead (IsRead least n other) r → OnRead (IsRead least n all) r
on_list least n all other r same s = record { given = λ e rest f. from_list least n all other rest e same (s.given e rest f) }

pub stands_is : (least : ℕ) (g : Grade) → g.fits ≡ true → least ≤ g.level → stands least g ≡ true
stands_is least g fits level = and_from g.fits (leb least g.level) fits (le-leb least g.level level)

pub binary_low : (a : BinaryOperator) → binary_level a + 1 ≤ prefix_level
binary_low binary.Comma = omega arith
binary_low binary.Or = omega arith
binary_low binary.Xor = omega arith
binary_low binary.And = omega arith
binary_low binary.Equal = omega arith
binary_low binary.NotEqual = omega arith
binary_low binary.Less = omega arith
binary_low binary.Greater = omega arith
binary_low binary.LessEqual = omega arith
binary_low binary.GreaterEqual = omega arith
binary_low binary.Add = omega arith
binary_low binary.Subtract = omega arith
binary_low binary.Multiply = omega arith
binary_low binary.Divide = omega arith

-- an argument
pub record IsArgument (n : ℕ) (e : Expr) : Type 0 where
  pub fits : stands assignment_level (grade e) ≡ true
  pub high : expression_height e ≤ n

arguments_fit : (n : ℕ) (all : List Expr) → AllOf (IsArgument n) all → list_all (stands assignment_level) (map grade all) ≡ true
arguments_fit n [] h = refl
arguments_fit n (e ∷ all) h = and_from _ _ h.0.fits (arguments_fit n all h.1)

arguments_high : (n : ℕ) (all : List Expr) → AllOf (IsArgument n) all → highest (map expression_height all) ≤ n
unfolding highest
arguments_high n [] h = omega arith
arguments_high n (e ∷ all) h = omega (arith, h.0.high, arguments_high n all h.1)

module _ (n : ℕ) (inner : ReadsLevel) (sound : IsSound n inner) where
  abbrev IsPrimary : List PlainToken → Expr → List PlainToken → Type 0
  IsPrimary all e rest = IsRead primary_level (suc n) all e rest

  argument_sound : (list : List PlainToken) → OnRead (IsItem expression_tokens (IsArgument n) (bare list)) (inner assignment_level list)
  argument_sound list = record {
    given = λ e rest f.
        let r = (sound assignment_level list (omega arith)).given e rest f in
        record { spelled = r.spelled; good = record { fits = stands_is assignment_level (grade e) r.fits r.level; high = r.high } };
  }

  arguments_sound : (called : Callee) (list : List PlainToken) → is_callee called ≡ true
      → OnRead (IsPrimary (callee_token called ∷ mark (codes "(") ∷ bare list)) (arguments inner called list)
  unfolding arguments
  arguments_sound called list ok =
      sound_after (AreItems expression_tokens (IsArgument n) (bare list))
      (IsPrimary (callee_token called ∷ mark (codes "(") ∷ bare list)) (listed (inner assignment_level) list) _
      (listed_sound expression_tokens (IsArgument n) (inner assignment_level) argument_sound list) (λ all mid r.
      sound_past (IsPrimary (callee_token called ∷ mark (codes "(") ∷ bare list)) (after_mark (codes ")") mid) _ (λ rest e.
      on_some (IsPrimary (callee_token called ∷ mark (codes "(") ∷ bare list)) (tree.Call called all) rest
      (is_read primary_level (suc n) (callee_token called ∷ mark (codes "(") ∷ bare list) rest (Expr-F.Call called all)
      (tree.Call called all) (tree.rolls-Call called all)
      (ap (λ w. callee_token called ∷ mark (codes "(") ∷ w)
      (closed_by (bare list) (separated (map expression_tokens all)) (bare mid) (bare rest) (mark (codes ")")) r.spelled
      (mark_read (codes ")") mid rest e)))
      (and_from _ _ ok (arguments_fit n all r.good))
      (omega arith)
      (omega (arith, arguments_high n all r.good)))))

  call_sound : (called : Callee) (list : List PlainToken) → is_callee called ≡ true
      → OnRead (IsPrimary (callee_token called ∷ mark (codes "(") ∷ bare list)) (call inner called list)
  unfolding call
  call_sound called list ok =
      sound_found (IsPrimary (callee_token called ∷ mark (codes "(") ∷ bare list)) (after_mark (codes ")") list) _ _
      (λ rest e. on_some (IsPrimary (callee_token called ∷ mark (codes "(") ∷ bare list)) (tree.Call called []) rest
      (is_read primary_level (suc n) (callee_token called ∷ mark (codes "(") ∷ bare list) rest (Expr-F.Call called [])
      (tree.Call called []) (tree.rolls-Call called [])
      (ap (λ w. callee_token called ∷ mark (codes "(") ∷ w) (mark_read (codes ")") list rest e))
      (and_from _ _ ok refl)
      (omega arith)
      (omega (arith, arguments_high n [] tt))))
      (λ none. sound_found (IsPrimary (callee_token called ∷ mark (codes "(") ∷ bare list)) (after_word (codes "void") list) _ _
      (λ mid e. sound_past (IsPrimary (callee_token called ∷ mark (codes "(") ∷ bare list)) (after_mark (codes ")") mid) _
      (λ rest f.
      on_some (IsPrimary (callee_token called ∷ mark (codes "(") ∷ bare list)) (tree.CallVoid called) rest
      (is_read primary_level (suc n) (callee_token called ∷ mark (codes "(") ∷ bare list) rest (Expr-F.CallVoid called)
      (tree.CallVoid called) (tree.rolls-CallVoid called)
      (ap (λ w. callee_token called ∷ mark (codes "(") ∷ w) (word_read (codes "void") list mid e
      ∙ ap (λ w. word (codes "void") ∷ w) (mark_read (codes ")") mid rest f)))
      ok (omega arith) (omega arith))))
      (λ no_void. arguments_sound called list ok))

  named_sound : (text : List ℕ) (list : List PlainToken) → is_free text ≡ true
      → OnRead (IsPrimary (name text ∷ bare list)) (named inner text list)
  unfolding named
  named_sound text list free =
      sound_found (IsPrimary (name text ∷ bare list)) (after_mark (codes "(") list) _ _
      (λ rest e. on_list primary_level (suc n) (name text ∷ bare list) (name text ∷ mark (codes "(") ∷ bare rest)
      (call inner (callee.Name text) rest)
      (ap (λ w. name text ∷ w) (mark_read (codes "(") list rest e)) (call_sound (callee.Name text) rest free))
      (λ none. on_some (IsPrimary (name text ∷ bare list)) (tree.Name text) list
      (is_read primary_level (suc n) (name text ∷ bare list) list (Expr-F.Name text) (tree.Name text) (tree.rolls-Name text) refl
      free (omega arith) (omega arith)))

  constructed_sound : (t : PlainToken) (list : List PlainToken) (o : Option Basic) → basic_of t ≡ o
      → OnRead (IsPrimary (without_line t ∷ bare list)) (constructed inner o list)
  constructed_sound t list None e = on_none (IsPrimary (without_line t ∷ bare list))
  constructed_sound t list (Some kind) e =
      sound_past (IsPrimary (without_line t ∷ bare list)) (after_mark (codes "(") list) (call inner (callee.Basic kind)) (λ rest f.
      on_list primary_level (suc n) (without_line t ∷ bare list) (word (basic_text kind) ∷ mark (codes "(") ∷ bare rest)
      (call inner (callee.Basic kind) rest)
      (ap (λ w. w ∷ bare list) (basic_found t kind e) ∙ ap (λ w. word (basic_text kind) ∷ w) (mark_read (codes "(") list rest f))
      (call_sound (callee.Basic kind) rest refl))

  truth_sound : (t : PlainToken) (list : List PlainToken) (value : Bool) → without_line t
      ≡ word (cond value (codes "true") (codes "false"))
      → OnRead (IsPrimary (without_line t ∷ bare list)) (Some (tree.Truth value, list))
  truth_sound t list value e = on_some (IsPrimary (without_line t ∷ bare list)) (tree.Truth value) list
      (is_read primary_level (suc n) (without_line t ∷ bare list) list (Expr-F.Truth value) (tree.Truth value)
      (tree.rolls-Truth value) (ap (λ w. w ∷ bare list) e) refl (omega arith) (omega arith))

  word_sound : (t : PlainToken) (list : List PlainToken) → OnRead (IsPrimary (without_line t ∷ bare list)) (word_expression inner t list)
  unfolding word_expression
  word_sound t list = sound_either (IsPrimary (without_line t ∷ bare list)) (is_word (codes "true") t) _ _
      (λ e. truth_sound t list true (is_word-true (codes "true") t e))
      (λ no. sound_either (IsPrimary (without_line t ∷ bare list)) (is_word (codes "false") t) _ _
      (λ e. truth_sound t list false (is_word-true (codes "false") t e))
      (λ not. constructed_sound t list (basic_of t) refl))

  bracketed_sound : (list : List PlainToken) → OnRead (IsPrimary (mark (codes "(") ∷ bare list)) (bracketed inner list)
  unfolding bracketed
  bracketed_sound list =
      sound_after (IsRead any_level n (bare list)) (IsPrimary (mark (codes "(") ∷ bare list)) (inner any_level list) _
      (sound any_level list (omega arith)) (λ e mid r.
      sound_past (IsPrimary (mark (codes "(") ∷ bare list)) (after_mark (codes ")") mid) _ (λ rest f.
      on_some (IsPrimary (mark (codes "(") ∷ bare list)) (tree.Bracket e) rest
      (is_read primary_level (suc n) (mark (codes "(") ∷ bare list) rest (Expr-F.Bracket e) (tree.Bracket e) (tree.rolls-Bracket e)
      (ap (λ w. mark (codes "(") ∷ w) (closed_by (bare list) (expression_tokens e) (bare mid) (bare rest) (mark (codes ")"))
      r.spelled (mark_read (codes ")") mid rest f)))
      (stands_is any_level (grade e) r.fits r.level)
      (omega arith)
      (omega (arith, r.high)))))

  primary_of_sound : (c : Class) (t : PlainToken) (list : List PlainToken) → t.class ≡ c
      → OnRead (IsPrimary (without_line t ∷ bare list)) (primary_of inner c t list)
  primary_of_sound Identifier t list e = sound_chosen (IsPrimary (without_line t ∷ bare list)) (is_name t) (named inner t.text list) (λ f.
      on_list primary_level (suc n) (without_line t ∷ bare list) (name t.text ∷ bare list) (named inner t.text list)
      (ap (λ w. w ∷ bare list) (is_name-true t f)) (named_sound t.text list (is_name-free t f)))
  primary_of_sound Keyword t list e = word_sound t list
  primary_of_sound Int t list e = on_some (IsPrimary (without_line t ∷ bare list)) (tree.Int t.text) list
      (is_read primary_level (suc n) (without_line t ∷ bare list) list (Expr-F.Int t.text) (tree.Int t.text) (tree.rolls-Int t.text)
      (ap (λ w. w ∷ bare list) (token_is t Int t.text e refl)) refl (omega arith) (omega arith))
  primary_of_sound Float t list e = on_some (IsPrimary (without_line t ∷ bare list)) (tree.Float t.text) list
      (is_read primary_level (suc n) (without_line t ∷ bare list) list (Expr-F.Float t.text) (tree.Float t.text)
      (tree.rolls-Float t.text) (ap (λ w. w ∷ bare list) (token_is t Float t.text e refl)) refl (omega arith) (omega arith))
  primary_of_sound Punct t list e = sound_chosen (IsPrimary (without_line t ∷ bare list)) (is_mark (codes "(") t)
      (bracketed inner list) (λ f.
      on_list primary_level (suc n) (without_line t ∷ bare list) (mark (codes "(") ∷ bare list) (bracketed inner list)
      (ap (λ w. w ∷ bare list) (is_mark-true (codes "(") t f)) (bracketed_sound list))
  primary_of_sound Hash t list e = on_none (IsPrimary (without_line t ∷ bare list))
  primary_of_sound NewLine t list e = on_none (IsPrimary (without_line t ∷ bare list))
  primary_of_sound Params t list e = on_none (IsPrimary (without_line t ∷ bare list))

  primary_sound : (list : List PlainToken) → OnRead (IsPrimary (bare list)) (primary inner list)
  unfolding primary
  primary_sound [] = on_none (IsPrimary [])
  primary_sound (t ∷ list) = primary_of_sound t.class t list refl

  abbrev IsPostfix : List PlainToken → Expr → List PlainToken → Type 0
  IsPostfix all e rest = IsRead postfix_level (suc n) all e rest

  -- the operator that was found after an expression
  after_base : (least : ℕ) (all : List PlainToken) (base : Expr) (t m : PlainToken) (list : List PlainToken)
      → IsRead least (suc n) all base (t ∷ list) → without_line t ≡ m
      → all ≡ expression_tokens base ++ (m ∷ bare list)
  after_base least all base t m list r e = r.spelled ∙ ap (λ w. expression_tokens base ++ (w ∷ bare list)) e

  suffixed_by_sound : (all : List PlainToken) (base : Expr) (s : Suffix) (t : PlainToken) (list : List PlainToken)
      → IsPostfix all base (t ∷ list) → without_line t ≡ mark (suffix_text s)
      → expression_height base ≤ n → OnRead (IsPostfix all) (suffixed_by inner base s list)
  suffixed_by_sound all base suffix.Index t list r e high =
      sound_after (IsRead any_level n (bare list)) (IsPostfix all) (inner any_level list) _ (sound any_level list (omega arith))
      (λ index mid i.
      sound_past (IsPostfix all) (after_mark (codes "]") mid) _ (λ rest f.
      on_some (IsPostfix all) (tree.Index base index) rest
      (is_read postfix_level (suc n) all rest (Expr-F.Index base index) (tree.Index base index) (tree.rolls-Index base index)
      (after_base postfix_level all base t (mark (codes "[")) list r e
      ∙ ap (λ w. expression_tokens base ++ (mark (codes "[") ∷ w))
      (closed_by (bare list) (expression_tokens index) (bare mid) (bare rest) (mark (codes "]")) i.spelled
      (mark_read (codes "]") mid rest f))
      ∙ sym (append_assoc (expression_tokens base) (mark (codes "[") ∷ (expression_tokens index ++ mark (codes "]") ∷ []))
      (bare rest)))
      (and_from _ _ (stands_is postfix_level (grade base) r.fits r.level) (stands_is any_level (grade index) i.fits i.level))
      (omega arith)
      (omega (arith, high, i.high)))))
  suffixed_by_sound all base suffix.Field t list r e high =
      sound_made (IsPostfix all) (tree.Field base) (name_at list) (record {
        given = λ field rest f.
            let k = name_read list field rest f in
            is_read postfix_level (suc n) all rest (Expr-F.Field base field) (tree.Field base field) (tree.rolls-Field base field)
            (after_base postfix_level all base t (mark (codes ".")) list r e
            ∙ ap (λ w. expression_tokens base ++ (mark (codes ".") ∷ w)) k.spelled
            ∙ sym (append_assoc (expression_tokens base) (mark (codes ".") ∷ name field ∷ []) (bare rest)))
            (and_from _ _ (stands_is postfix_level (grade base) r.fits r.level) k.free)
            (omega arith)
            (omega (arith, high));
      })
  suffixed_by_sound all base (suffix.Step operator) t list r e high =
      on_some (IsPostfix all) (tree.Postfix base operator) list
      (is_read postfix_level (suc n) all list (Expr-F.Postfix base operator) (tree.Postfix base operator)
      (tree.rolls-Postfix base operator)
      (after_base postfix_level all base t (mark (suffix_text (suffix.Step operator))) list r e
      ∙ sym (append_assoc (expression_tokens base) (mark (suffix_text (suffix.Step operator)) ∷ []) (bare list)))
      (stands_is postfix_level (grade base) r.fits r.level)
      (omega arith)
      (omega (arith, high)))

  suffixed_sound : (all : List PlainToken) (base : Expr) (mid : List PlainToken) → IsPostfix all base mid
      → OnGo (IsPostfix all) (more_suffixed n inner base mid)
  unfolding more_suffixed suffixed
  suffixed_sound all base [] r = sound_stop (IsPostfix all)
  suffixed_sound all base (t ∷ list) r = sound_turn (IsPostfix all) (suffix_of t) _ (λ s e.
      sound_chosen (IsPostfix all) (fits_below n base) (suffixed_by inner base s list) (λ below.
      suffixed_by_sound all base s t list r (suffix_found t s e) (leb-true (expression_height base) n below)))

  postfixed_sound : (list : List PlainToken) → OnRead (IsPostfix (bare list)) (postfixed n inner list)
  unfolding postfixed
  postfixed_sound list = sound_after (IsPrimary (bare list)) (IsPostfix (bare list)) (primary inner list) _ (primary_sound list)
      (λ e mid r.
      sound_looped (more_suffixed n inner) (IsPostfix (bare list)) (suffixed_sound (bare list)) e mid
      (lower postfix_level primary_level (suc n) (bare list) mid e (omega arith) r))

  operand_sound : (list : List PlainToken) → OnRead (IsRead prefix_level (suc n) (bare list)) (operand n inner list)
  unfolding operand
  operand_sound list = sound_found (IsRead prefix_level (suc n) (bare list)) (prefix_at list) _ _ (λ operator e. prefixed list operator e)
      (λ none. record {
        given = λ e rest f. lower prefix_level postfix_level (suc n) (bare list) rest e (omega arith)
            ((postfixed_sound list).given e rest f);
      })
    where
      prefixed : (list : List PlainToken) (operator : PrefixOperator) → prefix_at list ≡ Some operator
          → OnRead (IsRead prefix_level (suc n) (bare list)) (made (tree.Prefix operator) (inner prefix_level (after_first list)))
      prefixed [] operator e = absurd cc
      prefixed (t ∷ list) operator e = sound_made (IsRead prefix_level (suc n) (bare (t ∷ list))) (tree.Prefix operator)
          (inner prefix_level list) (record {
            given = λ e' rest f.
                let r = (sound prefix_level list (omega arith)).given e' rest f in
                is_read prefix_level (suc n) (bare (t ∷ list)) rest (Expr-F.Prefix operator e') (tree.Prefix operator e')
                (tree.rolls-Prefix operator e')
                (ap (λ w. w ∷ bare list) (prefix_found t operator e) ∙ ap (λ w. mark (prefix_text operator) ∷ w) r.spelled)
                (stands_is prefix_level (grade e') r.fits r.level)
                (omega arith)
                (omega (arith, r.high));
          })

  joined_by_sound : (least : ℕ) (all : List PlainToken) (left : Expr) (o : Infix) (t : PlainToken) (list : List PlainToken)
      → IsRead least (suc n) all left (t ∷ list) → without_line t ≡ mark (infix_text o)
      → least ≤ infix_level o → level_before o ≤ (grade left).level → expression_height left ≤ n
      → OnRead (IsRead least (suc n) all) (joined_by inner left o list)
  unfolding branches
  joined_by_sound least all left (join.Binary operator) t list r e asked before high =
      sound_made (IsRead least (suc n) all) (tree.Binary operator left) (inner (binary_level operator + 1) list)
      (record {
        given = λ right rest f.
            let s = (sound (binary_level operator + 1) list (binary_low operator)).given right rest f in
            is_read least (suc n) all rest (Expr-F.Binary operator left right) (tree.Binary operator left right)
            (tree.rolls-Binary operator left right)
            (after_base least all left t (mark (binary_text operator)) list r e
            ∙ ap (λ w. expression_tokens left ++ (mark (binary_text operator) ∷ w)) s.spelled
            ∙ sym (append_assoc (expression_tokens left) (mark (binary_text operator) ∷ expression_tokens right) (bare rest)))
            (and_from _ _ (stands_is (binary_level operator) (grade left) r.fits before)
            (stands_is (binary_level operator + 1) (grade right) s.fits s.level))
            asked
            (omega (arith, high, s.high));
      })
  joined_by_sound least all left join.Conditional t list r e asked before high = branches_sound
    where
      branches_sound : OnRead (IsRead least (suc n) all) (branches inner left list)
      branches_sound = sound_after (IsRead any_level n (bare list)) (IsRead least (suc n) all) (inner any_level list) _
          (sound any_level list (omega arith)) (λ if_true mid a.
          sound_past (IsRead least (suc n) all) (after_mark (codes ":") mid) _ (λ next f.
          sound_made (IsRead least (suc n) all) (tree.Conditional left if_true) (inner assignment_level next)
          (record {
            given = λ if_false rest g.
                let b = (sound assignment_level next (omega arith)).given if_false rest g in
                is_read least (suc n) all rest (Expr-F.Conditional left if_true if_false) (tree.Conditional left if_true if_false)
                (tree.rolls-Conditional left if_true if_false)
                (after_base least all left t (mark (codes "?")) list r e
                ∙ ap (λ w. expression_tokens left ++ (mark (codes "?") ∷ w)) (a.spelled
                ∙ ap (λ w. expression_tokens if_true ++ w) (mark_read (codes ":") mid next f
                ∙ ap (λ w. mark (codes ":") ∷ w) b.spelled))
                ∙ ap (λ w. expression_tokens left ++ (mark (codes "?") ∷ w))
                (sym (append_assoc (expression_tokens if_true) (mark (codes ":") ∷ expression_tokens if_false) (bare rest)))
                ∙ sym (append_assoc (expression_tokens left)
                (mark (codes "?") ∷ (expression_tokens if_true ++ (mark (codes ":") ∷ expression_tokens if_false)))
                (bare rest)))
                (and_from _ _ (stands_is or_level (grade left) r.fits before)
                (and_from _ _ (stands_is any_level (grade if_true) a.fits a.level)
                (stands_is assignment_level (grade if_false) b.fits b.level)))
                asked
                (omega (arith, high, a.high, b.high));
          })))
  joined_by_sound least all left (join.Assign operator) t list r e asked before high =
      sound_made (IsRead least (suc n) all) (tree.Assign operator left) (inner assignment_level list) (record {
        given = λ value rest f.
            let s = (sound assignment_level list (omega arith)).given value rest f in
            is_read least (suc n) all rest (Expr-F.Assign operator left value) (tree.Assign operator left value)
            (tree.rolls-Assign operator left value)
            (after_base least all left t (mark (infix_text (join.Assign operator))) list r e
            ∙ ap (λ w. expression_tokens left ++ (mark (infix_text (join.Assign operator)) ∷ w)) s.spelled
            ∙ sym (append_assoc (expression_tokens left) (mark (infix_text (join.Assign operator)) ∷ expression_tokens value)
            (bare rest)))
            (and_from _ _ (stands_is prefix_level (grade left) r.fits before) (stands_is assignment_level (grade value) s.fits s.level))
            asked
            (omega (arith, high, s.high));
      })

  -- an operator that is taken
  record IsTaken (least level : ℕ) (o : Option Infix) (a : Infix) : Type 0 where
    is : o ≡ Some a
    asked : least ≤ infix_level a
    before : level_before a ≤ level

  is_taken : (least level : ℕ) (o : Option Infix) (a : Infix) → taken least level o ≡ Some a → IsTaken least level o a
  is_taken least level None a e = absurd cc
  is_taken least level (Some b) a e = go (leb least (infix_level b)) refl (leb (level_before b) level) refl e
    where
      go : (p : Bool) → leb least (infix_level b) ≡ p → (q : Bool) → leb (level_before b) level ≡ q → cond (p && q) (Some b) None
          ≡ Some a → IsTaken least level (Some b) a
      go true f true g e =
          let same : b ≡ a = cc in
          record {
            is = e;
            asked = subst (λ x. least ≤ infix_level x) same (leb-true least (infix_level b) f);
            before = subst (λ x. level_before x ≤ level) same (leb-true (level_before b) level g);
          }
      go true f false g e = absurd cc
      go false f q g e = absurd cc

  joined_sound : (least : ℕ) (all : List PlainToken) (left : Expr) (mid : List PlainToken) → IsRead least (suc n) all left mid
      → OnGo (IsRead least (suc n) all) (more_joined n inner least left mid)
  unfolding more_joined joined infix_at
  joined_sound least all left [] r = sound_stop (IsRead least (suc n) all)
  joined_sound least all left (t ∷ list) r = sound_turn (IsRead least (suc n) all) (taken least (grade left).level (infix_of t)) _ (λ o e.
      let k = is_taken least (grade left).level (infix_of t) o e in
      sound_chosen (IsRead least (suc n) all) (fits_below n left) (joined_by inner left o list) (λ below.
      joined_by_sound least all left o t list r (infix_found t o k.is) k.asked k.before (leb-true (expression_height left) n below)))

  pub climbed_sound : IsSound (suc n) (climbed n inner)
  unfolding climbed
  climbed_sound least list low = sound_after (IsRead prefix_level (suc n) (bare list)) (IsRead least (suc n) (bare list))
      (operand n inner list) _ (operand_sound list) (λ e mid r.
      sound_looped (more_joined n inner least) (IsRead least (suc n) (bare list)) (joined_sound least (bare list)) e mid
      (lower least prefix_level (suc n) (bare list) mid e low r))

-- what is read as an expression is one
pub expression_sound : (n : ℕ) → IsSound n (expression n)
unfolding expression
expression_sound zero least list low = on_none (IsRead least zero (bare list))
expression_sound (suc n) least list low = climbed_sound n (expression n) (expression_sound n) least list low
