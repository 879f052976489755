-- More levels of nesting: what they change in the expression of an `#if`.
use Rattle.std.proofs.Common.{◌≤◌, ◌+◌, ℕ, ℤ, zero, suc, Bool, true, false, cond, List, [], ◌∷◌, Option, Some, None, codes, refl, sym, ap, subst, arith}
use Rattle.glsl_tree.specs.Token.{PlainToken}
use Rattle.glsl_preproc.specs.Macros.{MacroMap, is_text}
use Rattle.glsl_preproc.specs.Replacement.{Outcome, End, Whole, Failed, Deeper, ended, opens, expanded}
use Rattle.glsl_preproc.specs.Values.{applied, operator_of, negated, complemented, inverted}
use Rattle.glsl_preproc.specs.Conditions.{Parsed, Read, Wrong, TooDeep, in_brackets, behind_sign, same_value, primary_of, operand_at, at_level, chain_from, chain_behind, expression_at, operand_within, Judged, Yes, No, Fails, Unknown, judged, judged_outcome, judged_answered, answered_from, condition}
use Rattle.glsl_preproc.specs.Levels.{ExtendsAt, ExtendsParsed, ExtendsJudged}
use Rattle.glsl_preproc.specs.declared.operators.Operator.{Operator}
use Rattle.glsl_preproc.proofs.Expressions.{Reads, chained, chain_step, step_is}
use Rattle.glsl_preproc.proofs.MoreLevels.{expanded_grows}

parsed_self : (p : Parsed) → ExtendsParsed p p
parsed_self (Read v n) = refl
parsed_self Wrong = refl
parsed_self TooDeep = tt

pub judged_self : (j : Judged) → ExtendsJudged j j
judged_self Yes = refl
judged_self No = refl
judged_self Fails = refl
judged_self Unknown = tt

-- One way of reading extends another, which knows fewer levels.
abbrev pub ReadsMore : Reads → Reads → Type 0
ReadsMore less more = (list : List PlainToken) → ExtendsParsed (less list) (more list)

brackets_grow : (rest : List PlainToken) (p q : Parsed) → ExtendsParsed p q → ExtendsParsed (in_brackets rest p) (in_brackets rest q)
brackets_grow rest (Read v n) q h = let P : Parsed → Type 0 = λ x. ExtendsParsed (in_brackets rest (Read v n)) (in_brackets rest x) in subst P (sym h) (parsed_self (in_brackets rest (Read v n)))
brackets_grow rest Wrong q h = ap (in_brackets rest) h
brackets_grow rest TooDeep q h = tt

sign_grows : (f : Option ℤ → Option ℤ) (p q : Parsed) → ExtendsParsed p q → ExtendsParsed (behind_sign f p) (behind_sign f q)
sign_grows f (Read v n) q h = ap (behind_sign f) h
sign_grows f Wrong q h = ap (behind_sign f) h
sign_grows f TooDeep q h = tt

operand_grows : (less_inner more_inner less more : Reads) → ReadsMore less_inner more_inner → ReadsMore less more → ReadsMore (operand_at less_inner less) (operand_at more_inner more)
unfolding operand_at
operand_grows less_inner more_inner less more inner operand [] = refl
operand_grows less_inner more_inner less more inner operand (t ∷ rest) = by_tests (opens t) (is_text (codes "+") t) (is_text (codes "-") t) (is_text (codes "~") t) (is_text (codes "!") t)
  where
    signed : Reads → Bool → Bool → Bool → Bool → Parsed
    signed read plus minus complement inversion =
        cond plus (behind_sign same_value (read rest)) (cond minus (behind_sign negated (read rest)) (cond complement (behind_sign complemented (read rest)) (cond inversion (behind_sign inverted (read rest)) (primary_of t.class t.text))))

    by_tests : (bracket plus minus complement inversion : Bool) → ExtendsParsed (cond bracket (in_brackets rest (less_inner rest)) (signed less plus minus complement inversion)) (cond bracket (in_brackets rest (more_inner rest)) (signed more plus minus complement inversion))
    by_tests true b c d e = brackets_grow rest (less_inner rest) (more_inner rest) (inner rest)
    by_tests false true c d e = sign_grows same_value (less rest) (more rest) (operand rest)
    by_tests false false true d e = sign_grows negated (less rest) (more rest) (operand rest)
    by_tests false false false true e = sign_grows complemented (less rest) (more rest) (operand rest)
    by_tests false false false false true = sign_grows inverted (less rest) (more rest) (operand rest)
    by_tests false false false false false = parsed_self (primary_of t.class t.text)

chain_grows : (less more : Reads) (level : ℕ) → ReadsMore less more → (list : List PlainToken) (v : Option ℤ) (count k : ℕ) → ExtendsParsed (chain_from less level v count k list) (chain_from more level v count k list)
unfolding chain_from
chain_grows less more level h [] v count k = refl
chain_grows less more level h (t ∷ rest) v count (suc k) = chain_grows less more level h rest v count k
chain_grows less more level h (t ∷ rest) v count zero =
    let P : Parsed → Type 0 = λ p. ExtendsParsed p (chain_from more level v count 0 (t ∷ rest)) in
    let Q : Parsed → Type 0 = λ p. ExtendsParsed (chain_step less level v count rest (at_level level (operator_of t.text))) p in
    subst P (sym (step_is less level v count t rest)) (subst Q (sym (step_is more level v count t rest)) (by_operator (λ w c n. chain_grows less more level h rest w c n) (at_level level (operator_of t.text))))
  where
    Goes : Type 0
    Goes = (w : Option ℤ) (c n : ℕ) → ExtendsParsed (chain_from less level w c n rest) (chain_from more level w c n rest)

    by_operand : Goes → (op : Operator) (p q : Parsed) → ExtendsParsed p q → ExtendsParsed (chained less level v count rest op p) (chained more level v count rest op q)
    by_operand goes op (Read w n) q g = let P : Parsed → Type 0 = λ x. ExtendsParsed (chained less level v count rest op (Read w n)) (chained more level v count rest op x) in subst P (sym g) (goes (applied op v w) (count + 1 + n) n)
    by_operand goes op Wrong q g = ap (chained more level v count rest op) g
    by_operand goes op TooDeep q g = tt

    by_operator : Goes → (o : Option Operator) → ExtendsParsed (chain_step less level v count rest o) (chain_step more level v count rest o)
    by_operator goes None = refl
    by_operator goes (Some op) = by_operand goes op (less rest) (more rest) (h rest)

expression_grows : (less more : Reads) → ReadsMore less more → (level : ℕ) → ReadsMore (expression_at less level) (expression_at more level)
unfolding expression_at
expression_grows less more h zero list = h list
expression_grows less more h (suc level) list = by_parsed (expression_grows less more h level) (expression_at less level list) (expression_at more level list) (expression_grows less more h level list)
  where
    by_parsed : ReadsMore (expression_at less level) (expression_at more level) → (p q : Parsed) → ExtendsParsed p q → ExtendsParsed (chain_behind (expression_at less level) (suc level) list p) (chain_behind (expression_at more level) (suc level) list q)
    by_parsed goes (Read v n) q g =
        let P : Parsed → Type 0 = λ x. ExtendsParsed (chain_behind (expression_at less level) (suc level) list (Read v n)) (chain_behind (expression_at more level) (suc level) list x) in
        subst P (sym g) (chain_grows (expression_at less level) (expression_at more level) (suc level) goes list v n n)
    by_parsed goes Wrong q g = ap (chain_behind (expression_at more level) (suc level) list) g
    by_parsed goes TooDeep q g = tt

operand_within_grows : (n m : ℕ) → n ≤ m → ReadsMore (operand_within n) (operand_within m)
unfolding operand_within
operand_within_grows zero m h list = tt
operand_within_grows (suc n) zero h list = absurd (omega arith)
operand_within_grows (suc n) (suc m) h list =
    let more : ReadsMore (operand_within n) (operand_within m) = operand_within_grows n m (omega arith) in
    operand_grows (expression_at (operand_within n) 10) (expression_at (operand_within m) 10) (operand_within n) (operand_within m) (expression_grows (operand_within n) (operand_within m) more 10) more list

judged_grows : (list : List PlainToken) (p q : Parsed) → ExtendsParsed p q → ExtendsJudged (judged list p) (judged list q)
judged_grows list (Read v n) q h = let P : Parsed → Type 0 = λ x. ExtendsJudged (judged list (Read v n)) (judged list x) in subst P (sym h) (judged_self (judged list (Read v n)))
judged_grows list Wrong q h = ap (judged list) h
judged_grows list TooDeep q h = tt

outcome_grows : (n m : ℕ) → n ≤ m → (tokens : List PlainToken) (e : End) (o : Outcome) → ExtendsAt e (ended tokens e) o → ExtendsJudged (judged_outcome n (ended tokens e)) (judged_outcome m o)
outcome_grows n m h tokens Whole o g =
    let P : Outcome → Type 0 = λ x. ExtendsJudged (judged_outcome n (ended tokens Whole)) (judged_outcome m x) in
    subst P (sym g) (judged_grows tokens (expression_at (operand_within n) 10 tokens) (expression_at (operand_within m) 10 tokens) (expression_grows (operand_within n) (operand_within m) (operand_within_grows n m h) 10 tokens))
outcome_grows n m h tokens (Failed line) o g = ap (judged_outcome m) g
outcome_grows n m h tokens Deeper o g = tt

-- a condition that is judged is judged so with more levels
pub condition_grows : (n m : ℕ) (macros : MacroMap) (list : List PlainToken) → n ≤ m → ExtendsJudged (condition n macros list) (condition m macros list)
unfolding condition
condition_grows n m macros list h = by_answered (answered_from macros [] 0 list)
  where
    by_answered : (o : Option (List PlainToken)) → ExtendsJudged (judged_answered n macros o) (judged_answered m macros o)
    by_answered None = refl
    by_answered (Some answered) = let o = expanded n macros [] [] answered in outcome_grows n m h o.tokens o.end (expanded m macros [] [] answered) (expanded_grows n m macros h [] [] answered)
