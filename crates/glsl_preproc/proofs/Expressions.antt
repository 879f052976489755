-- Expressions, one operand at a time.
use Rattle.std.proofs.Common.{◌≡◌, ◌<◌, ◌+◌, ℕ, ℤ, zero, suc, Bool, true, false, cond, List, [], ◌∷◌, length, drop, get_or, Option, Some, None, refl, sym, ap, ◌∙◌, arith, codes}
use Rattle.std.proofs.lemmas.List.{drop-map}
use Rattle.glsl_tree.specs.Token.{PlainToken, plain, plain_tokens}
use Rattle.glsl_tree.specs.declared.token.Token.{Token}
use Rattle.glsl_preproc.specs.Macros.{is_text}
use Rattle.glsl_preproc.specs.Replacement.{opens}
use Rattle.glsl_preproc.specs.Values.{applied, operator_of, negated, complemented, inverted}
use Rattle.glsl_preproc.specs.Conditions.{Parsed, Read, Wrong, TooDeep, in_brackets, behind_sign, same_value, primary_of, operand_at, at_level, chain_from, chain_behind, expression_at, operand_within}
use Rattle.glsl_preproc.specs.ConditionViews.{signed, sign_of}
use Rattle.glsl_preproc.specs.declared.conditions.Sign.{Sign}
use Rattle.glsl_preproc.specs.declared.conditions.Sign.TheVariants.{Plus, Minus, Complement, Not}
use Rattle.glsl_preproc.specs.declared.operators.Operator.{Operator}
use Rattle.glsl_preproc.proofs.Items.{at_first, at_none}

abbrev pub Reads : Type 0
Reads = List PlainToken → Parsed

pub expression_zero : (operand : Reads) (level : ℕ) (list : List PlainToken) → level ≡ 0 → expression_at operand level list ≡ operand list
unfolding expression_at
expression_zero operand zero list e = refl
expression_zero operand (suc level) list e = absurd (omega arith)

pub expression_more : (operand : Reads) (below level : ℕ) (list : List PlainToken) → below + 1 ≡ level → expression_at operand level list ≡ chain_behind (expression_at operand below) level list (expression_at operand below list)
unfolding expression_at
expression_more operand below zero list e = absurd (omega arith)
expression_more operand below (suc level) list e = let same : level ≡ below = omega arith in ap (λ l. chain_behind (expression_at operand l) (suc level) list (expression_at operand l list)) same

skipped : (operand : Reads) (level : ℕ) (v : Option ℤ) (count k : ℕ) (list : List PlainToken) → chain_from operand level v count k list ≡ chain_from operand level v count 0 (drop k list)
unfolding chain_from
skipped operand level v count zero list = refl
skipped operand level v count (suc k) [] = refl
skipped operand level v count (suc k) (t ∷ list) = skipped operand level v count k list

pub chain_skip : (operand : Reads) (level : ℕ) (v : Option ℤ) (count k : ℕ) (rest : List Token) → chain_from operand level v count k (plain_tokens rest) ≡ chain_from operand level v count 0 (plain_tokens (drop k rest))
chain_skip operand level v count k rest = skipped operand level v count k (plain_tokens rest) ∙ ap (chain_from operand level v count 0) (drop-map plain k rest)

abbrev pub chained : Reads → ℕ → Option ℤ → ℕ → List PlainToken → Operator → Parsed → Parsed
chained operand level v count rest op (Read w n) = chain_from operand level (applied op v w) (count + 1 + n) n rest
chained operand level v count rest op Wrong = Wrong
chained operand level v count rest op TooDeep = TooDeep

abbrev pub chain_step : Reads → ℕ → Option ℤ → ℕ → List PlainToken → Option Operator → Parsed
chain_step operand level v count rest None = Read v count
chain_step operand level v count rest (Some op) = chained operand level v count rest op (operand rest)

pub step_is : (operand : Reads) (level : ℕ) (v : Option ℤ) (count : ℕ) (t : PlainToken) (rest : List PlainToken) → chain_from operand level v count 0 (t ∷ rest) ≡ chain_step operand level v count rest (at_level level (operator_of t.text))
unfolding chain_from
step_is operand level v count t rest = by_operator (at_level level (operator_of t.text))
  where
    by_operand : (op : Operator) (p : Parsed) → elim p [
      | Read w n ↦ chain_from operand level (applied op v w) (count + 1 + n) n rest
      | Wrong ↦ Wrong
      | TooDeep ↦ TooDeep
    ] ≡ chained operand level v count rest op p
    by_operand op (Read w n) = refl
    by_operand op Wrong = refl
    by_operand op TooDeep = refl

    by_operator : (o : Option Operator) → elim o [
      | None ↦ Read v count
      | Some op ↦ elim (operand rest) [
        | Read w n ↦ chain_from operand level (applied op v w) (count + 1 + n) n rest
        | Wrong ↦ Wrong
        | TooDeep ↦ TooDeep
      ]
    ] ≡ chain_step operand level v count rest o
    by_operator None = refl
    by_operator (Some op) = by_operand op (operand rest)

pub chain_at : (operand : Reads) (level : ℕ) (v : Option ℤ) (count : ℕ) (rest : List Token) (x : Token) (o : Option Operator) → 0 < length rest → x ≡ get_or rest 0 x → o ≡ at_level level (operator_of x.text.items)
    → chain_from operand level v count 0 (plain_tokens rest) ≡ chain_step operand level v count (plain_tokens (drop 1 rest)) o
chain_at operand level v count rest x o h e found = at_first (λ l. chain_from operand level v count 0 (plain_tokens l)) rest x h e ∙ step_is operand level v count (plain x) (plain_tokens (drop 1 rest)) ∙ ap (chain_step operand level v count (plain_tokens (drop 1 rest))) (sym found)

pub chain_end : (operand : Reads) (level : ℕ) (v : Option ℤ) (count : ℕ) (rest : List Token) → length rest ≡ 0 → chain_from operand level v count 0 (plain_tokens rest) ≡ Read v count
unfolding chain_from
chain_end operand level v count rest h = at_none (λ l. chain_from operand level v count 0 (plain_tokens l)) rest h

-- Operands.
pub operand_zero : (n : ℕ) (list : List PlainToken) → n ≡ 0 → operand_within n list ≡ TooDeep
unfolding operand_within
operand_zero zero list e = refl
operand_zero (suc n) list e = absurd (omega arith)

pub operand_more : (n m : ℕ) (list : List PlainToken) → n + 1 ≡ m → operand_within m list ≡ operand_at (expression_at (operand_within n) 10) (operand_within n) list
unfolding operand_within
operand_more n zero list e = absurd (omega arith)
operand_more n (suc m) list e = let same : m ≡ n = omega arith in ap (λ k. operand_at (expression_at (operand_within k) 10) (operand_within k) list) same

abbrev pub by_sign : Reads → PlainToken → List PlainToken → Option Sign → Parsed
by_sign operand t rest (Some sign) = behind_sign (signed sign) (operand rest)
by_sign operand t rest None = primary_of t.class t.text

signs : (operand : Reads) (t : PlainToken) (rest : List PlainToken) (a b c d : Bool) →
    cond a (behind_sign same_value (operand rest)) (cond b (behind_sign negated (operand rest)) (cond c (behind_sign complemented (operand rest)) (cond d (behind_sign inverted (operand rest)) (primary_of t.class t.text))))
    ≡ by_sign operand t rest (cond a (Some Plus) (cond b (Some Minus) (cond c (Some Complement) (cond d (Some Not) None))))
signs operand t rest true b c d = refl
signs operand t rest false true c d = refl
signs operand t rest false false true d = refl
signs operand t rest false false false true = refl
signs operand t rest false false false false = refl

abbrev pub operand_step : Reads → Reads → PlainToken → List PlainToken → Bool → Option Sign → Parsed
operand_step inner operand t rest bracket sign = cond bracket (in_brackets rest (inner rest)) (by_sign operand t rest sign)

operand_is : (inner operand : Reads) (t : PlainToken) (rest : List PlainToken) → operand_at inner operand (t ∷ rest) ≡ operand_step inner operand t rest (opens t) (sign_of t)
unfolding operand_at
operand_is inner operand t rest = ap (cond (opens t) (in_brackets rest (inner rest))) (signs operand t rest (is_text (codes "+") t) (is_text (codes "-") t) (is_text (codes "~") t) (is_text (codes "!") t))

pub operand_first : (n m : ℕ) (list : List Token) (x : Token) (bracket : Bool) (sign : Option Sign) → n + 1 ≡ m → 0 < length list → x ≡ get_or list 0 x → opens (plain x) ≡ bracket → (bracket ≡ false → sign ≡ sign_of (plain x))
    → operand_within m (plain_tokens list) ≡ operand_step (expression_at (operand_within n) 10) (operand_within n) (plain x) (plain_tokens (drop 1 list)) bracket sign
operand_first n m list x bracket sign e h d o s = operand_more n m (plain_tokens list) e
    ∙ at_first (λ l. operand_at (expression_at (operand_within n) 10) (operand_within n) (plain_tokens l)) list x h d
    ∙ operand_is (expression_at (operand_within n) 10) (operand_within n) (plain x) (plain_tokens (drop 1 list))
    ∙ ap (λ b. operand_step (expression_at (operand_within n) 10) (operand_within n) (plain x) (plain_tokens (drop 1 list)) b (sign_of (plain x))) o
    ∙ chosen bracket s
  where
    chosen : (b : Bool) → (b ≡ false → sign ≡ sign_of (plain x)) → operand_step (expression_at (operand_within n) 10) (operand_within n) (plain x) (plain_tokens (drop 1 list)) b (sign_of (plain x)) ≡ operand_step (expression_at (operand_within n) 10) (operand_within n) (plain x) (plain_tokens (drop 1 list)) b sign
    chosen true f = refl
    chosen false f = ap (by_sign (operand_within n) (plain x) (plain_tokens (drop 1 list))) (sym (f refl))

pub operand_none : (n m : ℕ) (list : List Token) → n + 1 ≡ m → length list ≡ 0 → operand_within m (plain_tokens list) ≡ Wrong
unfolding operand_at
operand_none n m list e h = operand_more n m (plain_tokens list) e ∙ at_none (λ l. operand_at (expression_at (operand_within n) 10) (operand_within n) (plain_tokens l)) list h
