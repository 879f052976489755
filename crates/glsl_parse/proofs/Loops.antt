-- A loop, one turn at a time.
use Rattle.std.proofs.Common.{◌≡◌, ◌<◌, ℕ, zero, suc, Bool, true, false, cond, ltb, List, [], ◌∷◌, ◌++◌, length, codes, Option, Some, None, refl, sym, ap, ◌∙◌, arith}
use Rattle.std.proofs.lemmas.Bool.{ltb-true, lt-ltb}
use Rattle.std.proofs.lemmas.List.{length-map}
use Rattle.glsl_tree.specs.declared.token.Token.{Token}
use Rattle.glsl_tree.specs.declared.expressions.Expr.{Expr}
use Rattle.glsl_tree.specs.declared.declarations.Member.{Member}
use Rattle.glsl_tree.specs.declared.statements.Stmt.{Stmt}
use Rattle.glsl_tree.specs.declared.statements.Item.{Item}
use Rattle.glsl_tree.specs.Expressions.{grade}
use Rattle.glsl_tree.specs.Token.{PlainToken, plain, plain_tokens}
use Rattle.glsl_parse.specs.Readings.{Reads, Turn, Stop, Go, after, made, turn_on, turns, looped}
use Rattle.glsl_parse.specs.Symbols.{after_mark, begins_with_mark}
use Rattle.glsl_parse.specs.ExpressionReadings.{ReadsLevel, after_first, infix_at, suffix_at, joined, suffixed, more_listed, more_joined, more_suffixed}
use Rattle.glsl_parse.specs.TypeReadings.{more_members}
use Rattle.glsl_parse.specs.StatementReadings.{more_statements, more_items, item_at}
use Rattle.glsl_parse.specs.Answers.{Refuses}
use Rattle.glsl_parse.specs.declared.errors.Parse.{Parse}
use Rattle.glsl_parse.specs.declared.errors.Parse.TheVariants as parse
use Rattle.glsl_parse.specs.declared.symbols.Infix.{Infix}
use Rattle.glsl_parse.specs.declared.symbols.Suffix.{Suffix}

-- what a turn leads to, where this reads on
abbrev pub Onward : Type 0 → Type 0
Onward S = S → List PlainToken → Option (S × List PlainToken)

abbrev pub led : {S : Type 0} → Onward S → List PlainToken → S → Turn S → Option (S × List PlainToken)
led on list s Stop = Some (s, list)
led on list s (Go found) = after found (λ t rest. cond (ltb (length rest) (length list)) (on t rest) None)

turned : {S : Type 0} (turn : S → List PlainToken → Turn S) (k : ℕ) (s : S) (list : List PlainToken) → turns turn (suc k) s list ≡ led (turns turn k) list s (turn s list)
unfolding turns
turned {S = S} turn k s list = by_turn (turn s list)
  where
    by_turn : (t : Turn S) → elim t [
      | Stop ↦ Some (s, list)
      | Go found ↦ after found (λ t rest. cond (ltb (length rest) (length list)) (turns turn k t rest) None)
    ] ≡ led (turns turn k) list s t
    by_turn Stop = refl
    by_turn (Go found) = refl

-- turns that agree on shorter lists lead to the same
same_onward : {S : Type 0} (on to : Onward S) (list : List PlainToken) (s : S) (t : Turn S)
    → ((u : S) (rest : List PlainToken) → length rest < length list → on u rest ≡ to u rest) → led on list s t ≡ led to list s t
same_onward on to list s Stop h = refl
same_onward on to list s (Go None) h = refl
same_onward on to list s (Go (Some found)) h = checked (ltb (length found.1) (length list)) refl
  where
    checked : (b : Bool) → ltb (length found.1) (length list) ≡ b → cond b (on found.0 found.1) None ≡ cond b (to found.0 found.1) None
    checked true e = h found.0 found.1 (ltb-true _ _ e)
    checked false e = refl

-- as many turns as suffice, and more, read the same
same_turns : {S : Type 0} (turn : S → List PlainToken → Turn S) (k m : ℕ) (s : S) (list : List PlainToken) → length list < k → length list < m
    → turns turn k s list ≡ turns turn m s list
same_turns turn zero m s list h g = absurd (omega arith)
same_turns turn (suc k) zero s list h g = absurd (omega arith)
same_turns turn (suc k) (suc m) s list h g = turned turn k s list
    ∙ same_onward (turns turn k) (turns turn m) list s (turn s list) (λ u rest e. same_turns turn k m u rest (omega arith) (omega arith))
    ∙ sym (turned turn m s list)

-- what a loop reads, by its first turn
pub looped_is : {S : Type 0} (turn : S → List PlainToken → Turn S) (s : S) (list : List PlainToken) → looped turn s list ≡ led (looped turn) list s (turn s list)
looped_is turn s list = turned turn (length list) s list
    ∙ same_onward (turns turn (length list)) (looped turn) list s (turn s list) (λ u rest e. same_turns turn (length list) (suc (length rest)) u rest e (omega arith))

pub stops : {S : Type 0} (turn : S → List PlainToken → Turn S) (s : S) (list : List PlainToken) → turn s list ≡ Stop → looped turn s list ≡ Some (s, list)
stops turn s list e = looped_is turn s list ∙ ap (led (looped turn) list s) e

pub fails : {S : Type 0} (turn : S → List PlainToken → Turn S) (s : S) (list : List PlainToken) → turn s list ≡ Go None → looped turn s list ≡ None
fails turn s list e = looped_is turn s list ∙ ap (led (looped turn) list s) e

pub goes_on : {S : Type 0} (turn : S → List PlainToken → Turn S) (s : S) (list : List PlainToken) (t : S) (rest : List PlainToken)
    → turn s list ≡ Go (Some (t, rest)) → length rest < length list → looped turn s list ≡ looped turn t rest
goes_on turn s list t rest e h = looped_is turn s list ∙ ap (led (looped turn) list s) e
    ∙ ap (λ b. cond b (looped turn t rest) None) (lt-ltb _ _ h)

-- The same for lists of tokens as the code has them: after a turn, the loop reads what it read before.
onward : {S : Type 0} (turn : S → List PlainToken → Turn S) (s t : S) (list rest : List Token) (answer : Option (S × List PlainToken))
    → looped turn s (plain_tokens list) ≡ answer → turn s (plain_tokens list) ≡ Go (Some (t, plain_tokens rest)) → length rest < length list
    → looped turn t (plain_tokens rest) ≡ answer
onward turn s t list rest answer here e h =
    let shorter : length (plain_tokens rest) < length (plain_tokens list) = omega (arith, length-map rest plain, length-map list plain) in
    sym (goes_on turn s (plain_tokens list) t (plain_tokens rest) e shorter) ∙ here

-- one more part of a list
pub listed_on : {A : Type 0} (item : Reads A) (done pushed : List A) (a : A) (list more rest : List Token) (answer : Option (List A × List PlainToken))
    → looped (more_listed item) done (plain_tokens list) ≡ answer
    → after_mark (codes ",") (plain_tokens list) ≡ Some (plain_tokens more) → length more < length list
    → item (plain_tokens more) ≡ Some (a, plain_tokens rest) → length rest < length more
    → pushed ≡ done ++ a ∷ []
    → looped (more_listed item) pushed (plain_tokens rest) ≡ answer
unfolding more_listed
listed_on item done pushed a list more rest answer here found h read g p =
    ap (λ s. looped (more_listed item) s (plain_tokens rest)) p
    ∙ onward (more_listed item) done (done ++ a ∷ []) list rest answer here
    (ap (λ o. turn_on o (λ rest. made (λ x. done ++ x ∷ []) (item rest))) found ∙ ap (λ r. Go (made (λ x. done ++ x ∷ []) r)) read)
    (omega arith)

-- one more operator with its operands
pub joined_on : (n : ℕ) (inner : ReadsLevel) (least level : ℕ) (left next : Expr) (operator : Infix) (list rest : List Token) (answer : Option (Expr × List PlainToken))
    → looped (more_joined n inner least) left (plain_tokens list) ≡ answer
    → level ≡ (grade left).level → Some operator ≡ infix_at least level (plain_tokens list)
    → joined n inner left operator (after_first (plain_tokens list)) ≡ Some (next, plain_tokens rest) → length rest < length list
    → looped (more_joined n inner least) next (plain_tokens rest) ≡ answer
unfolding more_joined
joined_on n inner least level left next operator list rest answer here same found read h =
    onward (more_joined n inner least) left next list rest answer here
    (ap (λ o. turn_on o (λ j. joined n inner left j (after_first (plain_tokens list)))) (ap (λ l. infix_at least l (plain_tokens list)) (sym same) ∙ sym found) ∙ ap (λ r. Go r) read)
    h

-- one more index, field or operator
pub suffixed_on : (n : ℕ) (inner : ReadsLevel) (base next : Expr) (s : Suffix) (list rest : List Token) (answer : Option (Expr × List PlainToken))
    → looped (more_suffixed n inner) base (plain_tokens list) ≡ answer
    → Some s ≡ suffix_at (plain_tokens list)
    → suffixed n inner base s (after_first (plain_tokens list)) ≡ Some (next, plain_tokens rest) → length rest < length list
    → looped (more_suffixed n inner) next (plain_tokens rest) ≡ answer
unfolding more_suffixed
suffixed_on n inner base next s list rest answer here found read h =
    onward (more_suffixed n inner) base next list rest answer here
    (ap (λ o. turn_on o (λ j. suffixed n inner base j (after_first (plain_tokens list)))) (sym found) ∙ ap (λ r. Go r) read)
    h

-- one more line of members
pub members_on : (line : Reads Member) (done pushed : List Member) (m : Member) (list rest : List Token) (answer : Option (List Member × List PlainToken))
    → looped (more_members line) done (plain_tokens list) ≡ answer
    → begins_with_mark (codes "}") (plain_tokens list) ≡ false
    → line (plain_tokens list) ≡ Some (m, plain_tokens rest) → length rest < length list
    → pushed ≡ done ++ m ∷ []
    → looped (more_members line) pushed (plain_tokens rest) ≡ answer
unfolding more_members
members_on line done pushed m list rest answer here unclosed read h p =
    ap (λ s. looped (more_members line) s (plain_tokens rest)) p
    ∙ onward (more_members line) done (done ++ m ∷ []) list rest answer here
    (ap (λ b. cond b Stop (Go (made (λ x. done ++ x ∷ []) (line (plain_tokens list))))) unclosed ∙ ap (λ r. Go (made (λ x. done ++ x ∷ []) r)) read)
    h

-- one more statement
pub statements_on : (inner : Reads Stmt) (done pushed : List Stmt) (s : Stmt) (list rest : List Token) (answer : Option (List Stmt × List PlainToken))
    → looped (more_statements inner) done (plain_tokens list) ≡ answer
    → begins_with_mark (codes "}") (plain_tokens list) ≡ false
    → inner (plain_tokens list) ≡ Some (s, plain_tokens rest) → length rest < length list
    → pushed ≡ done ++ s ∷ []
    → looped (more_statements inner) pushed (plain_tokens rest) ≡ answer
unfolding more_statements
statements_on inner done pushed s list rest answer here unclosed read h p =
    ap (λ d. looped (more_statements inner) d (plain_tokens rest)) p
    ∙ onward (more_statements inner) done (done ++ s ∷ []) list rest answer here
    (ap (λ b. cond b Stop (Go (made (λ x. done ++ x ∷ []) (inner (plain_tokens list))))) unclosed ∙ ap (λ r. Go (made (λ x. done ++ x ∷ []) r)) read)
    h

-- one more declaration or function
pub items_on : (n : ℕ) (done pushed : List Item) (i : Item) (list rest : List Token) (answer : Option (List Item × List PlainToken))
    → looped (more_items n) done (plain_tokens list) ≡ answer
    → item_at n (plain_tokens list) ≡ Some (i, plain_tokens rest) → length rest < length list
    → pushed ≡ done ++ i ∷ []
    → looped (more_items n) pushed (plain_tokens rest) ≡ answer
unfolding more_items
items_on n done pushed i [] rest answer here read h p = absurd (omega arith)
items_on n done pushed i (t ∷ list) rest answer here read h p =
    ap (λ d. looped (more_items n) d (plain_tokens rest)) p
    ∙ onward (more_items n) done (done ++ i ∷ []) (t ∷ list) rest answer here (ap (λ r. Go (made (λ x. done ++ x ∷ []) r)) read) h

-- the end of the declarations and functions
pub items_end : (n : ℕ) (done : List Item) (list : List Token) → length list ≡ 0 → looped (more_items n) done (plain_tokens list) ≡ Some (done, [])
unfolding more_items
items_end n done [] e = stops (more_items n) done [] refl
items_end n done (t ∷ list) e = absurd (omega arith)

-- a declaration or function that can't be read
pub items_refused : (n : ℕ) (done : List Item) (list : List Token) (e : Parse) (answer : Option (List Item × List PlainToken))
    → looped (more_items n) done (plain_tokens list) ≡ answer → 0 < length list → Refuses e (item_at n (plain_tokens list)) → Refuses e answer
unfolding more_items
items_refused n done [] e answer here h refused = absurd (omega arith)
items_refused n done (t ∷ list) parse.Syntax answer here h none =
    sym here ∙ fails (more_items n) done (plain_tokens (t ∷ list)) (ap (λ r. Go (made (λ x. done ++ x ∷ []) r)) none)
items_refused n done (t ∷ list) parse.Memory answer here h refused = tt

pub ruleset loops = (stops, fails, listed_on, joined_on, suffixed_on, members_on, statements_on, items_on)
