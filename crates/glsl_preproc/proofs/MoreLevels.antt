-- More levels of nesting: what they change in the expansion of a list.
use Rattle.std.proofs.Common.{◌≤◌, ◌++◌, ℕ, zero, suc, List, [], ◌∷◌, Result, Ok, Err, refl, sym, ap, subst, arith}
use Rattle.glsl_tree.specs.Token.{PlainToken}
use Rattle.glsl_preproc.specs.Macros.{MacroMap, PlainMacro}
use Rattle.glsl_preproc.specs.Replacement.{Outcome, End, Whole, Failed, Deeper, ended, Use, Kept, LineNumber, Object, Call, WrongCount, use_of, line_number, at_line, list_from, expanded, object_outcome, call_outcome, called_with, expanded_arguments, substituted}
use Rattle.glsl_preproc.specs.Levels.{IsFront, ExtendsAt, Extends, ExtendsArguments}
use Rattle.glsl_preproc.proofs.Expanding.{Below, behind, stepped, step_is}
use Rattle.glsl_preproc.proofs.Fronts.{Begins, front_self, front_then, behind_begins, call_begins, list_begins, expanded_begins}

pub extends_self : (o : Outcome) → Extends o o
extends_self o = by_end o.end
  where
    by_end : (e : End) → ExtendsAt e o o
    by_end Whole = refl
    by_end (Failed line) = refl
    by_end Deeper = front_self o.tokens

-- One way of expanding extends another, which knows fewer levels.
abbrev pub Grows : Below → Below → Type 0
Grows less more = (hidden : List (List ℕ)) (done list : List PlainToken) → Extends (less hidden done list) (more hidden done list)

abbrev pub more_arguments : (List PlainToken → Outcome) → List (List PlainToken) → List (List PlainToken) → Outcome → Result (List (List PlainToken)) End
more_arguments below done rest o = elim o.end [ Whole ↦ expanded_arguments below (done ++ o.tokens ∷ []) rest | Failed line ↦ Err (Failed line) | Deeper ↦ Err Deeper ]

arguments_grow : (less more : List PlainToken → Outcome) → ((list : List PlainToken) → Extends (less list) (more list)) → (arguments done : List (List PlainToken)) → ExtendsArguments (expanded_arguments less done arguments) (expanded_arguments more done arguments)
unfolding expanded_arguments
arguments_grow less more h [] done = refl
arguments_grow less more h (a ∷ rest) done = by_end (less a).tokens (less a).end (more a) (h a) (λ d. arguments_grow less more h rest d)
  where
    by_end : (tokens : List PlainToken) (e : End) (o : Outcome) → ExtendsAt e (ended tokens e) o → ((d : List (List PlainToken)) → ExtendsArguments (expanded_arguments less d rest) (expanded_arguments more d rest))
        → ExtendsArguments (more_arguments less done rest (ended tokens e)) (more_arguments more done rest o)
    by_end tokens Whole o g goes = let P : Outcome → Type 0 = λ x. ExtendsArguments (expanded_arguments less (done ++ tokens ∷ []) rest) (more_arguments more done rest x) in subst P (sym g) (goes (done ++ tokens ∷ []))
    by_end tokens (Failed line) o g goes = ap (more_arguments more done rest) g
    by_end tokens Deeper o g goes = tt

call_grows : (less more : Below) (hidden : List (List ℕ)) (done : List PlainToken) (t : PlainToken) (m : PlainMacro) (parameters : List (List ℕ)) (arguments : List (List PlainToken)) → Grows less more → Begins more
    → Extends (call_outcome less hidden done t m parameters arguments) (call_outcome more hidden done t m parameters arguments)
call_grows less more hidden done t m parameters arguments h b =
    by_arguments (expanded_arguments (less hidden []) [] arguments) (expanded_arguments (more hidden []) [] arguments) (arguments_grow (less hidden []) (more hidden []) (λ list. h hidden [] list) arguments []) (call_begins more hidden done t m parameters arguments b)
  where
    by_arguments : (r q : Result (List (List PlainToken)) End) → ExtendsArguments r q → IsFront done (called_with more hidden done t m parameters q).tokens → Extends (called_with less hidden done t m parameters r) (called_with more hidden done t m parameters q)
    by_arguments (Ok lists) q g f = let P : Result (List (List PlainToken)) End → Type 0 = λ x. Extends (called_with less hidden done t m parameters (Ok lists)) (called_with more hidden done t m parameters x) in
        subst P (sym g) (h (hidden ++ t.text ∷ []) done (substituted parameters lists t.line m.body))
    by_arguments (Err Whole) q g f = ap (called_with more hidden done t m parameters) g
    by_arguments (Err (Failed line)) q g f = ap (called_with more hidden done t m parameters) g
    by_arguments (Err Deeper) q g f = f

behind_grows : (less more : Below) (macros : MacroMap) (hidden : List (List ℕ)) (n : ℕ) (rest : List PlainToken) → Begins more → ((d : List PlainToken) → Extends (list_from less macros hidden d n rest) (list_from more macros hidden d n rest))
    → (tokens : List PlainToken) (e : End) (o : Outcome) → ExtendsAt e (ended tokens e) o → Extends (behind less macros hidden n rest (ended tokens e)) (behind more macros hidden n rest o)
behind_grows less more macros hidden n rest b goes tokens Whole o g = let P : Outcome → Type 0 = λ x. Extends (list_from less macros hidden tokens n rest) (behind more macros hidden n rest x) in subst P (sym g) (goes tokens)
behind_grows less more macros hidden n rest b goes tokens (Failed line) o g = ap (behind more macros hidden n rest) g
behind_grows less more macros hidden n rest b goes tokens Deeper o g = front_then tokens o.tokens _ g (behind_begins more macros hidden n rest o (λ d. list_begins more macros hidden rest b d n))

pub list_grows : (less more : Below) (macros : MacroMap) (hidden : List (List ℕ)) → Grows less more → Begins more → (list done : List PlainToken) (k : ℕ) → Extends (list_from less macros hidden done k list) (list_from more macros hidden done k list)
unfolding list_from
list_grows less more macros hidden h b [] done k = refl
list_grows less more macros hidden h b (t ∷ rest) done (suc k) = list_grows less more macros hidden h b rest done k
list_grows less more macros hidden h b (t ∷ rest) done zero =
    let P : Outcome → Type 0 = λ o. Extends o (list_from more macros hidden done 0 (t ∷ rest)) in
    let Q : Outcome → Type 0 = λ o. Extends (stepped less macros hidden done t rest (use_of macros hidden t rest)) o in
    subst P (sym (step_is less macros hidden done t rest)) (subst Q (sym (step_is more macros hidden done t rest)) (by_use (λ d n. list_grows less more macros hidden h b rest d n) (use_of macros hidden t rest)))
  where
    by_use : ((d : List PlainToken) (n : ℕ) → Extends (list_from less macros hidden d n rest) (list_from more macros hidden d n rest)) → (u : Use) → Extends (stepped less macros hidden done t rest u) (stepped more macros hidden done t rest u)
    by_use goes Kept = goes (done ++ t ∷ []) 0
    by_use goes LineNumber = goes (done ++ line_number t ∷ []) 0
    by_use goes WrongCount = refl
    by_use goes (Object m) = let o = object_outcome less hidden done t m in
        behind_grows less more macros hidden 0 rest b (λ d. goes d 0) o.tokens o.end (object_outcome more hidden done t m) (h (hidden ++ t.text ∷ []) done (at_line t.line m.body))
    by_use goes (Call m parameters arguments n) = let o = call_outcome less hidden done t m parameters arguments in
        behind_grows less more macros hidden n rest b (λ d. goes d n) o.tokens o.end (call_outcome more hidden done t m parameters arguments) (call_grows less more hidden done t m parameters arguments h b)

-- an expansion with more levels extends the one with fewer
pub expanded_grows : (n m : ℕ) (macros : MacroMap) → n ≤ m → Grows (expanded n macros) (expanded m macros)
unfolding expanded
expanded_grows zero m macros h hidden done list = expanded_begins m macros hidden done list
expanded_grows (suc n) zero macros h hidden done list = absurd (omega arith)
expanded_grows (suc n) (suc m) macros h hidden done list = list_grows (expanded n macros) (expanded m macros) macros hidden (expanded_grows n m macros (omega arith)) (expanded_begins m macros) list done 0
