-- The expansion of a list, one token at a time.
use Rattle.std.proofs.Common.{◌≡◌, ◌<◌, ◌≤◌, ◌+◌, ◌++◌, ℕ, zero, suc, List, [], ◌∷◌, length, drop, get_or, Result, Ok, Err, refl, sym, ap, ◌∙◌, arith, subst}
use Rattle.std.proofs.lemmas.List.{length_push, drop-map, drop-drop}
use Rattle.glsl_tree.specs.Token.{PlainToken}
use Rattle.glsl_preproc.specs.Views.{plain_piece, plain_pieces, Expands, ExpandsArguments, argument_error}
use Rattle.glsl_preproc.specs.declared.pieces.Piece.{Piece}
use Rattle.glsl_preproc.specs.Macros.{MacroMap, PlainMacro}
use Rattle.glsl_preproc.specs.Replacement.{Outcome, End, Whole, Failed, Deeper, ended, Use, Kept, LineNumber, Object, Call, WrongCount, use_of, line_number, at_line, list_from, expanded, object_outcome, call_outcome, called_with, expanded_arguments, substituted}
use Rattle.glsl_preproc.specs.declared.errors.Pre.{Pre}
use Rattle.glsl_preproc.specs.declared.errors.Pre.TheVariants as pre
use Rattle.glsl_preproc.proofs.Items.{first_dropped, dropped_none}

abbrev pub Below : Type 0
Below = List (List ℕ) → List PlainToken → List PlainToken → Outcome

pub expanded_more : (n m : ℕ) (macros : MacroMap) (hidden : List (List ℕ)) (done list : List PlainToken) → n + 1 ≡ m → expanded m macros hidden done list ≡ list_from (expanded n macros) macros hidden done 0 list
unfolding expanded
expanded_more n zero macros hidden done list e = absurd (omega arith)
expanded_more n (suc m) macros hidden done list e = let same : m ≡ n = omega arith in ap (λ k. list_from (expanded k macros) macros hidden done 0 list) same

skipped : (below : Below) (macros : MacroMap) (hidden : List (List ℕ)) (done : List PlainToken) (k : ℕ) (list : List PlainToken) → list_from below macros hidden done k list ≡ list_from below macros hidden done 0 (drop k list)
unfolding list_from
skipped below macros hidden done zero list = refl
skipped below macros hidden done (suc k) [] = refl
skipped below macros hidden done (suc k) (t ∷ list) = skipped below macros hidden done k list

-- how an expansion goes on behind one that it asked for
abbrev pub behind : Below → MacroMap → List (List ℕ) → ℕ → List PlainToken → Outcome → Outcome
behind below macros hidden n rest o = elim o.end [
  | Whole ↦ list_from below macros hidden o.tokens n rest
  | Failed line ↦ o
  | Deeper ↦ o
]

abbrev pub stepped : Below → MacroMap → List (List ℕ) → List PlainToken → PlainToken → List PlainToken → Use → Outcome
stepped below macros hidden done t rest Kept = list_from below macros hidden (done ++ t ∷ []) 0 rest
stepped below macros hidden done t rest LineNumber = list_from below macros hidden (done ++ line_number t ∷ []) 0 rest
stepped below macros hidden done t rest WrongCount = ended done (Failed t.line)
stepped below macros hidden done t rest (Object m) = behind below macros hidden 0 rest (object_outcome below hidden done t m)
stepped below macros hidden done t rest (Call m parameters arguments n) = behind below macros hidden n rest (call_outcome below hidden done t m parameters arguments)

pub step_is : (below : Below) (macros : MacroMap) (hidden : List (List ℕ)) (done : List PlainToken) (t : PlainToken) (rest : List PlainToken) → list_from below macros hidden done 0 (t ∷ rest) ≡ stepped below macros hidden done t rest (use_of macros hidden t rest)
unfolding list_from
step_is below macros hidden done t rest = by_use (use_of macros hidden t rest)
  where
    by_use : (u : Use) → elim u [
      | Kept ↦ list_from below macros hidden (done ++ t ∷ []) 0 rest
      | LineNumber ↦ list_from below macros hidden (done ++ line_number t ∷ []) 0 rest
      | WrongCount ↦ ended done (Failed t.line)
      | Object m ↦ elim ((object_outcome below hidden done t m).end) [
        | Whole ↦ list_from below macros hidden (object_outcome below hidden done t m).tokens 0 rest
        | Failed line ↦ object_outcome below hidden done t m
        | Deeper ↦ object_outcome below hidden done t m
      ]
      | Call m parameters arguments n ↦ elim ((call_outcome below hidden done t m parameters arguments).end) [
        | Whole ↦ list_from below macros hidden (call_outcome below hidden done t m parameters arguments).tokens n rest
        | Failed line ↦ call_outcome below hidden done t m parameters arguments
        | Deeper ↦ call_outcome below hidden done t m parameters arguments
      ]
    ] ≡ stepped below macros hidden done t rest u
    by_use Kept = refl
    by_use LineNumber = refl
    by_use WrongCount = refl
    by_use (Object m) = refl
    by_use (Call m parameters arguments n) = refl

-- the step at a place of a list, where the use of the token there is known
pub step_at : (below : Below) (macros : MacroMap) (hidden : List (List ℕ)) (done : List PlainToken) (list : List Piece) (at next : ℕ) (x : Piece) (u : Use)
    → next ≡ at + 1 → at < length list → x ≡ get_or list at x → u ≡ use_of macros hidden (plain_piece x) (plain_pieces (drop next list))
    → list_from below macros hidden done 0 (plain_pieces (drop at list)) ≡ stepped below macros hidden done (plain_piece x) (plain_pieces (drop next list)) u
step_at below macros hidden done list at next x u n h e used = first_dropped (λ l. list_from below macros hidden done 0 (plain_pieces l)) list at next x (omega arith) h e
    ∙ step_is below macros hidden done (plain_piece x) (plain_pieces (drop next list)) ∙ ap (stepped below macros hidden done (plain_piece x) (plain_pieces (drop next list))) (sym used)

pub list_end : (below : Below) (macros : MacroMap) (hidden : List (List ℕ)) (done : List PlainToken) (list : List Piece) (at : ℕ) → length list ≤ at → list_from below macros hidden done 0 (plain_pieces (drop at list)) ≡ ended done Whole
unfolding list_from
list_end below macros hidden done list at h = dropped_none (λ l. list_from below macros hidden done 0 (plain_pieces l)) list at h

-- behind an expansion that is whole, and behind one that fails
pub behind_whole : (below : Below) (macros : MacroMap) (hidden : List (List ℕ)) (n : ℕ) (list : List Piece) (at last : ℕ) (o : Outcome) (new : List PlainToken) → last ≡ at + n → o ≡ ended new Whole
    → behind below macros hidden n (plain_pieces (drop at list)) o ≡ list_from below macros hidden new 0 (plain_pieces (drop last list))
behind_whole below macros hidden n list at last o new p e = ap (behind below macros hidden n (plain_pieces (drop at list))) e ∙ skipped below macros hidden new n (plain_pieces (drop at list))
    ∙ ap (list_from below macros hidden new 0) (drop-map plain_piece n (drop at list)) ∙ ap (λ l. list_from below macros hidden new 0 (plain_pieces l)) (drop-drop n at list ∙ ap (λ i. drop i list) (sym p))

pub behind_failed : (below : Below) (macros : MacroMap) (hidden : List (List ℕ)) (n : ℕ) (rest : List PlainToken) (o : Outcome) (new : List PlainToken) (line : ℕ) → o ≡ ended new (Failed line) → behind below macros hidden n rest o ≡ ended new (Failed line)
behind_failed below macros hidden n rest o new line e = ap (behind below macros hidden n rest) e

-- No expansion takes away what stands before it.
Extends : Below → Type 0
Extends below = (hidden : List (List ℕ)) (done list : List PlainToken) → length done ≤ length (below hidden done list).tokens

behind_extends : (below : Below) (macros : MacroMap) (hidden : List (List ℕ)) (n : ℕ) (rest : List PlainToken) (o : Outcome)
    → ((done : List PlainToken) → length done ≤ length (list_from below macros hidden done n rest).tokens) → length o.tokens ≤ length (behind below macros hidden n rest o).tokens
behind_extends below macros hidden n rest o h = by_end o.end
  where
    by_end : (e : End) → length o.tokens ≤ length (elim e as (λ _. Outcome) [ Whole ↦ list_from below macros hidden o.tokens n rest | Failed line ↦ o | Deeper ↦ o ]).tokens
    by_end Whole = h o.tokens
    by_end (Failed line) = omega arith
    by_end Deeper = omega arith

called_extends : (below : Below) (hidden : List (List ℕ)) (done : List PlainToken) (t : PlainToken) (m : PlainMacro) (parameters : List (List ℕ)) (arguments : List (List PlainToken)) → Extends below → length done ≤ length (call_outcome below hidden done t m parameters arguments).tokens
unfolding Extends
called_extends below hidden done t m parameters arguments h = by_arguments (expanded_arguments (below hidden []) [] arguments)
  where
    by_arguments : (r : Result (List (List PlainToken)) End) → length done ≤ length (called_with below hidden done t m parameters r).tokens
    by_arguments (Ok lists) = h (hidden ++ t.text ∷ []) done (substituted parameters lists t.line m.body)
    by_arguments (Err end) = omega arith

list_extends : (below : Below) (macros : MacroMap) (hidden : List (List ℕ)) (list : List PlainToken) → Extends below → (done : List PlainToken) (k : ℕ) → length done ≤ length (list_from below macros hidden done k list).tokens
unfolding list_from Extends
list_extends below macros hidden [] h done k = omega arith
list_extends below macros hidden (t ∷ rest) h done (suc k) = list_extends below macros hidden rest h done k
list_extends below macros hidden (t ∷ rest) h done zero = let P : Outcome → Type 0 = λ o. length done ≤ length o.tokens in subst P (sym (step_is below macros hidden done t rest)) (by_use (λ d n. list_extends below macros hidden rest h d n) (use_of macros hidden t rest))
  where
    by_use : ((d : List PlainToken) (n : ℕ) → length d ≤ length (list_from below macros hidden d n rest).tokens) → (u : Use) → length done ≤ length (stepped below macros hidden done t rest u).tokens
    by_use goes Kept = let more = goes (done ++ t ∷ []) 0 in let pushed = length_push done t in omega arith
    by_use goes LineNumber = let more = goes (done ++ line_number t ∷ []) 0 in let pushed = length_push done (line_number t) in omega arith
    by_use goes WrongCount = omega arith
    by_use goes (Object m) =
        let first = h (hidden ++ t.text ∷ []) done (at_line t.line m.body) in
        let second = behind_extends below macros hidden 0 rest (object_outcome below hidden done t m) (λ d. goes d 0) in
        omega arith
    by_use goes (Call m parameters arguments n) =
        let first = called_extends below hidden done t m parameters arguments h in
        let second = behind_extends below macros hidden n rest (call_outcome below hidden done t m parameters arguments) (λ d. goes d n) in
        omega arith

pub expanded_extends : (n : ℕ) (macros : MacroMap) (hidden : List (List ℕ)) (done list : List PlainToken) → length done ≤ length (expanded n macros hidden done list).tokens
unfolding expanded Extends
expanded_extends zero macros hidden done list = omega arith
expanded_extends (suc n) macros hidden done list = list_extends (expanded n macros) macros hidden list (expanded_extends n macros) done 0

-- too many tokens stay too many
pub list_too_long : (n : ℕ) (macros : MacroMap) (hidden : List (List ℕ)) (done list : List PlainToken) → 131072 < length done → 131072 < length (list_from (expanded n macros) macros hidden done 0 list).tokens
unfolding Extends
list_too_long n macros hidden done list h = let more = list_extends (expanded n macros) macros hidden list (expanded_extends n macros) done 0 in omega arith

pub behind_too_long : (n : ℕ) (macros : MacroMap) (hidden : List (List ℕ)) (k : ℕ) (rest : List PlainToken) (o : Outcome) → 131072 < length o.tokens → 131072 < length (behind (expanded n macros) macros hidden k rest o).tokens
unfolding Extends
behind_too_long n macros hidden k rest o h = let more = behind_extends (expanded n macros) macros hidden k rest o (λ d. list_extends (expanded n macros) macros hidden rest (expanded_extends n macros) d k) in omega arith

-- Arguments.
pub arguments_first : (below : List PlainToken → Outcome) (done : List (List PlainToken)) (a : List PlainToken) (rest : List (List PlainToken)) (new : List PlainToken) → below a ≡ ended new Whole → expanded_arguments below done (a ∷ rest) ≡ expanded_arguments below (done ++ new ∷ []) rest
unfolding expanded_arguments
arguments_first below done a rest new e = ap (λ o. elim o.end [ Whole ↦ expanded_arguments below (done ++ o.tokens ∷ []) rest | Failed line ↦ Err (Failed line) | Deeper ↦ Err Deeper ]) e

pub arguments_fail : (below : List PlainToken → Outcome) (done : List (List PlainToken)) (a : List PlainToken) (rest : List (List PlainToken)) (new : List PlainToken) (line : ℕ) → below a ≡ ended new (Failed line) → expanded_arguments below done (a ∷ rest) ≡ Err (Failed line)
unfolding expanded_arguments
arguments_fail below done a rest new line e = ap (λ o. elim o.end [ Whole ↦ expanded_arguments below (done ++ o.tokens ∷ []) rest | Failed l ↦ Err (Failed l) | Deeper ↦ Err Deeper ]) e

pub arguments_end : (below : List PlainToken → Outcome) (done : List (List PlainToken)) → expanded_arguments below done [] ≡ Ok done
unfolding expanded_arguments
arguments_end below done = refl

-- What an error of the code says.
pub err_behind : (n k : ℕ) (macros : MacroMap) (hidden : List (List ℕ)) (rest : List PlainToken) (o whole : Outcome) (new : List PlainToken) (e : Pre) → whole ≡ behind (expanded n macros) macros hidden k rest o → Expands o new (Err e) → Expands whole new (Err e)
err_behind n k macros hidden rest o whole new (pre.Directive line) w h = w ∙ behind_failed (expanded n macros) macros hidden k rest o new line h
err_behind n k macros hidden rest o whole new pre.TooLong w h = let P : Outcome → Type 0 = λ x. 131072 < length x.tokens in subst P (sym w) (behind_too_long n macros hidden k rest o h)
err_behind n k macros hidden rest o whole new pre.Memory w h = tt

pub err_push : (n : ℕ) (macros : MacroMap) (hidden : List (List ℕ)) (done : List PlainToken) (t : PlainToken) (rest : List PlainToken) (whole : Outcome) (new : List PlainToken) (e : Pre) → whole ≡ list_from (expanded n macros) macros hidden (done ++ t ∷ []) 0 rest
    → ((line : ℕ) → e ≡ pre.Directive line → ⊥) → (e ≡ pre.TooLong → 131072 ≤ length done) → Expands whole new (Err e)
err_push n macros hidden done t rest whole new (pre.Directive line) w never full = absurd (never line refl)
err_push n macros hidden done t rest whole new pre.TooLong w never full =
    let P : Outcome → Type 0 = λ x. 131072 < length x.tokens in
    let pushed = length_push done t in
    let enough : 131072 ≤ length done = full refl in
    subst P (sym w) (list_too_long n macros hidden (done ++ t ∷ []) rest (omega arith))
err_push n macros hidden done t rest whole new pre.Memory w never full = tt

pub err_argument : (below : List PlainToken → Outcome) (done : List (List PlainToken)) (a : List PlainToken) (rest : List (List PlainToken)) (new : List PlainToken) (e : Pre)
    → Expands (below a) new (Err e) → ExpandsArguments (expanded_arguments below done (a ∷ rest)) (Err (argument_error e))
err_argument below done a rest new (pre.Directive line) h = arguments_fail below done a rest new line h
err_argument below done a rest new pre.TooLong h = tt
err_argument below done a rest new pre.Memory h = tt
