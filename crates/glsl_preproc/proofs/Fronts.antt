-- Lists that begin with others, and the expansions, which begin with the tokens before them.
use Rattle.std.proofs.Common.{◌++◌, ℕ, zero, suc, List, [], ◌∷◌, Result, Ok, Err, refl, sym, ap, ◌∙◌, subst}
use Rattle.std.proofs.lemmas.List.{append-nil, append_assoc}
use Rattle.glsl_tree.specs.Token.{PlainToken}
use Rattle.glsl_preproc.specs.Macros.{MacroMap, PlainMacro}
use Rattle.glsl_preproc.specs.Replacement.{Outcome, End, Whole, Failed, Deeper, Use, Kept, LineNumber, Object, Call, WrongCount, use_of, line_number, at_line, list_from, expanded, object_outcome, call_outcome, called_with, expanded_arguments, substituted}
use Rattle.glsl_preproc.specs.Levels.{IsFront}
use Rattle.glsl_preproc.proofs.Expanding.{Below, behind, stepped, step_is}

pub front_self : (list : List PlainToken) → IsFront list list
front_self list = ([], sym (append-nil list))

pub front_push : (list more : List PlainToken) → IsFront list (list ++ more)
front_push list more = (more, refl)

pub front_then : (first second third : List PlainToken) → IsFront first second → IsFront second third → IsFront first third
front_then first second third f s = (f.0 ++ s.0, s.1 ∙ ap (λ l. l ++ s.0) f.1 ∙ append_assoc first f.0 s.0)

-- An expansion begins with the tokens before it.
abbrev pub Begins : Below → Type 0
Begins below = (hidden : List (List ℕ)) (done list : List PlainToken) → IsFront done (below hidden done list).tokens

pub behind_begins : (below : Below) (macros : MacroMap) (hidden : List (List ℕ)) (n : ℕ) (rest : List PlainToken) (o : Outcome)
    → ((done : List PlainToken) → IsFront done (list_from below macros hidden done n rest).tokens) → IsFront o.tokens (behind below macros hidden n rest o).tokens
behind_begins below macros hidden n rest o h = by_end o.end
  where
    by_end : (e : End) → IsFront o.tokens (elim e as (λ _. Outcome) [ Whole ↦ list_from below macros hidden o.tokens n rest | Failed line ↦ o | Deeper ↦ o ]).tokens
    by_end Whole = h o.tokens
    by_end (Failed line) = front_self o.tokens
    by_end Deeper = front_self o.tokens

pub call_begins : (below : Below) (hidden : List (List ℕ)) (done : List PlainToken) (t : PlainToken) (m : PlainMacro) (parameters : List (List ℕ)) (arguments : List (List PlainToken)) → Begins below → IsFront done (call_outcome below hidden done t m parameters arguments).tokens
call_begins below hidden done t m parameters arguments h = by_arguments (expanded_arguments (below hidden []) [] arguments)
  where
    by_arguments : (r : Result (List (List PlainToken)) End) → IsFront done (called_with below hidden done t m parameters r).tokens
    by_arguments (Ok lists) = h (hidden ++ t.text ∷ []) done (substituted parameters lists t.line m.body)
    by_arguments (Err end) = front_self done

pub list_begins : (below : Below) (macros : MacroMap) (hidden : List (List ℕ)) (list : List PlainToken) → Begins below → (done : List PlainToken) (k : ℕ) → IsFront done (list_from below macros hidden done k list).tokens
unfolding list_from
list_begins below macros hidden [] h done k = front_self done
list_begins below macros hidden (t ∷ rest) h done (suc k) = list_begins below macros hidden rest h done k
list_begins below macros hidden (t ∷ rest) h done zero = let P : Outcome → Type 0 = λ o. IsFront done o.tokens in subst P (sym (step_is below macros hidden done t rest)) (by_use (λ d n. list_begins below macros hidden rest h d n) (use_of macros hidden t rest))
  where
    by_use : ((d : List PlainToken) (n : ℕ) → IsFront d (list_from below macros hidden d n rest).tokens) → (u : Use) → IsFront done (stepped below macros hidden done t rest u).tokens
    by_use goes Kept = front_then done (done ++ t ∷ []) _ (front_push done (t ∷ [])) (goes (done ++ t ∷ []) 0)
    by_use goes LineNumber = front_then done (done ++ line_number t ∷ []) _ (front_push done (line_number t ∷ [])) (goes (done ++ line_number t ∷ []) 0)
    by_use goes WrongCount = front_self done
    by_use goes (Object m) = front_then done (object_outcome below hidden done t m).tokens _ (h (hidden ++ t.text ∷ []) done (at_line t.line m.body))
        (behind_begins below macros hidden 0 rest (object_outcome below hidden done t m) (λ d. goes d 0))
    by_use goes (Call m parameters arguments n) = front_then done (call_outcome below hidden done t m parameters arguments).tokens _ (call_begins below hidden done t m parameters arguments h)
        (behind_begins below macros hidden n rest (call_outcome below hidden done t m parameters arguments) (λ d. goes d n))

pub expanded_begins : (n : ℕ) (macros : MacroMap) (hidden : List (List ℕ)) (done list : List PlainToken) → IsFront done (expanded n macros hidden done list).tokens
unfolding expanded
expanded_begins zero macros hidden done list = front_self done
expanded_begins (suc n) macros hidden done list = list_begins (expanded n macros) macros hidden list (expanded_begins n macros) done 0
