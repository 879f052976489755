-- The tokens of an expanded list are those of a text, where those of the list and of the macros are.
use Rattle.std.proofs.Common.{◌+◌, ◌-◌, ◌++◌, ℕ, zero, suc, Bool, true, false, ◌&&◌, eqb, cond, List, [], ◌∷◌, Option, Some, None, Result, Ok, Err, IfSome, IfOk, All, codes, bytes_eq, refl, sym, subst}
use Rattle.std.proofs.lemmas.List.Elements.{All-nil, All-cons, All-head, All-tail, All-append, All-push, All-map}
use Rattle.std.specs.List.{list_any}
use Rattle.std.specs.Map.{lookup, values_of}
use Rattle.std.specs.BTreeMap.{is_at}
use Rattle.std.specs.Ordering.{nat_cmp}
use Rattle.std.specs.Cmp.Lexicographic.{slice_cmp}
use Rattle.glsl_tree.specs.Token.{PlainToken}
use Rattle.glsl_preproc.specs.Macros.{MacroMap, PlainMacro, is_text, is_name_token, find_macro}
use Rattle.glsl_preproc.specs.Replacement.{Outcome, End, Whole, Failed, Deeper, ended, opens, closes, is_comma, arguments_from, fits_parameters, Use, Kept, LineNumber, Object, Call, WrongCount, called, used, used_macro, use_of, line_number, at_line, argument_of, argument_or, substituted, list_from, expanded, object_outcome, call_outcome, called_with, expanded_arguments}
use Rattle.glsl_preproc.specs.TextTokens.{IsTextToken}
use Rattle.glsl_preproc.proofs.Expanding.{Below, behind, stepped, step_is}
use Rattle.glsl_preproc.proofs.MoreLevels.{more_arguments}

abbrev pub IsText : List PlainToken → Type 0
IsText tokens = All IsTextToken tokens

abbrev pub HasTextBody : PlainMacro → Type 0
HasTextBody m = IsText m.body

abbrev pub AreTextMacros : MacroMap → Type 0
AreTextMacros macros = All HasTextBody (values_of macros)

abbrev AreTexts : List (List PlainToken) → Type 0
AreTexts lists = All IsText lists

-- arguments
abbrev ArgumentsText : Option (List (List PlainToken) × ℕ) → Type 0
ArgumentsText None = Unit {0}
ArgumentsText (Some found) = AreTexts found.0

arguments_text : (list : List PlainToken) (whole : List (List PlainToken)) (current : List PlainToken) (depth count : ℕ) → AreTexts whole → IsText current → IsText list → ArgumentsText (arguments_from whole current depth count list)
unfolding arguments_from
arguments_text [] whole current depth count w c h = tt
arguments_text (t ∷ rest) whole current depth count w c h =
    by_tests (λ x y d n a b. arguments_text rest x y d n a b (All-tail IsTextToken t rest h)) (opens t) (eqb depth 0 && closes t) (eqb depth 0 && is_comma t) (cond (closes t) (depth - 1) depth)
  where
    longer : IsText (current ++ t ∷ [])
    longer = All-push IsTextToken current t c (All-head IsTextToken t rest h)

    more : AreTexts (whole ++ current ∷ [])
    more = All-push IsText whole current w c

    by_tests : ((x : List (List PlainToken)) (y : List PlainToken) (d n : ℕ) → AreTexts x → IsText y → ArgumentsText (arguments_from x y d n rest)) → (begins close comma : Bool) (d : ℕ)
        → ArgumentsText (cond begins (arguments_from whole (current ++ t ∷ []) (depth + 1) (count + 1) rest) (cond close (Some (whole ++ current ∷ [], count + 1)) (cond comma (arguments_from (whole ++ current ∷ []) [] 0 (count + 1) rest) (arguments_from whole (current ++ t ∷ []) d (count + 1) rest))))
    by_tests goes true close comma d = goes whole (current ++ t ∷ []) (depth + 1) (count + 1) w longer
    by_tests goes false true comma d = more
    by_tests goes false false true d = goes (whole ++ current ∷ []) [] 0 (count + 1) more (All-nil IsTextToken)
    by_tests goes false false false d = goes whole (current ++ t ∷ []) d (count + 1) w longer

-- what a token is
abbrev UseText : Use → Type 0
UseText (Object m) = HasTextBody m
UseText (Call m parameters arguments n) = HasTextBody m × AreTexts arguments
UseText _ = Unit {0}

called_text : (m : PlainMacro) (parameters : List (List ℕ)) (o : Option (List (List PlainToken) × ℕ)) → HasTextBody m → ArgumentsText o → UseText (called m parameters o)
called_text m parameters None b h = tt
called_text m parameters (Some found) b h = by_count (fits_parameters parameters found.0)
  where
    by_count : (fits : Bool) → UseText (cond fits (Call m parameters found.0 found.1) WrongCount)
    by_count true = (b, h)
    by_count false = tt

used_text : (m : PlainMacro) (o : Option (List (List ℕ))) (rest : List PlainToken) → HasTextBody m → IsText rest → UseText (used m o rest)
used_text m None rest b h = b
used_text m (Some parameters) [] b h = tt
used_text m (Some parameters) (t ∷ rest) b h = by_open (opens t)
  where
    by_open : (begins : Bool) → UseText (cond begins (called m parameters (arguments_from [] [] 0 1 rest)) Kept)
    by_open true = called_text m parameters (arguments_from [] [] 0 1 rest) b (arguments_text rest [] [] 0 1 (All-nil IsText) (All-nil IsTextToken) (All-tail IsTextToken t rest h))
    by_open false = tt

found_text : (test : List ℕ → Bool) (macros : MacroMap) → AreTextMacros macros → IfSome (lookup test macros) HasTextBody
found_text test [] h = tt
found_text test (e ∷ macros) h = by_test (test e.0) (found_text test macros (All-tail HasTextBody e.1 (values_of macros) h))
  where
    by_test : (b : Bool) → IfSome (lookup test macros) HasTextBody → IfSome (cond b (Some e.1) (lookup test macros)) HasTextBody
    by_test true k = All-head HasTextBody e.1 (values_of macros) h
    by_test false k = k

use_text : (macros : MacroMap) (hidden : List (List ℕ)) (t : PlainToken) (rest : List PlainToken) → AreTextMacros macros → IsText rest → UseText (use_of macros hidden t rest)
unfolding use_of find_macro
use_text macros hidden t rest m h = by_tests (is_name_token t) (is_text (codes "__LINE__") t) (list_any (λ name. bytes_eq name t.text) hidden)
  where
    by_macro : (o : Option PlainMacro) → IfSome o HasTextBody → UseText (used_macro o rest)
    by_macro None b = tt
    by_macro (Some found) b = used_text found found.parameters rest b h

    by_tests : (name line hides : Bool) → UseText (cond name (cond line LineNumber (cond hides Kept (used_macro (find_macro macros t.text) rest))) Kept)
    by_tests true true hides = tt
    by_tests true false true = tt
    by_tests true false false = by_macro (find_macro macros t.text) (found_text (is_at (slice_cmp nat_cmp t.text)) macros m)
    by_tests false line hides = tt

-- replacements
placed_text : (line : ℕ) (tokens : List PlainToken) → IsText tokens → IsText (at_line line tokens)
placed_text line tokens h = All-map IsTextToken (λ t. record { text = t.text; class = t.class; line = line }) tokens h

argument_text : (parameters : List (List ℕ)) (arguments : List (List PlainToken)) (name : List ℕ) → AreTexts arguments → IfSome (argument_of parameters arguments name) IsText
argument_text [] arguments name h = tt
argument_text (p ∷ parameters) [] name h = tt
argument_text (p ∷ parameters) (a ∷ arguments) name h = by_name (bytes_eq p name) (argument_text parameters arguments name (All-tail IsText a arguments h))
  where
    by_name : (b : Bool) → IfSome (argument_of parameters arguments name) IsText → IfSome (cond b (Some a) (argument_of parameters arguments name)) IsText
    by_name true k = All-head IsText a arguments h
    by_name false k = k

substituted_text : (parameters : List (List ℕ)) (arguments : List (List PlainToken)) (line : ℕ) (body : List PlainToken) → AreTexts arguments → IsText body → IsText (substituted parameters arguments line body)
unfolding substituted
substituted_text parameters arguments line [] h b = All-nil IsTextToken
substituted_text parameters arguments line (t ∷ body) h b =
    All-append IsTextToken (at_line line (argument_or (argument_of parameters arguments t.text) t)) (substituted parameters arguments line body)
    (placed_text line (argument_or (argument_of parameters arguments t.text) t) (by_argument (argument_of parameters arguments t.text) (argument_text parameters arguments t.text h)))
    (substituted_text parameters arguments line body h (All-tail IsTextToken t body b))
  where
    by_argument : (o : Option (List PlainToken)) → IfSome o IsText → IsText (argument_or o t)
    by_argument None k = All-cons IsTextToken t [] (All-head IsTextToken t body b) (All-nil IsTextToken)
    by_argument (Some tokens) k = k

-- A way of expanding brings only tokens of a text behind such tokens.
abbrev KeepsText : Below → Type 0
KeepsText below = (hidden : List (List ℕ)) (done list : List PlainToken) → IsText done → IsText list → IsText (below hidden done list).tokens

expanded_text : (below : List PlainToken → Outcome) → ((list : List PlainToken) → IsText list → IsText (below list).tokens) → (arguments done : List (List PlainToken)) → AreTexts done → AreTexts arguments → IfOk (expanded_arguments below done arguments) AreTexts
unfolding expanded_arguments
expanded_text below k [] done d h = d
expanded_text below k (a ∷ rest) done d h = by_end (λ x y. expanded_text below k rest x y (All-tail IsText a rest h)) (below a).end
  where
    more : AreTexts (done ++ (below a).tokens ∷ [])
    more = All-push IsText done (below a).tokens d (k a (All-head IsText a rest h))

    by_end : ((x : List (List PlainToken)) → AreTexts x → IfOk (expanded_arguments below x rest) AreTexts) → (e : End) → IfOk (more_arguments below done rest (ended (below a).tokens e)) AreTexts
    by_end goes Whole = goes (done ++ (below a).tokens ∷ []) more
    by_end goes (Failed line) = tt
    by_end goes Deeper = tt

call_text : (below : Below) (hidden : List (List ℕ)) (done : List PlainToken) (t : PlainToken) (m : PlainMacro) (parameters : List (List ℕ)) (arguments : List (List PlainToken)) → KeepsText below → IsText done → HasTextBody m → AreTexts arguments
    → IsText (call_outcome below hidden done t m parameters arguments).tokens
call_text below hidden done t m parameters arguments k d b h =
    by_arguments (expanded_arguments (below hidden []) [] arguments) (expanded_text (below hidden []) (λ list l. k hidden [] list (All-nil IsTextToken) l) arguments [] (All-nil IsText) h)
  where
    by_arguments : (r : Result (List (List PlainToken)) End) → IfOk r AreTexts → IsText (called_with below hidden done t m parameters r).tokens
    by_arguments (Ok lists) l = k (hidden ++ t.text ∷ []) done (substituted parameters lists t.line m.body) d (substituted_text parameters lists t.line m.body l b)
    by_arguments (Err end) l = d

behind_text : (below : Below) (macros : MacroMap) (hidden : List (List ℕ)) (n : ℕ) (rest : List PlainToken) (o : Outcome)
    → ((done : List PlainToken) → IsText done → IsText (list_from below macros hidden done n rest).tokens) → IsText o.tokens → IsText (behind below macros hidden n rest o).tokens
behind_text below macros hidden n rest o goes h = by_end o.end
  where
    by_end : (e : End) → IsText (behind below macros hidden n rest (ended o.tokens e)).tokens
    by_end Whole = goes o.tokens h
    by_end (Failed line) = h
    by_end Deeper = h

list_text : (below : Below) (macros : MacroMap) (hidden : List (List ℕ)) → KeepsText below → AreTextMacros macros → (list done : List PlainToken) (k : ℕ) → IsText done → IsText list → IsText (list_from below macros hidden done k list).tokens
unfolding list_from
list_text below macros hidden b m [] done k d h = d
list_text below macros hidden b m (t ∷ rest) done (suc k) d h = list_text below macros hidden b m rest done k d (All-tail IsTextToken t rest h)
list_text below macros hidden b m (t ∷ rest) done zero d h =
    let P : Outcome → Type 0 = λ o. IsText o.tokens in
    subst P (sym (step_is below macros hidden done t rest)) (by_use (λ x n y. list_text below macros hidden b m rest x n y (All-tail IsTextToken t rest h)) (use_of macros hidden t rest) (use_text macros hidden t rest m (All-tail IsTextToken t rest h)))
  where
    by_use : ((x : List PlainToken) (n : ℕ) → IsText x → IsText (list_from below macros hidden x n rest).tokens) → (u : Use) → UseText u → IsText (stepped below macros hidden done t rest u).tokens
    by_use goes Kept y = goes (done ++ t ∷ []) 0 (All-push IsTextToken done t d (All-head IsTextToken t rest h))
    by_use goes LineNumber y = goes (done ++ line_number t ∷ []) 0 (All-push IsTextToken done (line_number t) d refl)
    by_use goes WrongCount y = d
    by_use goes (Object macro) y = behind_text below macros hidden 0 rest (object_outcome below hidden done t macro) (λ x z. goes x 0 z) (b (hidden ++ t.text ∷ []) done (at_line t.line macro.body) d (placed_text t.line macro.body y))
    by_use goes (Call macro parameters arguments n) y = behind_text below macros hidden n rest (call_outcome below hidden done t macro parameters arguments) (λ x z. goes x n z) (call_text below hidden done t macro parameters arguments b d y.0 y.1)

-- an expanded list is of the tokens of a text, where the list and the macros are
pub expansion_text : (n : ℕ) (macros : MacroMap) (hidden : List (List ℕ)) (done list : List PlainToken) → AreTextMacros macros → IsText done → IsText list → IsText (expanded n macros hidden done list).tokens
unfolding expanded
expansion_text zero macros hidden done list m d h = d
expansion_text (suc n) macros hidden done list m d h = list_text (expanded n macros) macros hidden (λ x y z. expansion_text n macros x y z m) m list done 0 d h
