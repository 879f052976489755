-- The lines of a source leave only tokens of a text.
use Rattle.std.proofs.Common.{◌≡◌, ◌++◌, ◌⊎◌, inl, inr, ℕ, Bool, true, false, not, ◌&&◌, eqb, cond, List, [], ◌∷◌, Option, Some, None, IfSome, All, codes, refl, sym, ap, subst, ◌∙◌}
use Rattle.std.proofs.lemmas.List.{append_assoc}
use Rattle.std.proofs.lemmas.List.Elements.{All-nil, All-cons, All-head, All-tail, All-append, All-push}
use Rattle.glsl_tree.specs.Token.{PlainToken}
use Rattle.glsl_tree.specs.declared.token.Class.TheVariants.{Int}
use Rattle.glsl_preproc.specs.Macros.{MacroMap, first_macros}
use Rattle.glsl_preproc.specs.Replacement.{Outcome, End, Whole, Failed, Deeper, ended, expanded}
use Rattle.glsl_preproc.specs.Conditions.{Judged, Yes, No, Fails, Unknown, condition}
use Rattle.glsl_preproc.specs.Directives.{kind_of, is_hash_token, definition_of, after_define, after_undef, asked_defined, is_version, is_extension, are_line_numbers}
use Rattle.glsl_preproc.specs.Expansion.{State, Step, Next, Stop, failing, flushed, flushed_by, and_then, with_macros, unless, opened_if, opened_ifdef, with_part, elif_judged, elif_of, elif_step, other_part, else_step, endif_step, line_step, directive_step, acting, directive, failing_hash, behind_name, stray_hash, before_hash, skipping_inner, skipping_outer, skipping, text_step, not_fresh, read_step, skipped_step, line_of, is_read, ended_in, outcome_of, finished, is_line_end, lines_from, at_start, expansion}
use Rattle.glsl_preproc.specs.TextTokens.{IsTextToken, defining, ParamsBehindDefine}
use Rattle.glsl_preproc.specs.declared.conditionals.Part.{Part}
use Rattle.glsl_preproc.specs.declared.conditionals.Part.TheVariants.{Taken, Waiting, Passed}
use Rattle.glsl_preproc.specs.declared.conditionals.Conditional.{Conditional}
use Rattle.glsl_preproc.specs.declared.kinds.Kind.{Kind}
use Rattle.glsl_preproc.specs.declared.kinds.Kind.TheVariants as kind
use Rattle.glsl_preproc.proofs.Ways.{two_ways}
use Rattle.glsl_preproc.proofs.Lines.{last_behind, next_behind, lines_last, lines_next, lines_more}
use Rattle.glsl_preproc.proofs.TextMacros.{IsText, HasTextBody, AreTextMacros, expansion_text}
use Rattle.glsl_preproc.proofs.TextDefinitions.{Fits, IsNoHash, IsNoEnd, fits_first, behind_hash, line_text, no_hash, before_text, define_text, undef_text, with_text, defining_at_end, fits_parts, defining_end}

-- Steps.
abbrev IsTextState : State → Type 0
IsTextState s = AreTextMacros s.macros × IsText s.text × IsText s.tokens

abbrev IsTextStep : Step → Type 0
IsTextStep (Next s) = IsTextState s
IsTextStep (Stop o) = IsText o.tokens

flushed_text : (n : ℕ) (s : State) → IsTextState s → IsTextStep (flushed n s)
unfolding flushed
flushed_text n s h = by_end (expanded n s.macros [] s.tokens s.text).tokens (expanded n s.macros [] s.tokens s.text).end (expansion_text n s.macros [] s.tokens s.text h.0 h.2 h.1)
  where
    by_end : (tokens : List PlainToken) (e : End) → IsText tokens → IsTextStep (flushed_by s (ended tokens e))
    by_end tokens Whole g = (h.0, All-nil IsTextToken, g)
    by_end tokens (Failed line) g = g
    by_end tokens Deeper g = g

then_text : (step : Step) (f : State → Step) → IsTextStep step → ((s : State) → IsTextState s → IsTextStep (f s)) → IsTextStep (and_then step f)
then_text (Next s) f h goes = goes s h
then_text (Stop o) f h goes = h

not_fresh_text : (step : Step) → IsTextStep step → IsTextStep (not_fresh step)
not_fresh_text (Next s) h = h
not_fresh_text (Stop o) h = h

macros_text : (s : State) (line : ℕ) (o : Option MacroMap) → IsTextState s → IfSome o AreTextMacros → IsTextStep (with_macros s line o)
macros_text s line None h m = h.2
macros_text s line (Some macros) h m = (m, h.1, h.2)

unless_text : (fails : Bool) (s : State) (line : ℕ) → IsTextState s → IsTextStep (unless fails s line)
unless_text true s line h = h.2
unless_text false s line h = h

if_text : (s : State) (line : ℕ) (j : Judged) → IsTextState s → IsTextStep (opened_if s line j)
if_text s line Yes h = h
if_text s line No h = h
if_text s line Fails h = h.2
if_text s line Unknown h = h.2

ifdef_text : (s : State) (line : ℕ) (wanted : Bool) (o : Option Bool) → IsTextState s → IsTextStep (opened_ifdef s line wanted o)
ifdef_text s line wanted None h = h.2
ifdef_text s line wanted (Some found) h = h

judged_text : (s : State) (line : ℕ) (c : Conditional) (outer : List Conditional) (j : Judged) → IsTextState s → IsTextStep (elif_judged s line c outer j)
judged_text s line c outer Yes h = h
judged_text s line c outer No h = h
judged_text s line c outer Fails h = h.2
judged_text s line c outer Unknown h = h.2

chosen_text : (b : Bool) (s : State) (line : ℕ) (other : Step) → IsTextState s → IsTextStep other → IsTextStep (cond b (failing s line) other)
chosen_text true s line other h o = h.2
chosen_text false s line other h o = o

elif_text : (n : ℕ) (s : State) (line : ℕ) (list : List PlainToken) (cs : List Conditional) → IsTextState s → IsTextStep (elif_step n s line list cs)
elif_text n s line list [] h = h.2
elif_text n s line list (c ∷ outer) h = chosen_text c.closing s line (elif_of n s line list c outer c.part) h (by_part c.part)
  where
    by_part : (p : Part) → IsTextStep (elif_of n s line list c outer p)
    by_part Waiting = judged_text s line c outer (condition n s.macros list) h
    by_part Taken = h
    by_part Passed = h

else_text : (s : State) (line : ℕ) (list : List PlainToken) (cs : List Conditional) → IsTextState s → IsTextStep (else_step s line list cs)
else_text s line (t ∷ list) cs h = h.2
else_text s line [] [] h = h.2
else_text s line [] (c ∷ outer) h = chosen_text c.closing s line (with_part s c outer (other_part c.part) true) h h

endif_text : (s : State) (line : ℕ) (list : List PlainToken) (cs : List Conditional) → IsTextState s → IsTextStep (endif_step s line list cs)
endif_text s line (t ∷ list) cs h = h.2
endif_text s line [] [] h = h.2
endif_text s line [] (c ∷ outer) h = h

line_step_text : (s : State) (line : ℕ) (o : Outcome) → IsTextState s → IsTextStep (line_step s line o)
line_step_text s line o h = by_end o.end
  where
    by_end : (e : End) → IsTextStep (line_step s line (ended o.tokens e))
    by_end Whole = unless_text (not (are_line_numbers o.tokens)) s line h
    by_end (Failed at) = h.2
    by_end Deeper = h.2

-- a directive, of which the tokens behind its `#` are a line's
step_text : (n : ℕ) (s : State) (line : ℕ) (k : Kind) (list : List PlainToken) (fresh : Bool) → IsTextState s → (k ≡ kind.Define → IfSome (after_define s.macros list) AreTextMacros) → IsTextStep (directive_step n s line k list fresh)
unfolding directive_step
step_text n s line kind.Empty list fresh h d = h
step_text n s line kind.Define list fresh h d = macros_text s line (after_define s.macros list) h (d refl)
step_text n s line kind.Undef list fresh h d = macros_text s line (after_undef s.macros list) h (undef_text s.macros list h.0)
step_text n s line kind.If list fresh h d = if_text s line (condition n s.macros list) h
step_text n s line kind.Ifdef list fresh h d = ifdef_text s line true (asked_defined s.macros list) h
step_text n s line kind.Ifndef list fresh h d = ifdef_text s line false (asked_defined s.macros list) h
step_text n s line kind.Elif list fresh h d = elif_text n s line list s.conditionals h
step_text n s line kind.Else list fresh h d = else_text s line list s.conditionals h
step_text n s line kind.Endif list fresh h d = endif_text s line list s.conditionals h
step_text n s line kind.Error list fresh h d = h.2
step_text n s line kind.Pragma list fresh h d = h
step_text n s line kind.Extension list fresh h d = unless_text (not (is_extension list)) s line h
step_text n s line kind.Version list fresh h d = unless_text (not (fresh && is_version list)) s line h
step_text n s line kind.Line list fresh h d = line_step_text s line (expanded n s.macros [] [] list) h
step_text n s line kind.Unknown list fresh h d = h.2

behind_text : (macros : MacroMap) (list : List PlainToken) → AreTextMacros macros → Fits 1 list → stray_hash list ≡ None → All IsNoEnd list → IfSome (after_define macros (behind_name list)) AreTextMacros
unfolding after_define definition_of
behind_text macros [] m f h e = tt
behind_text macros (t ∷ rest) m f h e =
    let hashes = no_hash (t ∷ rest) h in
    define_text macros (defining 1 t) rest m (behind_hash t (All-head IsNoHash t rest hashes)) (fits_first 1 t rest f).1 (All-tail IsNoHash t rest hashes) (All-tail IsNoEnd t rest e)

directive_text : (n : ℕ) (s : State) (line : ℕ) (list : List PlainToken) (fresh : Bool) → IsTextState s → Fits 1 list → All IsNoEnd list → IsTextStep (directive n s line list fresh)
unfolding directive
directive_text n s line list fresh h f e = by_hash (kind_of list) (failing_hash (kind_of list) list) refl
  where
    by_hash : (k : Kind) (o : Option ℕ) → failing_hash k list ≡ o → IsTextStep (acting n line k list fresh o s)
    by_hash k (Some at) g = h.2
    by_hash k None g = step_text n s line k (behind_name list) fresh h (λ d. behind_text s.macros list h.0 f (sym (ap (λ j. failing_hash j list) d) ∙ g) e)

inner_text : (s : State) (k : Kind) → IsTextState s → IsTextStep (skipping_inner s k)
inner_text s kind.If h = h
inner_text s kind.Ifdef h = h
inner_text s kind.Ifndef h = h
inner_text s kind.Endif h = h
inner_text s kind.Empty h = h
inner_text s kind.Define h = h
inner_text s kind.Undef h = h
inner_text s kind.Elif h = h
inner_text s kind.Else h = h
inner_text s kind.Error h = h
inner_text s kind.Pragma h = h
inner_text s kind.Extension h = h
inner_text s kind.Version h = h
inner_text s kind.Line h = h
inner_text s kind.Unknown h = h

outer_text : (n : ℕ) (s : State) (line : ℕ) (list : List PlainToken) (k : Kind) → IsTextState s → Fits 1 list → All IsNoEnd list → IsTextStep (skipping_outer n s line list k)
outer_text n s line list kind.Elif h f e = directive_text n s line list false h f e
outer_text n s line list kind.Else h f e = directive_text n s line list false h f e
outer_text n s line list kind.Endif h f e = directive_text n s line list false h f e
outer_text n s line list kind.If h f e = h
outer_text n s line list kind.Ifdef h f e = h
outer_text n s line list kind.Ifndef h f e = h
outer_text n s line list kind.Empty h f e = h
outer_text n s line list kind.Define h f e = h
outer_text n s line list kind.Undef h f e = h
outer_text n s line list kind.Error h f e = h
outer_text n s line list kind.Pragma h f e = h
outer_text n s line list kind.Extension h f e = h
outer_text n s line list kind.Version h f e = h
outer_text n s line list kind.Line h f e = h
outer_text n s line list kind.Unknown h f e = h

skipping_text : (n : ℕ) (s : State) (line : ℕ) (list : List PlainToken) → IsTextState s → Fits 1 list → All IsNoEnd list → IsTextStep (skipping n s line list)
skipping_text n s line list h f e = by_level (eqb s.skipped 0)
  where
    by_level : (b : Bool) → IsTextStep (cond b (skipping_outer n s line list (kind_of list)) (skipping_inner s (kind_of list)))
    by_level true = outer_text n s line list (kind_of list) h f e
    by_level false = inner_text s (kind_of list) h

text_line_text : (n : ℕ) (s : State) (line : List PlainToken) (o : Option ℕ) → stray_hash line ≡ o → IsTextState s → Fits 0 line → All IsNoEnd line → IsTextStep (text_step n s line o)
text_line_text n s line None g h f e = (h.0, All-append IsTextToken s.text line h.1 (line_text line f (no_hash line g) e), h.2)
text_line_text n s line (Some at) g h f e =
    let before : State = record s { text = s.text ++ before_hash line } in
    let fine : IsTextState before = (h.0, All-append IsTextToken s.text (before_hash line) h.1 (before_text line f e), h.2) in
    then_text (flushed n before) (λ t. failing t at) (flushed_text n before fine) (λ t g. g.2)

read_text : (n : ℕ) (s : State) (line : ℕ) (list : List PlainToken) → IsTextState s → Fits 1 list → All IsNoEnd list → IsTextStep (read_step n s line list)
read_text n s line list h f e = not_fresh_text (and_then (flushed n s) (λ t. directive n t line list s.fresh)) (then_text (flushed n s) (λ t. directive n t line list s.fresh) (flushed_text n s h) (λ t g. directive_text n t line list s.fresh g f e))

-- one line, of which the tokens of the class Params stand behind `#`, `define` and a name
whole_text : (n : ℕ) (s : State) (line : List PlainToken) → IsTextState s → Fits 0 line → All IsNoEnd line → IsTextStep (line_of n s line)
unfolding line_of defining
whole_text n s [] h f e = h
whole_text n s (t ∷ rest) h f e = by_hash (two_ways (is_hash_token t))
  where
    stepped : Bool → Bool → Step
    stepped hash read = cond hash (cond read (read_step n s t.line rest) (skipped_step n s t.line rest)) (cond read (text_step n s (t ∷ rest) (stray_hash (t ∷ rest))) (Next (record s { fresh = false })))

    P : Bool → Type 0
    P b = IsTextStep (stepped b (is_read s))

    ends : All IsNoEnd rest
    ends = All-tail IsNoEnd t rest e

    by_directive : (read : Bool) → Fits 1 rest → IsTextStep (stepped true read)
    by_directive true g = read_text n s t.line rest h g ends
    by_directive false g = not_fresh_text (skipping n s t.line rest) (skipping_text n s t.line rest h g ends)

    by_text : (read : Bool) → IsTextStep (stepped false read)
    by_text true = text_line_text n s (t ∷ rest) (stray_hash (t ∷ rest)) refl h f e
    by_text false = h

    by_hash : (is_hash_token t ≡ true) ⊎ (is_hash_token t ≡ false) → IsTextStep (line_of n s (t ∷ rest))
    by_hash (inl q) = subst P (sym q) (by_directive (is_read s) (subst (λ k. Fits k rest) (ap (λ b. cond b 1 0) q) (fits_first 0 t rest f).1))
    by_hash (inr q) = subst P (sym q) (by_text (is_read s))

finished_text : (n : ℕ) (s : State) → IsTextState s → IsText (finished n s).tokens
unfolding finished
finished_text n s h = by_step (and_then (flushed n s) (λ t. ended_in t t.conditionals)) (then_text (flushed n s) (λ t. ended_in t t.conditionals) (flushed_text n s h) (λ t g. by_open t t.conditionals g))
  where
    by_open : (t : State) (cs : List Conditional) → IsTextState t → IsTextStep (ended_in t cs)
    by_open t [] g = g.2
    by_open t (c ∷ outer) g = g.2

    by_step : (step : Step) → IsTextStep step → IsText (outcome_of step).tokens
    by_step (Next t) g = g.2
    by_step (Stop o) g = g

lines_text : (n : ℕ) (rest : List PlainToken) (s : State) (line : List PlainToken) → IsTextState s → All IsNoEnd line → Fits 0 (line ++ rest) → IsText (lines_from n s line rest).tokens
lines_text n [] s line h e f =
    let P : Outcome → Type 0 = λ o. IsText o.tokens in
    subst P (sym (lines_last n s line)) (by_step (line_of n s line) (whole_text n s line h (fits_parts 0 line [] f).0 e))
  where
    by_step : (step : Step) → IsTextStep step → IsText (last_behind n step).tokens
    by_step (Next t) g = finished_text n t g
    by_step (Stop o) g = g
lines_text n (t ∷ rest) s line h e f = by_end (two_ways (is_line_end t)) (λ u l g x y. lines_text n rest u l g x y)
  where
    P : Outcome → Type 0
    P o = IsText o.tokens

    Goes : Type 0
    Goes = (u : State) (l : List PlainToken) → IsTextState u → All IsNoEnd l → Fits 0 (l ++ rest) → IsText (lines_from n u l rest).tokens

    parts : Fits 0 line × Fits (defining_at_end 0 line) (t ∷ rest)
    parts = fits_parts 0 line (t ∷ rest) f

    by_step : Goes → Fits 0 rest → (step : Step) → IsTextStep step → IsText (next_behind n rest step).tokens
    by_step goes a (Next u) g = goes u [] g (All-nil IsNoEnd) a
    by_step goes a (Stop o) g = g

    by_end : (is_line_end t ≡ true) ⊎ (is_line_end t ≡ false) → Goes → P (lines_from n s line (t ∷ rest))
    by_end (inl q) goes =
        let anew : Fits 0 rest = subst (λ k. Fits k rest) (defining_end (defining_at_end 0 line) t q) (fits_first (defining_at_end 0 line) t rest parts.1).1 in
        subst P (sym (lines_next n s line t rest q)) (by_step goes anew (line_of n s line) (whole_text n s line h parts.0 e))
    by_end (inr q) goes = subst P (sym (lines_more n s line t rest q)) (goes s (line ++ t ∷ []) h (All-push IsNoEnd line t e q) (subst (Fits 0) (sym (append_assoc line (t ∷ []) rest)) f))

first_text : AreTextMacros first_macros
unfolding first_macros
first_text =
    with_text _ _ (with_text _ _ (with_text _ _ (with_text _ _ (with_text [] _ (All-nil HasTextBody) (All-nil IsTextToken)) (one (codes "0"))) (one (codes "100"))) (one (codes "1"))) (one (codes "1"))
  where
    one : (text : List ℕ) → IsText (record { text = text; class = Int; line = 0 } ∷ [])
    one text = All-cons IsTextToken (record { text = text; class = Int; line = 0 }) [] refl (All-nil IsTextToken)

-- The expansion has only tokens of a text, where the class Params stands behind `#`, `define` and a name.
pub expansion_is_text : (n : ℕ) (source : List PlainToken) → ParamsBehindDefine source → IsText (expansion n source).tokens
unfolding expansion at_start
expansion_is_text n source f = lines_text n source at_start [] start (All-nil IsNoEnd) f
  where
    start : IsTextState at_start
    start = (first_text, All-nil IsTextToken, All-nil IsTextToken)

pub ok_text : (n : ℕ) (source tokens : List PlainToken) → expansion n source ≡ ended tokens Whole → ParamsBehindDefine source → IsText tokens
ok_text n source tokens e f = let P : Outcome → Type 0 = λ o. IsText o.tokens in subst P e (expansion_is_text n source f)
