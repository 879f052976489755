-- More levels of nesting: what they change in the lines, and in the whole expansion.
use Rattle.std.proofs.Common.{◌≡◌, ◌≤◌, ◌++◌, ◌⊎◌, inl, inr, ℕ, Bool, true, false, not, eqb, cond, List, [], ◌∷◌, Option, Some, None, refl, sym, ap, subst, ◌∙◌}
use Rattle.glsl_tree.specs.Token.{PlainToken}
use Rattle.glsl_preproc.specs.Replacement.{Outcome, End, Whole, Failed, Deeper, ended, expanded}
use Rattle.glsl_preproc.specs.Conditions.{Judged, Yes, No, Fails, Unknown, condition}
use Rattle.glsl_preproc.specs.Directives.{kind_of, is_hash_token, are_line_numbers}
use Rattle.glsl_preproc.specs.Expansion.{State, Step, Next, Stop, failing, flushed, flushed_by, and_then, unless, opened_if, elif_judged, elif_of, elif_step, line_step, directive_step, acting, directive, failing_hash, behind_name, stray_hash, before_hash, skipping_inner, skipping_outer, skipping, text_step, not_fresh, read_step, skipped_step, line_of, is_read, ended_in, outcome_of, finished, is_line_end, lines_from, at_start, expansion}
use Rattle.glsl_preproc.specs.ReaderViews.{step_tokens}
use Rattle.glsl_preproc.specs.Levels.{IsFront, ExtendsAt, Extends, ExtendsJudged, ExtendsStopAt, ExtendsStep}
use Rattle.glsl_preproc.specs.declared.conditionals.Part.{Part}
use Rattle.glsl_preproc.specs.declared.conditionals.Part.TheVariants.{Taken, Waiting, Passed}
use Rattle.glsl_preproc.specs.declared.conditionals.Conditional.{Conditional}
use Rattle.glsl_preproc.specs.declared.kinds.Kind.{Kind}
use Rattle.glsl_preproc.specs.declared.kinds.Kind.TheVariants as kind
use Rattle.glsl_preproc.proofs.Ways.{two_ways}
use Rattle.glsl_preproc.proofs.Fronts.{front_self, front_then, expanded_begins}
use Rattle.glsl_preproc.proofs.Keeping.{if_keeps, judged_keeps, line_keeps, directive_keeps, skipping_keeps, not_fresh_keeps, then_keeps, read_keeps, ended_keeps, outcome_keeps}
use Rattle.glsl_preproc.proofs.Lines.{last_behind, next_behind, lines_last, lines_next, lines_more}
use Rattle.glsl_preproc.proofs.MoreLevels.{expanded_grows}
use Rattle.glsl_preproc.proofs.MoreConditions.{condition_grows}

-- Steps begin with the tokens so far.
kept_begins : (tokens : List PlainToken) (step : Step) → step_tokens step ≡ tokens → IsFront tokens (step_tokens step)
kept_begins tokens step e = let P : List PlainToken → Type 0 = λ l. IsFront tokens l in subst P (sym e) (front_self tokens)

flushed_begins : (n : ℕ) (s : State) → IsFront s.tokens (step_tokens (flushed n s))
unfolding flushed
flushed_begins n s = let o = expanded n s.macros [] s.tokens s.text in by_end o.tokens o.end (expanded_begins n s.macros [] s.tokens s.text)
  where
    by_end : (tokens : List PlainToken) (e : End) → IsFront s.tokens tokens → IsFront s.tokens (step_tokens (flushed_by s (ended tokens e)))
    by_end tokens Whole h = h
    by_end tokens (Failed line) h = h
    by_end tokens Deeper h = h

read_begins : (n : ℕ) (s : State) (line : ℕ) (list : List PlainToken) → IsFront s.tokens (step_tokens (read_step n s line list))
read_begins n s line list = let P : List PlainToken → Type 0 = λ l. IsFront s.tokens l in subst P (sym (read_keeps n s line list)) (flushed_begins n s)

text_begins : (n : ℕ) (s : State) (line : List PlainToken) (o : Option ℕ) → IsFront s.tokens (step_tokens (text_step n s line o))
text_begins n s line None = front_self s.tokens
text_begins n s line (Some at) =
    let before : State = record s { text = s.text ++ before_hash line } in
    let P : List PlainToken → Type 0 = λ l. IsFront s.tokens l in
    subst P (sym (then_keeps (flushed n before) (λ t. failing t at) (λ t. refl))) (flushed_begins n before)

line_begins : (n : ℕ) (s : State) (line : List PlainToken) → IsFront s.tokens (step_tokens (line_of n s line))
unfolding line_of
line_begins n s [] = front_self s.tokens
line_begins n s (t ∷ rest) = by_hash (is_hash_token t) (is_read s)
  where
    by_hash : (h r : Bool) → IsFront s.tokens (step_tokens (cond h (cond r (read_step n s t.line rest) (skipped_step n s t.line rest)) (cond r (text_step n s (t ∷ rest) (stray_hash (t ∷ rest))) (Next (record s { fresh = false })))))
    by_hash true true = read_begins n s t.line rest
    by_hash true false = kept_begins s.tokens (skipped_step n s t.line rest) (not_fresh_keeps (skipping n s t.line rest) ∙ skipping_keeps n s t.line rest)
    by_hash false true = text_begins n s (t ∷ rest) (stray_hash (t ∷ rest))
    by_hash false false = front_self s.tokens

finished_begins : (n : ℕ) (s : State) → IsFront s.tokens (finished n s).tokens
unfolding finished
finished_begins n s =
    let e = outcome_keeps (and_then (flushed n s) (λ f. ended_in f f.conditionals)) ∙ then_keeps (flushed n s) (λ f. ended_in f f.conditionals) (λ f. ended_keeps f f.conditionals) in
    let P : List PlainToken → Type 0 = λ l. IsFront s.tokens l in
    subst P (sym e) (flushed_begins n s)

last_begins : (n : ℕ) (step : Step) → IsFront (step_tokens step) (last_behind n step).tokens
last_begins n (Next t) = finished_begins n t
last_begins n (Stop o) = front_self o.tokens

next_begins : (n : ℕ) (rest : List PlainToken) → ((u : State) (line : List PlainToken) → IsFront u.tokens (lines_from n u line rest).tokens) → (step : Step) → IsFront (step_tokens step) (next_behind n rest step).tokens
next_begins n rest goes (Next u) = goes u []
next_begins n rest goes (Stop o) = front_self o.tokens

lines_begin : (n : ℕ) (rest : List PlainToken) (s : State) (line : List PlainToken) → IsFront s.tokens (lines_from n s line rest).tokens
lines_begin n [] s line = let P : Outcome → Type 0 = λ o. IsFront s.tokens o.tokens in
    subst P (sym (lines_last n s line)) (front_then s.tokens (step_tokens (line_of n s line)) _ (line_begins n s line) (last_begins n (line_of n s line)))
lines_begin n (t ∷ rest) s line = by_end (two_ways (is_line_end t)) (λ u l. lines_begin n rest u l)
  where
    P : Outcome → Type 0
    P o = IsFront s.tokens o.tokens

    by_end : (is_line_end t ≡ true) ⊎ (is_line_end t ≡ false) → ((u : State) (l : List PlainToken) → IsFront u.tokens (lines_from n u l rest).tokens) → P (lines_from n s line (t ∷ rest))
    by_end (inl e) goes = subst P (sym (lines_next n s line t rest e)) (front_then s.tokens (step_tokens (line_of n s line)) _ (line_begins n s line) (next_begins n rest goes (line_of n s line)))
    by_end (inr e) goes = subst P (sym (lines_more n s line t rest e)) (goes s (line ++ t ∷ []))

-- Steps with more levels extend those with fewer.
step_self : (step : Step) → ExtendsStep step step
step_self (Next s) = refl
step_self (Stop o) = by_end o.end
  where
    by_end : (e : End) → ExtendsStopAt e o (Stop o)
    by_end Whole = refl
    by_end (Failed line) = refl
    by_end Deeper = front_self o.tokens

flushed_grows : (n m : ℕ) (s : State) → n ≤ m → ExtendsStep (flushed n s) (flushed m s)
unfolding flushed
flushed_grows n m s h = let o = expanded n s.macros [] s.tokens s.text in by_end o.tokens o.end (expanded m s.macros [] s.tokens s.text) (expanded_grows n m s.macros h [] s.tokens s.text)
  where
    same_tokens : (tokens : List PlainToken) (e : End) → step_tokens (flushed_by s (ended tokens e)) ≡ tokens
    same_tokens tokens Whole = refl
    same_tokens tokens (Failed line) = refl
    same_tokens tokens Deeper = refl

    by_end : (tokens : List PlainToken) (e : End) (o : Outcome) → ExtendsAt e (ended tokens e) o → ExtendsStep (flushed_by s (ended tokens e)) (flushed_by s o)
    by_end tokens Whole o g = ap (flushed_by s) g
    by_end tokens (Failed line) o g = ap (flushed_by s) g
    by_end tokens Deeper o g = let P : List PlainToken → Type 0 = λ l. IsFront tokens l in subst P (sym (same_tokens o.tokens o.end)) g

then_grows : (f g : State → Step) → ((s : State) → ExtendsStep (f s) (g s)) → ((s : State) → step_tokens (g s) ≡ s.tokens) → (p q : Step) → ExtendsStep p q → ExtendsStep (and_then p f) (and_then q g)
then_grows f g goes keeps (Next s) q h = let P : Step → Type 0 = λ x. ExtendsStep (f s) (and_then x g) in subst P (sym h) (goes s)
then_grows f g goes keeps (Stop o) q h = by_end o.tokens o.end h
  where
    by_end : (tokens : List PlainToken) (e : End) → ExtendsStopAt e (ended tokens e) q → ExtendsStopAt e (ended tokens e) (and_then q g)
    by_end tokens Whole h = ap (λ x. and_then x g) h
    by_end tokens (Failed line) h = ap (λ x. and_then x g) h
    by_end tokens Deeper h = let P : List PlainToken → Type 0 = λ l. IsFront tokens l in subst P (sym (then_keeps q g keeps)) h

not_fresh_grows : (p q : Step) → ExtendsStep p q → ExtendsStep (not_fresh p) (not_fresh q)
not_fresh_grows (Next s) q h = ap not_fresh h
not_fresh_grows (Stop o) q h = by_end o.tokens o.end h
  where
    by_end : (tokens : List PlainToken) (e : End) → ExtendsStopAt e (ended tokens e) q → ExtendsStopAt e (ended tokens e) (not_fresh q)
    by_end tokens Whole h = ap not_fresh h
    by_end tokens (Failed line) h = ap not_fresh h
    by_end tokens Deeper h = let P : List PlainToken → Type 0 = λ l. IsFront tokens l in subst P (sym (not_fresh_keeps q)) h

if_grows : (s : State) (line : ℕ) (j i : Judged) → ExtendsJudged j i → ExtendsStep (opened_if s line j) (opened_if s line i)
if_grows s line Yes i h = ap (opened_if s line) h
if_grows s line No i h = ap (opened_if s line) h
if_grows s line Fails i h = ap (opened_if s line) h
if_grows s line Unknown i h = kept_begins s.tokens (opened_if s line i) (if_keeps s line i)

elif_grows : (s : State) (line : ℕ) (c : Conditional) (outer : List Conditional) (j i : Judged) → ExtendsJudged j i → ExtendsStep (elif_judged s line c outer j) (elif_judged s line c outer i)
elif_grows s line c outer Yes i h = ap (elif_judged s line c outer) h
elif_grows s line c outer No i h = ap (elif_judged s line c outer) h
elif_grows s line c outer Fails i h = ap (elif_judged s line c outer) h
elif_grows s line c outer Unknown i h = kept_begins s.tokens (elif_judged s line c outer i) (judged_keeps s line c outer i)

elif_of_grows : (n m : ℕ) (s : State) (line : ℕ) (list : List PlainToken) (c : Conditional) (outer : List Conditional) (p : Part) → n ≤ m → ExtendsStep (elif_of n s line list c outer p) (elif_of m s line list c outer p)
elif_of_grows n m s line list c outer Waiting h = elif_grows s line c outer (condition n s.macros list) (condition m s.macros list) (condition_grows n m s.macros list h)
elif_of_grows n m s line list c outer Taken h = refl
elif_of_grows n m s line list c outer Passed h = refl

elif_step_grows : (n m : ℕ) (s : State) (line : ℕ) (list : List PlainToken) (cs : List Conditional) → n ≤ m → ExtendsStep (elif_step n s line list cs) (elif_step m s line list cs)
elif_step_grows n m s line list [] h = refl
elif_step_grows n m s line list (c ∷ outer) h = by_closing c.closing
  where
    by_closing : (b : Bool) → ExtendsStep (cond b (failing s line) (elif_of n s line list c outer c.part)) (cond b (failing s line) (elif_of m s line list c outer c.part))
    by_closing true = refl
    by_closing false = elif_of_grows n m s line list c outer c.part h

line_step_grows : (s : State) (line : ℕ) (tokens : List PlainToken) (e : End) (o : Outcome) → ExtendsAt e (ended tokens e) o → ExtendsStep (line_step s line (ended tokens e)) (line_step s line o)
line_step_grows s line tokens Whole o h = let P : Outcome → Type 0 = λ x. ExtendsStep (line_step s line (ended tokens Whole)) (line_step s line x) in subst P (sym h) (step_self (unless (not (are_line_numbers tokens)) s line))
line_step_grows s line tokens (Failed at) o h = ap (line_step s line) h
line_step_grows s line tokens Deeper o h = kept_begins s.tokens (line_step s line o) (line_keeps s line o)

step_grows : (n m : ℕ) (s : State) (line : ℕ) (k : Kind) (list : List PlainToken) (fresh : Bool) → n ≤ m → ExtendsStep (directive_step n s line k list fresh) (directive_step m s line k list fresh)
unfolding directive_step
step_grows n m s line kind.If list fresh h = if_grows s line (condition n s.macros list) (condition m s.macros list) (condition_grows n m s.macros list h)
step_grows n m s line kind.Elif list fresh h = elif_step_grows n m s line list s.conditionals h
step_grows n m s line kind.Line list fresh h = let o = expanded n s.macros [] [] list in line_step_grows s line o.tokens o.end (expanded m s.macros [] [] list) (expanded_grows n m s.macros h [] [] list)
step_grows n m s line kind.Empty list fresh h = step_self (directive_step n s line kind.Empty list fresh)
step_grows n m s line kind.Define list fresh h = step_self (directive_step n s line kind.Define list fresh)
step_grows n m s line kind.Undef list fresh h = step_self (directive_step n s line kind.Undef list fresh)
step_grows n m s line kind.Ifdef list fresh h = step_self (directive_step n s line kind.Ifdef list fresh)
step_grows n m s line kind.Ifndef list fresh h = step_self (directive_step n s line kind.Ifndef list fresh)
step_grows n m s line kind.Else list fresh h = step_self (directive_step n s line kind.Else list fresh)
step_grows n m s line kind.Endif list fresh h = step_self (directive_step n s line kind.Endif list fresh)
step_grows n m s line kind.Error list fresh h = step_self (directive_step n s line kind.Error list fresh)
step_grows n m s line kind.Pragma list fresh h = step_self (directive_step n s line kind.Pragma list fresh)
step_grows n m s line kind.Extension list fresh h = step_self (directive_step n s line kind.Extension list fresh)
step_grows n m s line kind.Version list fresh h = step_self (directive_step n s line kind.Version list fresh)
step_grows n m s line kind.Unknown list fresh h = step_self (directive_step n s line kind.Unknown list fresh)

directive_grows : (n m : ℕ) (s : State) (line : ℕ) (list : List PlainToken) (fresh : Bool) → n ≤ m → ExtendsStep (directive n s line list fresh) (directive m s line list fresh)
unfolding directive
directive_grows n m s line list fresh h = by_hash (failing_hash (kind_of list) list)
  where
    by_hash : (o : Option ℕ) → ExtendsStep (acting n line (kind_of list) list fresh o s) (acting m line (kind_of list) list fresh o s)
    by_hash (Some at) = refl
    by_hash None = step_grows n m s line (kind_of list) (behind_name list) fresh h

outer_grows : (n m : ℕ) (s : State) (line : ℕ) (list : List PlainToken) (k : Kind) → n ≤ m → ExtendsStep (skipping_outer n s line list k) (skipping_outer m s line list k)
outer_grows n m s line list kind.Elif h = directive_grows n m s line list false h
outer_grows n m s line list kind.Else h = directive_grows n m s line list false h
outer_grows n m s line list kind.Endif h = directive_grows n m s line list false h
outer_grows n m s line list kind.If h = refl
outer_grows n m s line list kind.Ifdef h = refl
outer_grows n m s line list kind.Ifndef h = refl
outer_grows n m s line list kind.Empty h = refl
outer_grows n m s line list kind.Define h = refl
outer_grows n m s line list kind.Undef h = refl
outer_grows n m s line list kind.Error h = refl
outer_grows n m s line list kind.Pragma h = refl
outer_grows n m s line list kind.Extension h = refl
outer_grows n m s line list kind.Version h = refl
outer_grows n m s line list kind.Line h = refl
outer_grows n m s line list kind.Unknown h = refl

skipping_grows : (n m : ℕ) (s : State) (line : ℕ) (list : List PlainToken) → n ≤ m → ExtendsStep (skipping n s line list) (skipping m s line list)
skipping_grows n m s line list h = by_level (eqb s.skipped 0)
  where
    by_level : (b : Bool) → ExtendsStep (cond b (skipping_outer n s line list (kind_of list)) (skipping_inner s (kind_of list))) (cond b (skipping_outer m s line list (kind_of list)) (skipping_inner s (kind_of list)))
    by_level true = outer_grows n m s line list (kind_of list) h
    by_level false = step_self (skipping_inner s (kind_of list))

text_grows : (n m : ℕ) (s : State) (line : List PlainToken) (o : Option ℕ) → n ≤ m → ExtendsStep (text_step n s line o) (text_step m s line o)
text_grows n m s line None h = refl
text_grows n m s line (Some at) h =
    let before : State = record s { text = s.text ++ before_hash line } in
    then_grows (λ t. failing t at) (λ t. failing t at) (λ t. refl) (λ t. refl) (flushed n before) (flushed m before) (flushed_grows n m before h)

read_grows : (n m : ℕ) (s : State) (line : ℕ) (list : List PlainToken) → n ≤ m → ExtendsStep (read_step n s line list) (read_step m s line list)
read_grows n m s line list h = not_fresh_grows (and_then (flushed n s) (λ f. directive n f line list s.fresh)) (and_then (flushed m s) (λ f. directive m f line list s.fresh))
    (then_grows (λ f. directive n f line list s.fresh) (λ f. directive m f line list s.fresh) (λ f. directive_grows n m f line list s.fresh h) (λ f. directive_keeps m f line list s.fresh) (flushed n s) (flushed m s) (flushed_grows n m s h))

line_grows : (n m : ℕ) (s : State) (line : List PlainToken) → n ≤ m → ExtendsStep (line_of n s line) (line_of m s line)
unfolding line_of
line_grows n m s [] h = refl
line_grows n m s (t ∷ rest) h = by_hash (is_hash_token t) (is_read s)
  where
    stepped : ℕ → Bool → Bool → Step
    stepped k hash read = cond hash (cond read (read_step k s t.line rest) (skipped_step k s t.line rest)) (cond read (text_step k s (t ∷ rest) (stray_hash (t ∷ rest))) (Next (record s { fresh = false })))

    by_hash : (hash read : Bool) → ExtendsStep (stepped n hash read) (stepped m hash read)
    by_hash true true = read_grows n m s t.line rest h
    by_hash true false = not_fresh_grows (skipping n s t.line rest) (skipping m s t.line rest) (skipping_grows n m s t.line rest h)
    by_hash false true = text_grows n m s (t ∷ rest) (stray_hash (t ∷ rest)) h
    by_hash false false = refl

finished_grows : (n m : ℕ) (s : State) → n ≤ m → Extends (finished n s) (finished m s)
unfolding finished
finished_grows n m s h = by_step (and_then (flushed n s) last) (and_then (flushed m s) last) (then_grows last last (λ f. step_self (last f)) (λ f. ended_keeps f f.conditionals) (flushed n s) (flushed m s) (flushed_grows n m s h))
  where
    last : State → Step
    last f = ended_in f f.conditionals

    by_end : (tokens : List PlainToken) (e : End) (q : Step) → ExtendsStopAt e (ended tokens e) q → ExtendsAt e (ended tokens e) (outcome_of q)
    by_end tokens Whole q g = ap outcome_of g
    by_end tokens (Failed line) q g = ap outcome_of g
    by_end tokens Deeper q g = let P : List PlainToken → Type 0 = λ l. IsFront tokens l in subst P (sym (outcome_keeps q)) g

    by_step : (p q : Step) → ExtendsStep p q → Extends (outcome_of p) (outcome_of q)
    by_step (Next t) q g = ap outcome_of g
    by_step (Stop o) q g = by_end o.tokens o.end q g

-- how lines go on behind a step, with fewer levels and with more
behind_grows : (less more : Step → Outcome) → ((t : State) → Extends (less (Next t)) (more (Next t))) → ((o : Outcome) → less (Stop o) ≡ o) → ((o : Outcome) → more (Stop o) ≡ o)
    → ((step : Step) → IsFront (step_tokens step) (more step).tokens) → (p q : Step) → ExtendsStep p q → Extends (less p) (more q)
behind_grows less more goes left right begins (Next t) q h = let P : Step → Type 0 = λ x. Extends (less (Next t)) (more x) in subst P (sym h) (goes t)
behind_grows less more goes left right begins (Stop o) q h = let P : Outcome → Type 0 = λ x. Extends x (more q) in subst P (sym (left o)) (by_end o.tokens o.end h)
  where
    by_end : (tokens : List PlainToken) (e : End) → ExtendsStopAt e (ended tokens e) q → ExtendsAt e (ended tokens e) (more q)
    by_end tokens Whole g = ap more g ∙ right (ended tokens Whole)
    by_end tokens (Failed line) g = ap more g ∙ right (ended tokens (Failed line))
    by_end tokens Deeper g = front_then tokens (step_tokens q) _ g (begins q)

lines_grow : (n m : ℕ) → n ≤ m → (rest : List PlainToken) (s : State) (line : List PlainToken) → Extends (lines_from n s line rest) (lines_from m s line rest)
lines_grow n m h [] s line =
    let P : Outcome → Type 0 = λ o. Extends o (lines_from m s line []) in
    let Q : Outcome → Type 0 = λ o. Extends (last_behind n (line_of n s line)) o in
    subst P (sym (lines_last n s line)) (subst Q (sym (lines_last m s line))
    (behind_grows (last_behind n) (last_behind m) (λ t. finished_grows n m t h) (λ o. refl) (λ o. refl) (last_begins m) (line_of n s line) (line_of m s line) (line_grows n m s line h)))
lines_grow n m h (t ∷ rest) s line = by_end (two_ways (is_line_end t)) (λ u l. lines_grow n m h rest u l)
  where
    P : Outcome → Type 0
    P o = Extends o (lines_from m s line (t ∷ rest))

    by_end : (is_line_end t ≡ true) ⊎ (is_line_end t ≡ false) → ((u : State) (l : List PlainToken) → Extends (lines_from n u l rest) (lines_from m u l rest)) → P (lines_from n s line (t ∷ rest))
    by_end (inl e) goes =
        let Q : Outcome → Type 0 = λ o. Extends (next_behind n rest (line_of n s line)) o in
        subst P (sym (lines_next n s line t rest e)) (subst Q (sym (lines_next m s line t rest e))
        (behind_grows (next_behind n rest) (next_behind m rest) (λ u. goes u []) (λ o. refl) (λ o. refl) (next_begins m rest (lines_begin m rest)) (line_of n s line) (line_of m s line) (line_grows n m s line h)))
    by_end (inr e) goes =
        let Q : Outcome → Type 0 = λ o. Extends (lines_from n s (line ++ t ∷ []) rest) o in
        subst P (sym (lines_more n s line t rest e)) (subst Q (sym (lines_more m s line t rest e)) (goes s (line ++ t ∷ [])))

-- The expansion with more levels extends the one with fewer: the same where that comes to an end, and else behind a front.
pub expansion_grows : (n m : ℕ) (source : List PlainToken) → n ≤ m → Extends (expansion n source) (expansion m source)
unfolding expansion
expansion_grows n m source h = lines_grow n m h source at_start []
