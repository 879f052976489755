-- The reader's steps, and the lines of a source.
use Rattle.std.proofs.Common.{◌≡◌, ◌<◌, ◌≤◌, ◌+◌, ◌++◌, ℕ, Bool, true, false, cond, List, [], ◌∷◌, length, map, take, drop, get_or, reverse, Option, Some, None, Err, refl, sym, ap, subst, ◌∙◌, arith, inl, inr, ◌⊎◌}
use Rattle.std.proofs.lemmas.Bool.{cond-true, cond-false}
use Rattle.std.proofs.lemmas.List.{reverse-append, drop_more, take_more, take_all, map_push, drop-drop, get_or-drop}
use Rattle.glsl_preproc.proofs.Ways.{two_ways}
use Rattle.glsl_tree.specs.Token.{PlainToken, plain, plain_tokens}
use Rattle.glsl_tree.specs.declared.token.Token.{Token}
use Rattle.glsl_preproc.specs.Replacement.{Outcome, End, Whole, Failed, Deeper, ended, expanded}
use Rattle.glsl_preproc.specs.Directives.{is_hash_token}
use Rattle.glsl_preproc.specs.Expansion.{State, Step, Next, Stop, failing, flushed, flushed_by, and_then, directive, stray_hash, before_hash, skipping, text_step, not_fresh, read_step, skipped_step, line_of, is_read, outermost, ended_in, outcome_of, finished, is_line_end, lines_from, at_start, expansion}
use Rattle.glsl_preproc.specs.ReaderViews.{step_tokens, Steps, Finishes}
use Rattle.glsl_preproc.specs.declared.conditionals.Conditional.{Conditional}
use Rattle.glsl_preproc.specs.declared.errors.Pre.{Pre}
use Rattle.glsl_preproc.specs.declared.errors.Pre.TheVariants as pre
use Rattle.glsl_preproc.proofs.Items.{at_first, at_none}
use Rattle.glsl_preproc.proofs.Expanding.{expanded_extends}
use Rattle.glsl_preproc.proofs.Keeping.{not_fresh_keeps, skipping_keeps, then_keeps, read_keeps, ended_keeps, outcome_keeps}

-- The first `#`.
pub stray_found : (rest : List Token) (x : Token) → 0 < length rest → x ≡ get_or rest 0 x → is_hash_token (plain x) ≡ true → stray_hash (plain_tokens rest) ≡ Some x.line
unfolding stray_hash
stray_found rest x h e f = at_first (λ l. stray_hash (plain_tokens l)) rest x h e ∙ cond-true _ _ _ f

pub stray_next : (rest : List Token) (x : Token) → 0 < length rest → x ≡ get_or rest 0 x → is_hash_token (plain x) ≡ false → stray_hash (plain_tokens rest) ≡ stray_hash (plain_tokens (drop 1 rest))
unfolding stray_hash
stray_next rest x h e f = at_first (λ l. stray_hash (plain_tokens l)) rest x h e ∙ cond-false _ _ _ f

pub stray_none : (rest : List Token) → length rest ≡ 0 → stray_hash (plain_tokens rest) ≡ None
unfolding stray_hash
stray_none rest h = at_none (λ l. stray_hash (plain_tokens l)) rest h

pub before_found : (rest : List Token) (x : Token) → 0 < length rest → x ≡ get_or rest 0 x → is_hash_token (plain x) ≡ true → before_hash (plain_tokens rest) ≡ []
before_found rest x h e f = at_first (λ l. before_hash (plain_tokens l)) rest x h e ∙ cond-true _ _ _ f

pub before_next : (rest : List Token) (x : Token) → 0 < length rest → x ≡ get_or rest 0 x → is_hash_token (plain x) ≡ false → before_hash (plain_tokens rest) ≡ plain x ∷ before_hash (plain_tokens (drop 1 rest))
before_next rest x h e f = at_first (λ l. before_hash (plain_tokens l)) rest x h e ∙ cond-false _ _ _ f

pub before_none : (rest : List Token) → length rest ≡ 0 → before_hash (plain_tokens rest) ≡ []
before_none rest h = at_none (λ l. before_hash (plain_tokens l)) rest h

-- An expansion takes no token away.
flushed_longer : (n : ℕ) (s : State) → length s.tokens ≤ length (step_tokens (flushed n s))
unfolding flushed
flushed_longer n s = by_end (expanded n s.macros [] s.tokens s.text) (expanded_extends n s.macros [] s.tokens s.text)
  where
    by_kind : (o : Outcome) (e : End) → length s.tokens ≤ length o.tokens → length s.tokens ≤ length (step_tokens (elim e as (λ _. Step) [ Whole ↦ Next (record s { text = []; tokens = o.tokens }) | Failed line ↦ Stop o | Deeper ↦ Stop o ]))
    by_kind o Whole h = h
    by_kind o (Failed line) h = h
    by_kind o Deeper h = h

    by_end : (o : Outcome) → length s.tokens ≤ length o.tokens → length s.tokens ≤ length (step_tokens (flushed_by s o))
    by_end o h = by_kind o o.end h

text_longer : (n : ℕ) (s : State) (line : List PlainToken) (o : Option ℕ) → length s.tokens ≤ length (step_tokens (text_step n s line o))
text_longer n s line None = omega arith
text_longer n s line (Some at) =
    let kept = then_keeps (flushed n (record s { text = s.text ++ before_hash line })) (λ t. failing t at) (λ t. refl) in
    let longer = flushed_longer n (record s { text = s.text ++ before_hash line }) in
    let P : List PlainToken → Type 0 = λ l. length s.tokens ≤ length l in
    subst P (sym kept) longer

line_longer : (n : ℕ) (s : State) (line : List PlainToken) → length s.tokens ≤ length (step_tokens (line_of n s line))
unfolding line_of
line_longer n s [] = omega arith
line_longer n s (t ∷ rest) = by_hash (is_hash_token t) (is_read s)
  where
    P : List PlainToken → Type 0
    P l = length s.tokens ≤ length l

    by_hash : (h r : Bool) → length s.tokens ≤ length (step_tokens (cond h (cond r (read_step n s t.line rest) (skipped_step n s t.line rest)) (cond r (text_step n s (t ∷ rest) (stray_hash (t ∷ rest))) (Next (record s { fresh = false })))))
    by_hash true true = let e = read_keeps n s t.line rest in let longer = flushed_longer n s in subst P (sym e) longer
    by_hash true false = let e = not_fresh_keeps (skipping n s t.line rest) ∙ skipping_keeps n s t.line rest in subst P (sym e) (omega arith)
    by_hash false true = text_longer n s (t ∷ rest) (stray_hash (t ∷ rest))
    by_hash false false = omega arith

finished_longer : (n : ℕ) (s : State) → length s.tokens ≤ length (finished n s).tokens
unfolding finished
finished_longer n s =
    let e = outcome_keeps (and_then (flushed n s) (λ f. ended_in f f.conditionals)) ∙ then_keeps (flushed n s) (λ f. ended_in f f.conditionals) (λ f. ended_keeps f f.conditionals) in
    let P : List PlainToken → Type 0 = λ l. length s.tokens ≤ length l in
    subst P (sym e) (flushed_longer n s)

-- how the lines go on behind a step
abbrev pub last_behind : ℕ → Step → Outcome
last_behind n (Next t) = finished n t
last_behind n (Stop o) = o

abbrev pub next_behind : ℕ → List PlainToken → Step → Outcome
next_behind n rest (Next t) = lines_from n t [] rest
next_behind n rest (Stop o) = o

pub lines_last : (n : ℕ) (s : State) (line : List PlainToken) → lines_from n s line [] ≡ last_behind n (line_of n s line)
unfolding lines_from
lines_last n s line = by_step (line_of n s line)
  where
    by_step : (step : Step) → elim step as (λ _. Outcome) [ Next t ↦ finished n t | Stop o ↦ o ] ≡ last_behind n step
    by_step (Next t) = refl
    by_step (Stop o) = refl

pub lines_next : (n : ℕ) (s : State) (line : List PlainToken) (t : PlainToken) (rest : List PlainToken) → is_line_end t ≡ true → lines_from n s line (t ∷ rest) ≡ next_behind n rest (line_of n s line)
unfolding lines_from
lines_next n s line t rest e = ap (λ b. elim b as (λ _. Outcome) [ false ↦ lines_from n s (line ++ t ∷ []) rest | true ↦ elim (line_of n s line) as (λ _. Outcome) [ Next u ↦ lines_from n u [] rest | Stop o ↦ o ] ]) e ∙ by_step (line_of n s line)
  where
    by_step : (step : Step) → elim step as (λ _. Outcome) [ Next u ↦ lines_from n u [] rest | Stop o ↦ o ] ≡ next_behind n rest step
    by_step (Next t) = refl
    by_step (Stop o) = refl

pub lines_more : (n : ℕ) (s : State) (line : List PlainToken) (t : PlainToken) (rest : List PlainToken) → is_line_end t ≡ false → lines_from n s line (t ∷ rest) ≡ lines_from n s (line ++ t ∷ []) rest
unfolding lines_from
lines_more n s line t rest e = ap (λ b. elim b as (λ _. Outcome) [ false ↦ lines_from n s (line ++ t ∷ []) rest | true ↦ elim (line_of n s line) as (λ _. Outcome) [ Next u ↦ lines_from n u [] rest | Stop o ↦ o ] ]) e

lines_longer : (n : ℕ) (rest : List PlainToken) (s : State) (line : List PlainToken) → length s.tokens ≤ length (lines_from n s line rest).tokens
lines_longer n [] s line = let P : Outcome → Type 0 = λ o. length s.tokens ≤ length o.tokens in subst P (sym (lines_last n s line)) (by_step (line_of n s line) (line_longer n s line))
  where
    by_step : (step : Step) → length s.tokens ≤ length (step_tokens step) → length s.tokens ≤ length (last_behind n step).tokens
    by_step (Next t) h = let more = finished_longer n t in omega arith
    by_step (Stop o) h = h
lines_longer n (t ∷ rest) s line = by_end (two_ways (is_line_end t)) (λ u l. lines_longer n rest u l)
  where
    P : Outcome → Type 0
    P o = length s.tokens ≤ length o.tokens

    by_step : ((u : State) (l : List PlainToken) → length u.tokens ≤ length (lines_from n u l rest).tokens) → (step : Step) → length s.tokens ≤ length (step_tokens step) → length s.tokens ≤ length (next_behind n rest step).tokens
    by_step goes (Next u) h = let more = goes u [] in omega arith
    by_step goes (Stop o) h = h

    by_end : (is_line_end t ≡ true) ⊎ (is_line_end t ≡ false) → ((u : State) (l : List PlainToken) → length u.tokens ≤ length (lines_from n u l rest).tokens) → length s.tokens ≤ length (lines_from n s line (t ∷ rest)).tokens
    by_end (inl e) goes = subst P (sym (lines_next n s line t rest e)) (by_step goes (line_of n s line) (line_longer n s line))
    by_end (inr e) goes = subst P (sym (lines_more n s line t rest e)) (goes s (line ++ t ∷ []))

-- What an error of the code says.
pub err_read : (n : ℕ) (s new : State) (line : ℕ) (list : List PlainToken) (e : Pre) → Steps (flushed n s) new (Err e) → Steps (read_step n s line list) new (Err e)
err_read n s new line list (pre.Directive at) h = ap (λ step. not_fresh (and_then step (λ f. directive n f line list s.fresh))) h
err_read n s new line list pre.TooLong h = let P : List PlainToken → Type 0 = λ l. 131072 < length l in subst P (sym (read_keeps n s line list)) h
err_read n s new line list pre.Memory h = tt

last_is : (s : State) (c : Conditional) (line : ℕ) (cs : List Conditional) → outermost line (cs ++ c ∷ []) ≡ c.line
last_is s c line [] = refl
last_is s c line (d ∷ cs) = last_is s c d.line cs

ended_last : (s : State) (c : Conditional) (cs : List Conditional) → ended_in s (cs ++ c ∷ []) ≡ failing s c.line
ended_last s c [] = refl
ended_last s c (d ∷ cs) = ap (failing s) (last_is s c d.line cs)

pub ended_first : (s : State) (cs : List Conditional) (c : Conditional) → 0 < length cs → c ≡ get_or cs 0 c → ended_in s (reverse cs) ≡ failing s c.line
ended_first s [] c h e = absurd (omega arith)
ended_first s (d ∷ cs) c h e = ap (ended_in s) (reverse-append (d ∷ []) cs) ∙ ended_last s d (reverse cs) ∙ ap (λ k. failing s k.line) (sym e)

pub finished_failed : (n : ℕ) (s new : State) (cs : List Conditional) (c : Conditional) → flushed n s ≡ Next new → new.conditionals ≡ reverse cs → 0 < length cs → c ≡ get_or cs 0 c → finished n s ≡ ended new.tokens (Failed c.line)
unfolding finished
finished_failed n s new cs c f r h e = ap (λ step. outcome_of (and_then step (λ g. ended_in g g.conditionals))) f ∙ ap (λ l. outcome_of (ended_in new l)) r ∙ ap outcome_of (ended_first new cs c h e)

-- Lines, from the code's steps.
pub err_last : (n : ℕ) (s new : State) (line : List PlainToken) (e : Pre) → Steps (line_of n s line) new (Err e) → Finishes (lines_from n s line []) new.tokens (Err e)
err_last n s new line (pre.Directive at) h = lines_last n s line ∙ ap (last_behind n) h
err_last n s new line pre.TooLong h = let P : Outcome → Type 0 = λ o. 131072 < length o.tokens in subst P (sym (lines_last n s line)) (by_step (line_of n s line) h)
  where
    by_step : (step : Step) → 131072 < length (step_tokens step) → 131072 < length (last_behind n step).tokens
    by_step (Next t) h = let more = finished_longer n t in omega arith
    by_step (Stop o) h = h
err_last n s new line pre.Memory h = tt

pub err_next : (n : ℕ) (s new : State) (line : List PlainToken) (t : PlainToken) (rest : List PlainToken) (e : Pre) → is_line_end t ≡ true → Steps (line_of n s line) new (Err e) → Finishes (lines_from n s line (t ∷ rest)) new.tokens (Err e)
err_next n s new line t rest (pre.Directive at) l h = lines_next n s line t rest l ∙ ap (next_behind n rest) h
err_next n s new line t rest pre.TooLong l h = let P : Outcome → Type 0 = λ o. 131072 < length o.tokens in subst P (sym (lines_next n s line t rest l)) (by_step (line_of n s line) h)
  where
    by_step : (step : Step) → 131072 < length (step_tokens step) → 131072 < length (next_behind n rest step).tokens
    by_step (Next t) h = let more = lines_longer n rest t [] in omega arith
    by_step (Stop o) h = h
err_next n s new line t rest pre.Memory l h = tt

pub ok_last : (n : ℕ) (s new : State) (line : List PlainToken) → line_of n s line ≡ Next new → lines_from n s line [] ≡ finished n new
ok_last n s new line h = lines_last n s line ∙ ap (last_behind n) h

pub ok_next : (n : ℕ) (s new : State) (line : List PlainToken) (t : PlainToken) (rest : List PlainToken) → is_line_end t ≡ true → line_of n s line ≡ Next new → lines_from n s line (t ∷ rest) ≡ lines_from n new [] rest
ok_next n s new line t rest l h = lines_next n s line t rest l ∙ ap (next_behind n rest) h

-- The token at a place.
pub at_place : (count : ℕ) (rest : List Token) (x : Token) → count < length rest → x ≡ get_or rest count x → plain_tokens (drop count rest) ≡ plain x ∷ plain_tokens (drop (count + 1) rest)
at_place count rest x h e = ap plain_tokens (drop_more rest count x h ∙ ap (λ y. y ∷ drop (count + 1) rest) (sym e))

pub one_longer : {X : Type 0} (f : X → PlainToken) (count : ℕ) (rest : List X) (x : X) → count < length rest → x ≡ get_or rest count x → map f (take (count + 1) rest) ≡ map f (take count rest) ++ f x ∷ []
one_longer f count rest x h e = ap (map f) (take_more rest count x h ∙ ap (λ y. take count rest ++ y ∷ []) (sym e)) ∙ map_push f (take count rest) x

pub first_or : (cs : List Conditional) (d : Conditional) → 0 < length cs → get_or cs 0 d ≡ get_or cs 0 (get_or cs 0 d)
first_or [] d h = absurd (omega arith)
first_or (c ∷ cs) d h = refl

-- The line so far is a front of what began with it.
pub at_begin : (n : ℕ) (s : State) (tokens : List Token) (k : ℕ) → k ≡ 0 → s ≡ at_start → lines_from n s (plain_tokens (take k tokens)) (plain_tokens tokens) ≡ expansion n (plain_tokens tokens)
unfolding expansion
at_begin n s tokens k e h = ap (λ j. lines_from n s (plain_tokens (take j tokens)) (plain_tokens tokens)) e ∙ ap (λ t. lines_from n t [] (plain_tokens tokens)) h

pub place_more : {X : Type 0} (start rest : List X) (k j : ℕ) → drop k start ≡ rest → j ≡ k + 1 → drop j start ≡ drop 1 rest
place_more start rest k j p e = ap (λ i. drop i start) e ∙ sym (drop-drop 1 k start) ∙ ap (drop 1) p

pub line_more : (n : ℕ) (s : State) (start rest : List Token) (x : Token) (k j : ℕ) → drop k start ≡ rest → j ≡ k + 1 → k < length start → 0 < length rest → x ≡ get_or rest 0 x → is_line_end (plain x) ≡ false
    → lines_from n s (plain_tokens (take j start)) (plain_tokens (drop 1 rest)) ≡ lines_from n s (plain_tokens (take k start)) (plain_tokens rest)
line_more n s start rest x k j p e lt some is other =
    let here : get_or rest 0 x ≡ get_or start k x = ap (λ l. get_or l 0 x) (sym p) ∙ get_or-drop k start 0 x ∙ ap (λ i. get_or start i x) (omega arith) in
    ap (λ i. lines_from n s (plain_tokens (take i start)) (plain_tokens (drop 1 rest))) e
    ∙ ap (λ l. lines_from n s l (plain_tokens (drop 1 rest))) (one_longer plain k start x lt (is ∙ here))
    ∙ sym (at_first (λ l. lines_from n s (plain_tokens (take k start)) (plain_tokens l)) rest x some is ∙ lines_more n s (plain_tokens (take k start)) (plain x) (plain_tokens (drop 1 rest)) other)

pub line_done : (n : ℕ) (s new : State) (start rest : List Token) (x : Token) (k : ℕ) → 0 < length rest → x ≡ get_or rest 0 x → is_line_end (plain x) ≡ true → line_of n s (plain_tokens (take k start)) ≡ Next new
    → lines_from n s (plain_tokens (take k start)) (plain_tokens rest) ≡ lines_from n new [] (plain_tokens (drop 1 rest))
line_done n s new start rest x k some is l h = at_first (λ r. lines_from n s (plain_tokens (take k start)) (plain_tokens r)) rest x some is ∙ ok_next n s new (plain_tokens (take k start)) (plain x) (plain_tokens (drop 1 rest)) l h

pub line_fails : (n : ℕ) (s new : State) (start rest : List Token) (x : Token) (k : ℕ) (e : Pre) → 0 < length rest → x ≡ get_or rest 0 x → is_line_end (plain x) ≡ true → Steps (line_of n s (plain_tokens (take k start))) new (Err e)
    → Finishes (lines_from n s (plain_tokens (take k start)) (plain_tokens rest)) new.tokens (Err e)
line_fails n s new start rest x k e some is l h =
    let P : Outcome → Type 0 = λ o. Finishes o new.tokens (Err e) in
    subst P (sym (at_first (λ r. lines_from n s (plain_tokens (take k start)) (plain_tokens r)) rest x some is)) (err_next n s new (plain_tokens (take k start)) (plain x) (plain_tokens (drop 1 rest)) e l h)

pub last_line : (n : ℕ) (s : State) (start rest : List Token) (k : ℕ) → length rest ≡ 0 → length start ≤ k → lines_from n s (plain_tokens (take k start)) (plain_tokens rest) ≡ lines_from n s (plain_tokens start) []
last_line n s start rest k none long = at_none (λ r. lines_from n s (plain_tokens (take k start)) (plain_tokens r)) rest none ∙ ap (λ l. lines_from n s (plain_tokens l) []) (take_all k start long)
