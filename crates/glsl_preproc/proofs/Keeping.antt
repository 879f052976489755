-- What a step does with the tokens so far.
use Rattle.std.proofs.Common.{◌≡◌, ℕ, Bool, true, false, not, ◌&&◌, eqb, cond, List, [], ◌∷◌, Option, Some, None, refl, ◌∙◌}
use Rattle.glsl_tree.specs.Token.{PlainToken}
use Rattle.glsl_preproc.specs.Macros.{MacroMap}
use Rattle.glsl_preproc.specs.Replacement.{Outcome, End, Whole, Failed, Deeper, expanded}
use Rattle.glsl_preproc.specs.Conditions.{Judged, Yes, No, Fails, Unknown, condition}
use Rattle.glsl_preproc.specs.Directives.{kind_of, after_define, after_undef, asked_defined, is_version, is_extension, are_line_numbers}
use Rattle.glsl_preproc.specs.Expansion.{State, Step, Next, Stop, failing, unknown, flushed, and_then, with_macros, unless, opened_if, opened_ifdef, with_part, elif_judged, elif_of, elif_step, other_part, else_step, endif_step, line_step, directive_step, acting, directive, failing_hash, behind_name, skipping_inner, skipping_outer, skipping, not_fresh, read_step, ended_in, outcome_of}
use Rattle.glsl_preproc.specs.ReaderViews.{step_tokens}
use Rattle.glsl_preproc.specs.declared.conditionals.Part.{Part}
use Rattle.glsl_preproc.specs.declared.conditionals.Part.TheVariants.{Taken, Waiting, Passed}
use Rattle.glsl_preproc.specs.declared.conditionals.Conditional.{Conditional}
use Rattle.glsl_preproc.specs.declared.kinds.Kind.{Kind}
use Rattle.glsl_preproc.specs.declared.kinds.Kind.TheVariants as kind

-- No step but an expansion changes the tokens.
unless_keeps : (b : Bool) (s : State) (line : ℕ) → step_tokens (unless b s line) ≡ s.tokens
unless_keeps true s line = refl
unless_keeps false s line = refl

macros_keep : (s : State) (line : ℕ) (o : Option MacroMap) → step_tokens (with_macros s line o) ≡ s.tokens
macros_keep s line None = refl
macros_keep s line (Some macros) = refl

pub if_keeps : (s : State) (line : ℕ) (j : Judged) → step_tokens (opened_if s line j) ≡ s.tokens
if_keeps s line Yes = refl
if_keeps s line No = refl
if_keeps s line Fails = refl
if_keeps s line Unknown = refl

ifdef_keeps : (s : State) (line : ℕ) (wanted : Bool) (o : Option Bool) → step_tokens (opened_ifdef s line wanted o) ≡ s.tokens
ifdef_keeps s line wanted None = refl
ifdef_keeps s line wanted (Some found) = refl

pub judged_keeps : (s : State) (line : ℕ) (c : Conditional) (outer : List Conditional) (j : Judged) → step_tokens (elif_judged s line c outer j) ≡ s.tokens
judged_keeps s line c outer Yes = refl
judged_keeps s line c outer No = refl
judged_keeps s line c outer Fails = refl
judged_keeps s line c outer Unknown = refl

elif_of_keeps : (n : ℕ) (s : State) (line : ℕ) (list : List PlainToken) (c : Conditional) (outer : List Conditional) (p : Part) → step_tokens (elif_of n s line list c outer p) ≡ s.tokens
elif_of_keeps n s line list c outer Waiting = judged_keeps s line c outer (condition n s.macros list)
elif_of_keeps n s line list c outer Taken = refl
elif_of_keeps n s line list c outer Passed = refl

chosen_keeps : (b : Bool) (s : State) (line : ℕ) (other : Step) → step_tokens other ≡ s.tokens → step_tokens (cond b (failing s line) other) ≡ s.tokens
chosen_keeps true s line other h = refl
chosen_keeps false s line other h = h

elif_keeps : (n : ℕ) (s : State) (line : ℕ) (list : List PlainToken) (cs : List Conditional) → step_tokens (elif_step n s line list cs) ≡ s.tokens
elif_keeps n s line list [] = refl
elif_keeps n s line list (c ∷ outer) = chosen_keeps c.closing s line (elif_of n s line list c outer c.part) (elif_of_keeps n s line list c outer c.part)

else_keeps : (s : State) (line : ℕ) (list : List PlainToken) (cs : List Conditional) → step_tokens (else_step s line list cs) ≡ s.tokens
else_keeps s line (t ∷ list) cs = refl
else_keeps s line [] [] = refl
else_keeps s line [] (c ∷ outer) = chosen_keeps c.closing s line (with_part s c outer (other_part c.part) true) refl

endif_keeps : (s : State) (line : ℕ) (list : List PlainToken) (cs : List Conditional) → step_tokens (endif_step s line list cs) ≡ s.tokens
endif_keeps s line (t ∷ list) cs = refl
endif_keeps s line [] [] = refl
endif_keeps s line [] (c ∷ outer) = refl

pub line_keeps : (s : State) (line : ℕ) (o : Outcome) → step_tokens (line_step s line o) ≡ s.tokens
line_keeps s line o = by_end o.end
  where
    by_end : (e : End) → step_tokens (elim e as (λ _. Step) [ Whole ↦ unless (not (are_line_numbers o.tokens)) s line | Failed at ↦ failing s line | Deeper ↦ unknown s ]) ≡ s.tokens
    by_end Whole = unless_keeps (not (are_line_numbers o.tokens)) s line
    by_end (Failed at) = refl
    by_end Deeper = refl

step_keeps : (n : ℕ) (s : State) (line : ℕ) (k : Kind) (list : List PlainToken) (fresh : Bool) → step_tokens (directive_step n s line k list fresh) ≡ s.tokens
unfolding directive_step
step_keeps n s line kind.Empty list fresh = refl
step_keeps n s line kind.Define list fresh = macros_keep s line (after_define s.macros list)
step_keeps n s line kind.Undef list fresh = macros_keep s line (after_undef s.macros list)
step_keeps n s line kind.If list fresh = if_keeps s line (condition n s.macros list)
step_keeps n s line kind.Ifdef list fresh = ifdef_keeps s line true (asked_defined s.macros list)
step_keeps n s line kind.Ifndef list fresh = ifdef_keeps s line false (asked_defined s.macros list)
step_keeps n s line kind.Elif list fresh = elif_keeps n s line list s.conditionals
step_keeps n s line kind.Else list fresh = else_keeps s line list s.conditionals
step_keeps n s line kind.Endif list fresh = endif_keeps s line list s.conditionals
step_keeps n s line kind.Error list fresh = refl
step_keeps n s line kind.Pragma list fresh = refl
step_keeps n s line kind.Extension list fresh = unless_keeps (not (is_extension list)) s line
step_keeps n s line kind.Version list fresh = unless_keeps (not (fresh && is_version list)) s line
step_keeps n s line kind.Line list fresh = line_keeps s line (expanded n s.macros [] [] list)
step_keeps n s line kind.Unknown list fresh = refl

acting_keeps : (n line : ℕ) (k : Kind) (list : List PlainToken) (fresh : Bool) (o : Option ℕ) (s : State) → step_tokens (acting n line k list fresh o s) ≡ s.tokens
acting_keeps n line k list fresh (Some at) s = refl
acting_keeps n line k list fresh None s = step_keeps n s line k (behind_name list) fresh

pub directive_keeps : (n : ℕ) (s : State) (line : ℕ) (list : List PlainToken) (fresh : Bool) → step_tokens (directive n s line list fresh) ≡ s.tokens
unfolding directive
directive_keeps n s line list fresh = acting_keeps n line (kind_of list) list fresh (failing_hash (kind_of list) list) s

pub not_fresh_keeps : (step : Step) → step_tokens (not_fresh step) ≡ step_tokens step
not_fresh_keeps (Next s) = refl
not_fresh_keeps (Stop o) = refl

inner_keeps : (s : State) (k : Kind) → step_tokens (skipping_inner s k) ≡ s.tokens
inner_keeps s kind.If = refl
inner_keeps s kind.Ifdef = refl
inner_keeps s kind.Ifndef = refl
inner_keeps s kind.Endif = refl
inner_keeps s kind.Empty = refl
inner_keeps s kind.Define = refl
inner_keeps s kind.Undef = refl
inner_keeps s kind.Elif = refl
inner_keeps s kind.Else = refl
inner_keeps s kind.Error = refl
inner_keeps s kind.Pragma = refl
inner_keeps s kind.Extension = refl
inner_keeps s kind.Version = refl
inner_keeps s kind.Line = refl
inner_keeps s kind.Unknown = refl

outer_keeps : (n : ℕ) (s : State) (line : ℕ) (list : List PlainToken) (k : Kind) → step_tokens (skipping_outer n s line list k) ≡ s.tokens
outer_keeps n s line list kind.Elif = directive_keeps n s line list false
outer_keeps n s line list kind.Else = directive_keeps n s line list false
outer_keeps n s line list kind.Endif = directive_keeps n s line list false
outer_keeps n s line list kind.If = refl
outer_keeps n s line list kind.Ifdef = refl
outer_keeps n s line list kind.Ifndef = refl
outer_keeps n s line list kind.Empty = refl
outer_keeps n s line list kind.Define = refl
outer_keeps n s line list kind.Undef = refl
outer_keeps n s line list kind.Error = refl
outer_keeps n s line list kind.Pragma = refl
outer_keeps n s line list kind.Extension = refl
outer_keeps n s line list kind.Version = refl
outer_keeps n s line list kind.Line = refl
outer_keeps n s line list kind.Unknown = refl

pub skipping_keeps : (n : ℕ) (s : State) (line : ℕ) (list : List PlainToken) → step_tokens (skipping n s line list) ≡ s.tokens
skipping_keeps n s line list = by_level (eqb s.skipped 0)
  where
    by_level : (b : Bool) → step_tokens (cond b (skipping_outer n s line list (kind_of list)) (skipping_inner s (kind_of list))) ≡ s.tokens
    by_level true = outer_keeps n s line list (kind_of list)
    by_level false = inner_keeps s (kind_of list)

pub then_keeps : (step : Step) (f : State → Step) → ((s : State) → step_tokens (f s) ≡ s.tokens) → step_tokens (and_then step f) ≡ step_tokens step
then_keeps (Next s) f h = h s
then_keeps (Stop o) f h = refl

pub read_keeps : (n : ℕ) (s : State) (line : ℕ) (list : List PlainToken) → step_tokens (read_step n s line list) ≡ step_tokens (flushed n s)
read_keeps n s line list = not_fresh_keeps (and_then (flushed n s) (λ f. directive n f line list s.fresh)) ∙ then_keeps (flushed n s) (λ f. directive n f line list s.fresh) (λ f. directive_keeps n f line list s.fresh)

pub ended_keeps : (s : State) (cs : List Conditional) → step_tokens (ended_in s cs) ≡ s.tokens
ended_keeps s [] = refl
ended_keeps s (c ∷ outer) = refl

pub outcome_keeps : (step : Step) → (outcome_of step).tokens ≡ step_tokens step
outcome_keeps (Next s) = refl
outcome_keeps (Stop o) = refl
