-- A source has one expansion.
use Rattle.std.proofs.Common.{◌≡◌, ◌<◌, ◌≤◌, ◌+◌, ℕ, List, length, Err, refl, sym, ap, subst, ◌∙◌, arith}
use Rattle.std.proofs.lemmas.List.{length-append}
use Rattle.glsl_tree.specs.Token.{PlainToken}
use Rattle.glsl_preproc.specs.Replacement.{Outcome, End, Whole, Failed, Deeper, ended}
use Rattle.glsl_preproc.specs.Expansion.{expansion, Expansion, IsTooLong}
use Rattle.glsl_preproc.specs.Levels.{IsFront, ExtendsAt}
use Rattle.glsl_preproc.specs.ReaderViews.{Finishes, Answers}
use Rattle.glsl_preproc.specs.declared.errors.Pre.{Pre}
use Rattle.glsl_preproc.specs.declared.errors.Pre.TheVariants as pre
use Rattle.glsl_preproc.proofs.Fronts.{front_self}
use Rattle.glsl_preproc.proofs.MoreLines.{expansion_grows}

-- Two expansions of a source are one.
pub one_expansion : (source a b : List PlainToken) (e f : End) → Expansion source a e → Expansion source b f → (a ≡ b) × (e ≡ f)
one_expansion source a b e f x y =
    let same : ended a e ≡ ended b f = sym (x.1 (x.0 + y.0) (omega arith)) ∙ y.1 (x.0 + y.0) (omega arith) in
    (ap (λ o. o.tokens) same, ap (λ o. o.end) same)

-- A source with an expansion of at most 131,072 tokens is not too long.
pub not_too_long : (source tokens : List PlainToken) (e : End) → Expansion source tokens e → length tokens ≤ 131072 → IsTooLong source → ⊥
not_too_long source tokens e x h y =
    let long : 131072 < length (expansion (x.0 + y.0) source).tokens = y.1 (x.0 + y.0) (omega arith) in
    let same : length (expansion (x.0 + y.0) source).tokens ≡ length tokens = ap (λ o. length o.tokens) (x.1 (x.0 + y.0) (omega arith)) in
    absurd (omega arith)

-- With more levels of nesting the tokens go on.
pub expansion_front : (n m : ℕ) (source : List PlainToken) → n ≤ m → IsFront (expansion n source).tokens (expansion m source).tokens
expansion_front n m source h = by_end (expansion n source).tokens (expansion n source).end (expansion m source) (expansion_grows n m source h)
  where
    by_end : (tokens : List PlainToken) (e : End) (o : Outcome) → ExtendsAt e (ended tokens e) o → IsFront tokens o.tokens
    by_end tokens Whole o g = let P : Outcome → Type 0 = λ x. IsFront tokens x.tokens in subst P (sym g) (front_self tokens)
    by_end tokens (Failed line) o g = let P : Outcome → Type 0 = λ x. IsFront tokens x.tokens in subst P (sym g) (front_self tokens)
    by_end tokens Deeper o g = g

-- An expansion that comes to its end is the same with more levels.
pub same_expansion : (n m : ℕ) (source : List PlainToken) → n ≤ m → ((expansion n source).end ≡ Deeper → ⊥) → expansion m source ≡ expansion n source
same_expansion n m source h ends = by_end (expansion n source).tokens (expansion n source).end (expansion m source) ends (expansion_grows n m source h)
  where
    by_end : (tokens : List PlainToken) (e : End) (o : Outcome) → (e ≡ Deeper → ⊥) → ExtendsAt e (ended tokens e) o → o ≡ ended tokens e
    by_end tokens Whole o f g = g
    by_end tokens (Failed line) o f g = g
    by_end tokens Deeper o f g = absurd (f refl)

-- An end that an expansion comes to with some number of levels is that of the source.
pub reached_expansion : (n : ℕ) (source tokens : List PlainToken) (e : End) → (e ≡ Deeper → ⊥) → expansion n source ≡ ended tokens e → Expansion source tokens e
reached_expansion n source tokens e ends is = (n, λ m h. same_expansion n m source h (λ d. ends (sym (ap (λ o. o.end) is) ∙ d)) ∙ is)

-- Too many tokens stay too many.
pub long_expansion : (n : ℕ) (source : List PlainToken) → 131072 < length (expansion n source).tokens → IsTooLong source
long_expansion n source long = (
  n,
  λ m h.
      let front = expansion_front n m source h in
      let total : length (expansion m source).tokens ≡ length (expansion n source).tokens + length front.0 = ap length front.1 ∙ length-append (expansion n source).tokens front.0 in
      omega arith,
)

-- The answer, from how the expansion finishes.
pub err_answer : (n : ℕ) (source new : List PlainToken) (o : Outcome) (e : Pre) → o ≡ expansion n source → length new ≤ 131072 → Finishes o new (Err e) → Answers source (Err e)
err_answer n source new o (pre.Directive line) w h f = (new, reached_expansion n source new (Failed line) (λ d. absurd cc) (sym w ∙ f), h)
err_answer n source new o pre.TooLong w h f = long_expansion n source (let P : Outcome → Type 0 = λ x. 131072 < length x.tokens in subst P w f)
err_answer n source new o pre.Memory w h f = tt
