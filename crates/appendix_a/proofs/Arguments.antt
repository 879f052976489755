-- Arguments taken one by one.
use Rattle.std.proofs.Common.{◌≡◌, ◌+◌, ◌<◌, ℕ, Bool, true, false, List, ◌∷◌, length, get_or, drop, map, refl, sym, ap, ◌∙◌, add-one}
use Rattle.std.specs.Prelude.{◌&&◌, ◌||◌, Ok, Err}
use Rattle.std.proofs.Math.Seq.{drop-cons}
use Rattle.std.proofs.lemmas.List.{drop-drop}
use Rattle.glsl_tree.specs.declared.declarations.Parameter.{Parameter}
use Rattle.glsl_tree.specs.declared.expressions.Callee.{Callee}
use Rattle.glsl_tree.specs.declared.expressions.Expr.{Expr}
use Rattle.glsl_tree.specs.declared.expressions.Expr.TheVariants as tree
use Rattle.glsl_tree.specs.declared.expressions.Expr.TheOpen.{Expr-F}
use Rattle.glsl_tree.specs.declared.expressions.Expr.TheFolds.{fold-Expr, fold-roll-Expr}
use Rattle.appendix_a.specs.declared.findings.Arguments.{Arguments}
use Rattle.appendix_a.specs.declared.findings.Finding.{Finding}
use Rattle.appendix_a.specs.Ahead.{Ahead, place_next}
use Rattle.appendix_a.specs.Rules.{Outcome, and_then}
use Rattle.appendix_a.specs.Site.{Site}
use Rattle.appendix_a.specs.Expressions.{Part, arguments_outcome, call, first_gives_back, is_index, no_arguments, part, part_layer, past_names, with_argument}
use Rattle.appendix_a.specs.Taken.{then_argument}

-- what is found of some arguments and of those after them
abbrev pub joined : Arguments → Arguments → Arguments
joined a b = record { made = a.made && b.made; index_out = a.index_out || b.index_out }

abbrev pub added : Arguments → Outcome Arguments → Outcome Arguments
added found (Ok others) = Ok (joined found others.0, others.1)
added found (Err number) = Err number

and-again : (a b c : Bool) → (a && (b && c)) ≡ ((a && b) && c)
and-again true b c = refl
and-again false b c = refl

or-again : (a b c : Bool) → (a || (b || c)) ≡ ((a || b) || c)
or-again true b c = refl
or-again false b c = refl

and-true : (a : Bool) → (a && true) ≡ a
and-true true = refl
and-true false = refl

or-false : (a : Bool) → (a || false) ≡ a
or-false true = refl
or-false false = refl

same_arguments : (a b c d : Bool) → a ≡ b → c ≡ d
    → (let x : Arguments = record { made = a; index_out = c } in x) ≡ (let y : Arguments = record { made = b; index_out = d } in y)
same_arguments a b c d p q = cc

-- none is left
pub added-none : (found : Arguments) (a : Ahead) → added found (Ok (no_arguments, a)) ≡ Ok (found, a)
added-none found a =
    ap (λ (x : Arguments). let o : Outcome Arguments = Ok (x, a) in o)
    (same_arguments (found.made && true) found.made (found.index_out || false) found.index_out (and-true found.made) (or-false found.index_out))

-- one more is taken
added-more : (site : Site) (parameters : List Parameter) (found : Arguments) (f : Finding) (outcome : Outcome Arguments)
    → added found (and_then outcome (λ others. Ok (with_argument site parameters f others.0, others.1)))
    ≡ added (then_argument site found (first_gives_back parameters) f) outcome
added-more site parameters found f (Err number) = refl
added-more site parameters found f (Ok others) =
    ap (λ (x : Arguments). let o : Outcome Arguments = Ok (x, others.1) in o)
    (same_arguments (found.made && (f.made && others.0.made)) ((found.made && f.made) && others.0.made)
    (found.index_out || ((first_gives_back parameters && is_index site f) || others.0.index_out))
    ((found.index_out || (first_gives_back parameters && is_index site f)) || others.0.index_out)
    (and-again found.made f.made others.0.made)
    (or-again found.index_out (first_gives_back parameters && is_index site f) others.0.index_out))

-- an argument that is well is taken
taken : (site : Site) (parameters : List Parameter) (first : Part) (more : List Part) (a after : Ahead) (found : Arguments) (f : Finding)
    → first.walk site a ≡ Ok (f, after)
    → added found (arguments_outcome site parameters (first ∷ more) a)
    ≡ added (then_argument site found (first_gives_back parameters) f) (arguments_outcome site (drop 1 parameters) more after)
taken site parameters first more a after found f e =
    ap (λ (o : Outcome Finding). added found (and_then o (λ g. and_then (arguments_outcome site (drop 1 parameters) more g.1) (λ others. Ok (with_argument site parameters g.0 others.0, others.1))))) e
    ∙ added-more site parameters found f (arguments_outcome site (drop 1 parameters) more after)

-- the turn of the loop
pub arguments-step : (site : Site) (parameters : List Parameter) (arguments : List Expr) (i : ℕ) (d : Expr) (a after : Ahead) (found : Arguments) (f : Finding)
    → i < length arguments → (part (get_or arguments i d)).walk site a ≡ Ok (f, after)
    → added found (arguments_outcome site (drop i parameters) (map part (drop i arguments)) a)
    ≡ added (then_argument site found (first_gives_back (drop i parameters)) f)
    (arguments_outcome site (drop (i + 1) parameters) (map part (drop (i + 1) arguments)) after)
arguments-step site parameters arguments i d a after found f within e =
    let first : map part (drop i arguments) ≡ part (get_or arguments i d) ∷ map part (drop (i + 1) arguments) =
    ap (map part) (drop-cons arguments i d within) ∙ rw add-one refl in
    let rest : drop 1 (drop i parameters) ≡ drop (i + 1) parameters = drop-drop 1 i parameters in
    ap (λ (ps : List Part). added found (arguments_outcome site (drop i parameters) ps a)) first
    ∙ taken site (drop i parameters) (part (get_or arguments i d)) (map part (drop (i + 1) arguments)) a after found f e
    ∙ ap (λ (ps : List Parameter). added (then_argument site found (first_gives_back (drop i parameters)) f) (arguments_outcome site ps (map part (drop (i + 1) arguments)) after)) rest

-- the turn of the loop, where what is found so far, and then what is left, is the whole
pub arguments-turn : (site : Site) (parameters : List Parameter) (arguments : List Expr) (i : ℕ) (x : Expr) (a after : Ahead)
    (found next : Arguments) (f : Finding) (gives_back : Bool) (whole : Outcome Arguments)
    → i < length arguments → x ≡ get_or arguments i x → (part x).walk site a ≡ Ok (f, after)
    → next ≡ then_argument site found gives_back f → gives_back ≡ first_gives_back (drop i parameters)
    → added found (arguments_outcome site (drop i parameters) (map part (drop i arguments)) a) ≡ whole
    → added next (arguments_outcome site (drop (i + 1) parameters) (map part (drop (i + 1) arguments)) after) ≡ whole
arguments-turn site parameters arguments i x a after found next f gives_back whole within is e same gives so_far =
    let rest = arguments_outcome site (drop (i + 1) parameters) (map part (drop (i + 1) arguments)) after in
    let well : (part (get_or arguments i x)).walk site a ≡ Ok (f, after) = ap (λ (y : Expr). (part y).walk site a) (sym is) ∙ e in
    ap (λ (n : Arguments). added n rest) (same ∙ ap (λ (g : Bool). then_argument site found g f) gives)
    ∙ sym (arguments-step site parameters arguments i x a after found f within well) ∙ so_far

-- what a call comes to
part-call : (callee : Callee) (arguments : List Expr) → part (tree.Call callee arguments) ≡ part_layer (Expr-F.Call callee (map part arguments))
unfolding part
part-call callee arguments =
    ap (fold-Expr Part part_layer) (sym (tree.rolls-Call callee arguments)) ∙ fold-roll-Expr Part part_layer (Expr-F.Call callee arguments)

pub call-is : (site : Site) (a : Ahead) (callee : Callee) (arguments given : List Expr) (e : Expr) → e ≡ tree.Call callee arguments → given ≡ arguments
    → (part e).walk site a ≡ call site callee (place_next (past_names (map part given) a)) (map part given) a
call-is site a callee arguments given e is same =
    ap (λ (p : Part). p.walk site a) (ap part is ∙ part-call callee arguments)
    ∙ ap (λ (all : List Expr). call site callee (place_next (past_names (map part all) a)) (map part all) a) (sym same)

-- what the loop needs
pub ruleset of_arguments = (added-none)
