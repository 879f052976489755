-- The table that is filled says of each number what the name is.
use Rattle.std.proofs.Common.{◌≡◌, ℕ, zero, suc, ◌+◌, ◌-◌, ◌<◌, false, List, [], ◌∷◌, length, get_or, map, refl, sym, ap, ◌∙◌, arith}
use Rattle.std.specs.Prelude.{◌==◌, Option, Some, None, Result, Ok, Err, if◌then◌else◌, slice_get, slice_index_or}
use Rattle.std.proofs.lemmas.Bool.{ne_eqb}
use Rattle.std.proofs.lemmas.Option.{slice_get-get_or}
use mathlib.Core.Path.{fun_ext}
use Rattle.gl_numbers.specs.declared.kinds.Stage.{Stage}
use Rattle.glsl_tree.specs.declared.statements.Item.{Item}
use Rattle.glsl_tree.specs.declared.statements.Unit as shader
use Rattle.appendix_a.specs.declared.ahead.Ahead as ahead
use Rattle.appendix_a.specs.declared.rule.Rule.{Rule}
use Rattle.glsl_types.specs.declared.facts.Facts.{Facts}
use Rattle.appendix_a.specs.Ahead.{Ahead, facts_ahead}
use Rattle.appendix_a.specs.Declarations.{in_order}
use Rattle.appendix_a.specs.Site.{Site}
use Rattle.appendix_a.specs.Rules.{Goes}
use Rattle.appendix_a.specs.Names.{Declared, Named, Function, named_at, names_from, names_of}
use Rattle.appendix_a.specs.Table.{item_parameters, of_entry}
use Rattle.appendix_a.specs.Limits.{broken, item_passage, limits, outside}
use Rattle.appendix_a.specs.Verdict.{rule_of}

-- the entry of a function
pub function-entry : (items : List Item) (n : ℕ) (i : Item) → n < length items → i ≡ get_or items n i
    → of_entry items (n + 3) ≡ Some (Function (item_parameters i))
function-entry items n i within is =
    let none : ((n + 3) == 0) ≡ false = ne_eqb (n + 3) 0 (λ (e : n + 3 ≡ 0). omega arith) in
    let structure : ((n + 3) == 1) ≡ false = ne_eqb (n + 3) 1 (λ (e : n + 3 ≡ 1). omega arith) in
    let uniform : ((n + 3) == 2) ≡ false = ne_eqb (n + 3) 2 (λ (e : n + 3 ≡ 2). omega arith) in
    let back : (n + 3) - 3 ≡ n = omega arith in
    let found : slice_get items n ≡ Some i = slice_get-get_or items n i within ∙ ap (λ (x : Item). let o : Option Item = Some x in o) (sym is) in
    rw (none, structure, uniform, back, found) refl

pub function-at : (held items : List Item) (n : ℕ) (i : Item) → held ≡ items → n < length items → i ≡ get_or items n i
    → of_entry held (n + 3) ≡ Some (Function (item_parameters i))
function-at held items n i same within is =
    ap (λ (all : List Item). of_entry all (n + 3)) same ∙ function-entry items n i within is

-- an entry of the table
entry-is : (items : List Item) (entries : List ℕ) (number : ℕ)
    → of_entry items (get_or entries number 0) ≡ get_or (map (of_entry items) entries) number None
entry-is items [] number = refl
entry-is items (e ∷ entries) zero = refl
entry-is items (e ∷ entries) (suc number) = entry-is items entries number

-- the built-in name, and then the declared ones
past-first : (names : Declared) (number : ℕ) → get_or (None ∷ names) number None ≡ (if number == 0 then None else get_or names (number - 1) None)
past-first names zero = refl
past-first names (suc number) =
    let other : (suc number == 0) ≡ false = ne_eqb (suc number) 0 (λ (e : suc number ≡ 0). omega arith) in
    let back : suc number - 1 ≡ number = omega arith in
    rw (other, back) refl

-- the names of the table are those of the shader
pub named-is : (unit : shader.Unit) (held items : List Item) (entries : List ℕ) → held ≡ items → items ≡ unit.items
    → map (of_entry held) entries ≡ None ∷ names_from [] items
    → (let named : ℕ → Option Named = λ number. of_entry held (slice_index_or entries number 0) in named) ≡ named_at unit
unfolding named_at names_of
named-is unit held items entries same all e =
    fun_ext (λ (number : ℕ). entry-is held entries number
    ∙ ap (λ (names : Declared). get_or names number None) (e ∙ ap (λ (i : List Item). let names : Declared = None ∷ names_from [] i in names) all)
    ∙ past-first (names_from [] unit.items) number)

-- the result says what a walk comes to
pub verdict-is : (outcome : Result Ahead ℕ) (after : ahead.Ahead) (result : Result (Unit {0}) Rule) → Goes outcome after result → rule_of result ≡ broken outcome
verdict-is outcome after (Ok x) e = sym (ap broken e)
verdict-is outcome after (Err r) e = sym (ap broken e)

same-site : (n m : ℕ → Option Named) (s t : Stage) (k l : List ℕ) (h i : Option (List ℕ)) → n ≡ m → s ≡ t → k ≡ l → h ≡ i
    → (let x : Site = record { named = n; stage = s; loops = k; header = h } in x) ≡ (let y : Site = record { named = m; stage = t; loops = l; header = i } in y)
same-site n m s t k l h i p q r o = cc

-- the walk over all of a shader
pub limits-is : (unit : shader.Unit) (facts : Facts) (stage : Stage) (items : List Item) (site : Site) (a : Ahead) (after : ahead.Ahead)
    (result : Result (Unit {0}) Rule) → items ≡ unit.items
    → site.named ≡ named_at unit → site.stage ≡ stage → site.loops ≡ [] → site.header ≡ None → a ≡ facts_ahead facts
    → Goes (in_order (map item_passage items) site a) after result → rule_of result ≡ limits unit facts stage
unfolding limits
limits-is unit facts stage items site a after result all named staged loops header same goes =
    let walk : List Item → Site → Ahead → Result Ahead ℕ = λ is. in_order (map item_passage is) in
    let at : site ≡ outside unit stage = same-site site.named (named_at unit) site.stage stage site.loops [] site.header None named staged loops header in
    verdict-is (walk items site a) after result goes
    ∙ ap (λ (is : List Item). broken (walk is site a)) all
    ∙ ap (λ (s : Site). broken (walk unit.items s a)) at
    ∙ ap (λ (b : Ahead). broken (walk unit.items (outside unit stage) b)) same
