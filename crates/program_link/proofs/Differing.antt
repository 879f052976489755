-- Items that are declared otherwise in the other shader, as far as a walk has come.
use Rattle.std.proofs.Common.{◌≡◌, ℕ, ◌+◌, ◌<◌, ◌≤◌, Bool, true, false, List, length, drop, get_or, ap, ◌∙◌}
use Rattle.std.specs.Prelude.{◌||◌}
use Rattle.std.specs.List.{list_any}
use Rattle.std.proofs.lemmas.List.{drop_all, drop_more}
use mathlib.Core.Path.{fun_ext}
use Rattle.glsl_types.specs.declared.interface.Interface.{Interface}
use Rattle.glsl_types.specs.declared.interface.Item.{Item}
use Rattle.program_link.specs.Items.{named}
use Rattle.program_link.specs.Rules.{uniform_differs, uniforms_differ, varying_differs, varyings_differ}
use Rattle.program_link.specs.SameTypes.{same_across}
use Rattle.program_link.specs.Shapes.{Tell, same_by_numbers}

-- an item passes the test, or it doesn't, or none is left
pub any-step : (p : Item → Bool) (items : List Item) (i : ℕ) (d : Item) → i < length items → p (get_or items i d) ≡ false
    → list_any p (drop i items) ≡ list_any p (drop (i + 1) items)
any-step p items i d within fails =
    ap (list_any p) (drop_more items i d within) ∙ ap (λ b. b || list_any p (drop (i + 1) items)) fails

pub any-found : (p : Item → Bool) (items : List Item) (i : ℕ) (d : Item) → i < length items → p (get_or items i d) ≡ true
    → list_any p (drop i items) ≡ true
any-found p items i d within passes =
    ap (list_any p) (drop_more items i d within) ∙ ap (λ b. b || list_any p (drop (i + 1) items)) passes

pub any-end : (p : Item → Bool) (items : List Item) (i : ℕ) → length items ≤ i → list_any p (drop i items) ≡ false
any-end p items i past = ap (list_any p) (drop_all i items past)

pub ruleset of_any = (any-step, any-found, any-end)

same-tests : (ones others : List ℕ) (v f : Interface) → Tell ones others v.structs f.structs
    → same_by_numbers ones others ≡ same_across v.structs f.structs
same-tests ones others v f tell = fun_ext (λ a. fun_ext (λ b. tell a b))

-- by the numbers of shapes as by the definition
pub varyings-told : (ones others : List ℕ) (v f : Interface) (declared items : List Item) → Tell ones others v.structs f.structs
    → declared ≡ v.varyings → items ≡ f.varyings
    → list_any (λ item. varying_differs (same_by_numbers ones others) item (named declared item.name)) items ≡ varyings_differ v f
varyings-told ones others v f declared items tell own theirs =
    λ i. list_any (λ item. varying_differs (same-tests ones others v f tell i) item (named (own i) item.name)) (theirs i)

pub uniforms-told : (ones others : List ℕ) (v f : Interface) (declared items : List Item) → Tell ones others v.structs f.structs
    → declared ≡ v.uniforms → items ≡ f.uniforms
    → list_any (λ item. uniform_differs (same_by_numbers ones others) item (named declared item.name)) items ≡ uniforms_differ v f
uniforms-told ones others v f declared items tell own theirs =
    λ i. list_any (λ item. uniform_differs (same-tests ones others v f tell i) item (named (own i) item.name)) (theirs i)

pub ruleset of_differing = (varyings-told, uniforms-told)
