-- The first rule that is broken, as far as the rules were judged.
use Rattle.std.proofs.Common.{◌≡◌, ℕ, ◌+◌, ◌*◌, ◌≤◌, Bool, true, false, Option, Some, None, List, [], ◌∷◌, ◌++◌, map, filter, refl, sym, ap, ◌∙◌, arith}
use Rattle.std.specs.Prelude.{is_some, not, ◌&&◌, if◌then◌else◌, unwrap_or}
use Rattle.std.proofs.lemmas.List.{map-append}
use Rattle.std.proofs.lemmas.List.Sums.{sum_by-cons}
use Rattle.glsl_types.specs.Bases.{is_sampler}
use Rattle.glsl_types.specs.declared.interface.Interface.{Interface}
use Rattle.glsl_types.specs.declared.interface.Item.{Item}
use Rattle.glsl_types.specs.declared.types.Struct.{Struct}
use Rattle.uniform_values.specs.Layout.{elements}
use Rattle.program_link.specs.declared.leaves.Leaf.{Leaf}
use Rattle.program_link.specs.Answers.{interface_rules, uniform_rules}
use Rattle.program_link.specs.Flattening.{elements_of}
use Rattle.program_link.specs.Items.{active_leaves, alone_leaves, is_alone, is_used, leaves, used, used_leaves}
use Rattle.program_link.specs.Kept.{kept_leaf}
use Rattle.program_link.specs.Linked.{Linked, at_locations, at_slots, linked}
use Rattle.program_link.specs.Locations.{Bound, locations}
use Rattle.program_link.specs.Rules.{attributes_clash, exceed_samplers, first_broken, link_rules, name_too_long, names_too_long, samplers_among, too_many_samplers, uniforms_differ, uniforms_lack_room, varyings_differ, varyings_lack_room}
use Rattle.program_link.proofs.Rooms.{elements-append, elements-kept, elements-leaves}
use Rattle.program_link.proofs.Slots.{kept-all, names-kept, names-uniforms}

-- the rules on the interfaces
pub differ-4 : (v f : Interface) → varyings_differ v f ≡ true → first_broken (interface_rules v f) ≡ Some 4
differ-4 v f is = ap (λ c. if c then Some 4 else (if uniforms_differ v f then Some 5 else None)) is

pub differ-5 : (v f : Interface) → varyings_differ v f ≡ false → uniforms_differ v f ≡ true
    → first_broken (interface_rules v f) ≡ Some 5
differ-5 v f same is = λ i. if same i then Some 4 else (if is i then Some 5 else None)

pub differ-none : (v f : Interface) → varyings_differ v f ≡ false → uniforms_differ v f ≡ false
    → first_broken (interface_rules v f) ≡ None
differ-none v f same is = λ i. if same i then Some 4 else (if is i then Some 5 else None)

pub ruleset of_differing = (differ-4, differ-5, differ-none)

-- the rules on uniforms
pub broken-8 : (v f : Interface) → uniforms_lack_room 256 v ≡ true → first_broken (uniform_rules v f) ≡ Some 8
broken-8 v f is =
    ap (λ c. if c then Some 8 else (if uniforms_lack_room 224 f then Some 9 else (if too_many_samplers v f then Some 10 else None))) is

pub broken-9 : (v f : Interface) → uniforms_lack_room 256 v ≡ false → uniforms_lack_room 224 f ≡ true
    → first_broken (uniform_rules v f) ≡ Some 9
broken-9 v f first is =
    λ i. if first i then Some 8 else (if is i then Some 9 else (if too_many_samplers v f then Some 10 else None))

samplers-kept : (ls : List Leaf) → samplers_among (map kept_leaf ls) ≡ samplers_among ls
samplers-kept [] = refl
samplers-kept (l ∷ ls) =
    sum_by-cons (λ leaf. if is_sampler leaf.kind.base then elements leaf.kind else 0) (kept_leaf l) (map kept_leaf ls)
    ∙ ap (λ n. (if is_sampler l.kind.base then elements l.kind else 0) + n) (samplers-kept ls)
    ∙ sym (sum_by-cons (λ leaf. if is_sampler leaf.kind.base then elements leaf.kind else 0) l ls)

exceed-kept : (v f : Interface) (in_vertex in_fragment : List Leaf) → in_vertex ≡ map kept_leaf (used_leaves v)
    → in_fragment ≡ map kept_leaf (used_leaves f)
    → exceed_samplers (samplers_among in_vertex) (samplers_among in_fragment) ≡ too_many_samplers v f
exceed-kept v f in_vertex in_fragment first second =
    λ i. exceed_samplers ((ap (λ l. samplers_among l) first ∙ samplers-kept (used_leaves v)) i)
    ((ap (λ l. samplers_among l) second ∙ samplers-kept (used_leaves f)) i)

pub broken-10 : (v f : Interface) (in_vertex in_fragment : List Leaf) → uniforms_lack_room 256 v ≡ false
    → uniforms_lack_room 224 f ≡ false → in_vertex ≡ map kept_leaf (used_leaves v) → in_fragment ≡ map kept_leaf (used_leaves f)
    → exceed_samplers (samplers_among in_vertex) (samplers_among in_fragment) ≡ true → first_broken (uniform_rules v f) ≡ Some 10
broken-10 v f in_vertex in_fragment first second vertex fragment many =
    let is : too_many_samplers v f ≡ true = sym (exceed-kept v f in_vertex in_fragment vertex fragment) ∙ many in
    λ i. if first i then Some 8 else (if second i then Some 9 else (if is i then Some 10 else None))

pub broken-none : (v f : Interface) (in_vertex in_fragment : List Leaf) → uniforms_lack_room 256 v ≡ false
    → uniforms_lack_room 224 f ≡ false → in_vertex ≡ map kept_leaf (used_leaves v) → in_fragment ≡ map kept_leaf (used_leaves f)
    → exceed_samplers (samplers_among in_vertex) (samplers_among in_fragment) ≡ false → first_broken (uniform_rules v f) ≡ None
broken-none v f in_vertex in_fragment first second vertex fragment few =
    let is : too_many_samplers v f ≡ false = sym (exceed-kept v f in_vertex in_fragment vertex fragment) ∙ few in
    λ i. if first i then Some 8 else (if second i then Some 9 else (if is i then Some 10 else None))

-- the active uniforms
pub active-found : (v f : Interface) (declared : List Item) (structs : List Struct) (uniforms : List Item) (in_vertex active : List Leaf)
    → declared ≡ v.uniforms → structs ≡ f.structs → uniforms ≡ f.uniforms → in_vertex ≡ map kept_leaf (used_leaves v)
    → active ≡ in_vertex ++ map kept_leaf (leaves structs (filter (is_alone declared) uniforms))
    → active ≡ map kept_leaf (active_leaves v f)
active-found v f declared structs uniforms in_vertex active own theirs their_uniforms vertex is =
    is ∙ (λ i. vertex i ++ map kept_leaf (leaves (theirs i) (filter (is_alone (own i)) (their_uniforms i))))
    ∙ sym (map-append kept_leaf (used_leaves v) (alone_leaves v f))

fewer-by : (used other : Bool) (structs : List Struct) (item : Item) (few all : List Item)
    → elements_of (leaves structs few) ≤ elements_of (leaves structs all)
    → elements_of (leaves structs (if used && not other then item ∷ few else few))
    ≤ elements_of (leaves structs (if used then item ∷ all else all))
fewer-by true true structs item few all less = omega (arith, less, elements-leaves structs item all)
fewer-by true false structs item few all less =
    omega (arith, less, elements-leaves structs item all, elements-leaves structs item few)
fewer-by false other structs item few all less = less

alone-fewer : (others : List Item) (structs : List Struct) (items : List Item)
    → elements_of (leaves structs (filter (is_alone others) items)) ≤ elements_of (leaves structs (used items))
alone-fewer others structs [] = omega arith
alone-fewer others structs (item ∷ items) =
    fewer-by item.used (is_used others item.name) structs item (filter (is_alone others) items) (used items)
    (alone-fewer others structs items)

pub active-few : (f : Interface) (others uniforms : List Item) (structs : List Struct) (in_vertex in_fragment active : List Leaf)
    → structs ≡ f.structs → uniforms ≡ f.uniforms → elements_of in_vertex ≤ 4 * 256 → elements_of in_fragment ≤ 4 * 224
    → in_fragment ≡ map kept_leaf (used_leaves f)
    → active ≡ in_vertex ++ map kept_leaf (leaves structs (filter (is_alone others) uniforms)) → elements_of active ≤ 65536
active-few f others uniforms structs in_vertex in_fragment active theirs their_uniforms first second is added =
    let own : elements_of in_fragment ≡ elements_of (used_leaves f) = ap (λ l. elements_of l) is ∙ elements-kept (used_leaves f) in
    let alone : List Leaf = leaves structs (filter (is_alone others) uniforms) in
    let all : elements_of active ≡ elements_of in_vertex + elements_of (map kept_leaf alone) =
    ap (λ l. elements_of l) added ∙ elements-append in_vertex (map kept_leaf alone) in
    let fewer : elements_of alone ≤ elements_of (leaves structs (used uniforms)) = alone-fewer others structs uniforms in
    let same : elements_of (leaves structs (used uniforms)) ≡ elements_of (used_leaves f) =
    λ i. elements_of (leaves (theirs i) (used (their_uniforms i))) in
    omega (arith, first, second, own, all, fewer, same, elements-kept alone)

pub ruleset of_active = (broken-8, broken-9, broken-10, broken-none, active-found, active-few)

-- all rules
abbrev of_two : Bool → Bool → Option ℕ → Option ℕ
of_two a b rest = if a then Some 4 else (if b then Some 5 else rest)

abbrev of_three : Bool → Bool → Bool → Option ℕ → Option ℕ
of_three a b c rest = if a then Some 8 else (if b then Some 9 else (if c then Some 10 else rest))

past-two : (a b : Bool) (rest : Option ℕ) → of_two a b None ≡ None → of_two a b rest ≡ rest
past-two true b rest e = absurd cc
past-two false true rest e = absurd cc
past-two false false rest e = refl

in-two : (a b : Bool) (rest : Option ℕ) (n : ℕ) → of_two a b None ≡ Some n → of_two a b rest ≡ Some n
in-two true b rest n e = e
in-two false true rest n e = e
in-two false false rest n e = absurd cc

past-three : (a b c : Bool) (rest : Option ℕ) → of_three a b c None ≡ None → of_three a b c rest ≡ rest
past-three true b c rest e = absurd cc
past-three false true c rest e = absurd cc
past-three false false true rest e = absurd cc
past-three false false false rest e = refl

in-three : (a b c : Bool) (rest : Option ℕ) (n : ℕ) → of_three a b c None ≡ Some n → of_three a b c rest ≡ Some n
in-three true b c rest n e = e
in-three false true c rest n e = e
in-three false false true rest n e = e
in-three false false false rest n e = absurd cc

pub linked-differ : (v f : Interface) (bound : Bound) (n : ℕ) → Some n ≡ first_broken (interface_rules v f)
    → first_broken (link_rules v f bound) ≡ Some n
linked-differ v f bound n is = in-two (varyings_differ v f) (uniforms_differ v f) _ n (sym is)

past-interfaces : (v f : Interface) (bound : Bound) → None ≡ first_broken (interface_rules v f)
    → first_broken (link_rules v f bound)
    ≡ (if attributes_clash v bound then Some 6
    else (if varyings_lack_room f then Some 7
    else (if uniforms_lack_room 256 v then Some 8
    else (if uniforms_lack_room 224 f then Some 9
    else (if too_many_samplers v f then Some 10 else (if name_too_long v f then Some 11 else None))))))
past-interfaces v f bound is = past-two (varyings_differ v f) (uniforms_differ v f) _ (sym is)

pub linked-clash : (v f : Interface) (bound : Bound) → None ≡ first_broken (interface_rules v f)
    → None ≡ locations bound (used v.attributes) → first_broken (link_rules v f bound) ≡ Some 6
linked-clash v f bound differ none =
    past-interfaces v f bound differ
    ∙ ap (λ o. if not (is_some o) then Some 6 else (if varyings_lack_room f then Some 7 else (if uniforms_lack_room 256 v then Some 8
    else (if uniforms_lack_room 224 f then Some 9
    else (if too_many_samplers v f then Some 10 else (if name_too_long v f then Some 11 else None)))))) (sym none)

past-attributes : (v f : Interface) (bound : Bound) (found : List ℕ) → None ≡ first_broken (interface_rules v f)
    → Some found ≡ locations bound (used v.attributes) → first_broken (link_rules v f bound)
    ≡ (if varyings_lack_room f then Some 7 else (if uniforms_lack_room 256 v then Some 8
    else (if uniforms_lack_room 224 f then Some 9
    else (if too_many_samplers v f then Some 10 else (if name_too_long v f then Some 11 else None)))))
past-attributes v f bound found differ some =
    past-interfaces v f bound differ
    ∙ ap (λ o. if not (is_some o) then Some 6 else (if varyings_lack_room f then Some 7 else (if uniforms_lack_room 256 v then Some 8
    else (if uniforms_lack_room 224 f then Some 9
    else (if too_many_samplers v f then Some 10 else (if name_too_long v f then Some 11 else None)))))) (sym some)

pub linked-varyings : (v f : Interface) (bound : Bound) (found : List ℕ) → None ≡ first_broken (interface_rules v f)
    → Some found ≡ locations bound (used v.attributes) → varyings_lack_room f ≡ true → first_broken (link_rules v f bound) ≡ Some 7
linked-varyings v f bound found differ some lack =
    past-attributes v f bound found differ some
    ∙ ap (λ c. if c then Some 7 else (if uniforms_lack_room 256 v then Some 8 else (if uniforms_lack_room 224 f then Some 9
    else (if too_many_samplers v f then Some 10 else (if name_too_long v f then Some 11 else None))))) lack

past-varyings : (v f : Interface) (bound : Bound) (found : List ℕ) → None ≡ first_broken (interface_rules v f)
    → Some found ≡ locations bound (used v.attributes) → varyings_lack_room f ≡ false → first_broken (link_rules v f bound)
    ≡ (if uniforms_lack_room 256 v then Some 8 else (if uniforms_lack_room 224 f then Some 9
    else (if too_many_samplers v f then Some 10 else (if name_too_long v f then Some 11 else None))))
past-varyings v f bound found differ some fit =
    past-attributes v f bound found differ some
    ∙ ap (λ c. if c then Some 7 else (if uniforms_lack_room 256 v then Some 8 else (if uniforms_lack_room 224 f then Some 9
    else (if too_many_samplers v f then Some 10 else (if name_too_long v f then Some 11 else None))))) fit

pub linked-uniforms : (v f : Interface) (bound : Bound) (found : List ℕ) (n : ℕ) → None ≡ first_broken (interface_rules v f)
    → Some found ≡ locations bound (used v.attributes) → varyings_lack_room f ≡ false → first_broken (uniform_rules v f) ≡ Some n
    → first_broken (link_rules v f bound) ≡ Some n
linked-uniforms v f bound found n differ some fit is =
    past-varyings v f bound found differ some fit
    ∙ in-three (uniforms_lack_room 256 v) (uniforms_lack_room 224 f) (too_many_samplers v f) _ n is

past-uniforms : (v f : Interface) (bound : Bound) (found : List ℕ) → None ≡ first_broken (interface_rules v f)
    → Some found ≡ locations bound (used v.attributes) → varyings_lack_room f ≡ false → first_broken (uniform_rules v f) ≡ None
    → first_broken (link_rules v f bound) ≡ (if name_too_long v f then Some 11 else None)
past-uniforms v f bound found differ some fit is =
    past-varyings v f bound found differ some fit
    ∙ past-three (uniforms_lack_room 256 v) (uniforms_lack_room 224 f) (too_many_samplers v f) _ is

long-active : (v f : Interface) (active : List Leaf) → active ≡ map kept_leaf (active_leaves v f)
    → names_too_long (used v.attributes) active ≡ name_too_long v f
long-active v f active is =
    ap (names_too_long (used v.attributes)) is ∙ names-kept (used v.attributes) (active_leaves v f)

pub linked-long : (v f : Interface) (bound : Bound) (found : List ℕ) (active : List Leaf) → None ≡ first_broken (interface_rules v f)
    → Some found ≡ locations bound (used v.attributes) → varyings_lack_room f ≡ false → first_broken (uniform_rules v f) ≡ None
    → active ≡ map kept_leaf (active_leaves v f) → names_too_long (used v.attributes) active ≡ true
    → first_broken (link_rules v f bound) ≡ Some 11
linked-long v f bound found active differ some fit uniforms is long =
    past-uniforms v f bound found differ some fit uniforms
    ∙ ap (λ c. if c then Some 11 else None) (sym (long-active v f active is) ∙ long)

pub linked-none : (v f : Interface) (bound : Bound) (found : List ℕ) (active : List Leaf) → None ≡ first_broken (interface_rules v f)
    → Some found ≡ locations bound (used v.attributes) → varyings_lack_room f ≡ false → first_broken (uniform_rules v f) ≡ None
    → active ≡ map kept_leaf (active_leaves v f) → names_too_long (used v.attributes) active ≡ false
    → first_broken (link_rules v f bound) ≡ None
linked-none v f bound found active differ some fit uniforms is short =
    past-uniforms v f bound found differ some fit uniforms
    ∙ ap (λ c. if c then Some 11 else None) (sym (long-active v f active is) ∙ short)

-- varyings that have room
pub has-room : (x lack : Bool) → x ≡ not lack → x ≡ true → lack ≡ false
has-room x true e is = absurd cc
has-room x false e is = refl

-- what is made
pub linked-made : (v f : Interface) (bound : Bound) (found : List ℕ) (active : List Leaf)
    → Some found ≡ locations bound (used v.attributes) → active ≡ map kept_leaf (active_leaves v f)
    → names_too_long (used v.attributes) active ≡ false
    → (let made : Linked = record { attributes = at_locations (used v.attributes) found; uniforms = at_slots 0 active } in made)
    ≡ linked v f bound
linked-made v f bound found active some is short =
    let whole : active ≡ active_leaves v f =
    is ∙ kept-all (active_leaves v f)
    (names-uniforms (used v.attributes) (active_leaves v f) (sym (names-kept (used v.attributes) (active_leaves v f))
    ∙ ap (names_too_long (used v.attributes)) (sym is) ∙ short)) in
    λ i. (let made : Linked =
    record { attributes = at_locations (used v.attributes) (unwrap_or (some i) []); uniforms = at_slots 0 (whole i) } in made)

pub ruleset of_linked = (
  linked-differ,
  linked-clash,
  linked-varyings,
  linked-uniforms,
  linked-long,
  linked-none,
  linked-made,
)
