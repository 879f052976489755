-- Things by name: what a new name adds, and the thing at the place that was found.
use Rattle.std.proofs.Common.{◌≡◌, ◌⊎◌, ℕ, ◌+◌, ◌-◌, ◌<◌, ◌≤◌, suc, Bool, true, false, Option, Some, None, List, [], ◌∷◌, ◌++◌, length, map, take, get_or, refl, sym, ap, subst, ◌∙◌, append_assoc, arith, cond, inl, inr}
use Rattle.std.specs.Prelude.{IfSome, Vec, if◌then◌else◌, is_some, ltb, slice_get}
use Rattle.std.specs.Borrow.{Bor}
use Rattle.std.specs.declared.alloc.Global.{Global}
use Rattle.std.specs.List.{find, flat_map, position_from, range_with_len}
use Rattle.std.proofs.lemmas.List.{flat_map_more, length-take-le, map_more, take_all, take_more}
use Rattle.std.proofs.lemmas.Option.{slice_get-get_or, slice_get_past}
use Rattle.std.proofs.lemmas.List.FromFn.{map-range_with_len_more}
use Rattle.std.specs.Option.{option_copied, option_or}
use Rattle.std.specs.Str.{bytes_eq}
use Rattle.indexmap.specs.IndexMap.{insert_entry}
use Rattle.std.proofs.lemmas.Grind.{common_steps}
use Rattle.glsl_types.specs.declared.interface.Item.{Item}
use Rattle.program_link.specs.declared.active.Attribute.{Attribute}
use Rattle.program_link.specs.declared.active.Uniform.{Uniform}
use Rattle.program_link.specs.Flattening.{element_name}
use Rattle.program_link.specs.Linked.{number_named, slot_names}
use Rattle.program_link.specs.Places.{Entries, EntriesOf, FindsItems, HasNumbers, place_after, place_of_name}

or-later : {V : Type 0} (b : Bool) (v : V) (o p : Option V) → cond b (Some v) (option_or o p) ≡ option_or (cond b (Some v) o) p
or-later true v o p = refl
or-later false v o p = refl

-- an entry at the end
pub place-pushed : {V : Type 0} (entries : EntriesOf V) (key : Vec ℕ Global) (place : V) (q : List ℕ)
    → place_of_name (entries ++ (key, place) ∷ []) q ≡ place_after entries key.items place q
place-pushed [] key place q = refl
place-pushed (e ∷ entries) key place q =
    ap (cond (bytes_eq q e.0.items) (Some e.1)) (place-pushed entries key place q)
    ∙ or-later (bytes_eq q e.0.items) e.1 (place_of_name entries q) (if bytes_eq q key.items then Some place else None)

from-pushed : {A : Type 0} (test : A → Bool) (at : ℕ) (xs : List A) (y : A)
    → position_from test at (xs ++ y ∷ []) ≡ option_or (position_from test at xs) (if test y then Some (at + length xs) else None)
from-pushed test at [] y = let same : at + 0 ≡ at = omega arith in rw same refl
from-pushed test at (x ∷ xs) y =
    let same : at + 1 + length xs ≡ at + suc (length xs) = omega arith in
    ap (cond (test x) (Some at)) (rw same at (from-pushed test (at + 1) xs y))
    ∙ or-later (test x) at (position_from test (at + 1) xs) (if test y then Some (at + suc (length xs)) else None)

-- one more thing has its place, if none before it has its name
pub finds-step : (entries new : Entries) (things : List Item) (i : ℕ) (d : Item) → i < length things
    → ((q : List ℕ) → place_of_name new q ≡ place_after entries (get_or things i d).name i q) → FindsItems entries (take i things)
    → FindsItems new (take (i + 1) things)
finds-step entries new things i d within added so_far q =
    let more : take (i + 1) things ≡ take i things ++ get_or things i d ∷ [] = take_more things i d within in
    let size : length (take i things) ≡ i = length-take-le i things (omega (arith, within)) in
    let from : position_from (λ thing. bytes_eq q (thing.name)) 0 (take i things ++ get_or things i d ∷ [])
    ≡ option_or (position_from (λ thing. bytes_eq q (thing.name)) 0 (take i things))
    (if bytes_eq q ((get_or things i d).name) then Some (0 + length (take i things)) else None) =
    from-pushed (λ thing. bytes_eq q (thing.name)) 0 (take i things) (get_or things i d) in
    let zeroth : 0 + i ≡ i = omega arith in
    added q ∙ ap (λ o. option_or o (if bytes_eq q ((get_or things i d).name) then Some i else None)) (so_far q)
    ∙ sym (ap (position_from (λ thing. bytes_eq q (thing.name)) 0) more ∙ (rw (size, zeroth) at from))

-- which of the two a choice gave
cond-some : (b : Bool) (at place : ℕ) (o : Option ℕ) → cond b (Some at) o ≡ Some place
    → ((b ≡ true) × (at ≡ place)) ⊎ ((b ≡ false) × (o ≡ Some place))
cond-some true at place o e = inl (refl, cc)
cond-some false at place o e = inr (refl, e)

cond-none : (b : Bool) (at : ℕ) (o : Option ℕ) → cond b (Some at) o ≡ None → (b ≡ false) × (o ≡ None)
cond-none true at o e = absurd cc
cond-none false at o e = (refl, e)

-- the thing at the place that was found is the first that passes
found-at : {A : Type 0} (test : A → Bool) (at : ℕ) (xs : List A) (place : ℕ) → position_from test at xs ≡ Some place
    → (at ≤ place) × (find test xs ≡ slice_get xs (place - at))
found-at test at [] place e = absurd cc
found-at test at (x ∷ xs) place e =
    elim (cond-some (test x) at place (position_from test (at + 1) xs) e) [
      | inl here ↦ let none : place - at ≡ 0 = omega (arith, here.1) in (omega (arith, here.1), rw (here.0, none) refl)
      | inr later ↦
          let rest = found-at test (at + 1) xs place later.1 in
          let one : place - at ≡ suc (place - (at + 1)) = omega (arith, rest.0) in
          (omega (arith, rest.0), rw (later.0, one) rest.1)
    ]

found-none : {A : Type 0} (test : A → Bool) (at : ℕ) (xs : List A) → position_from test at xs ≡ None → find test xs ≡ None
found-none test at [] e = refl
found-none test at (x ∷ xs) e =
    let both = cond-none (test x) at (position_from test (at + 1) xs) e in rw both.0 (found-none test (at + 1) xs both.1)

-- what a name finds
pub find-placed : (entries : Entries) (things : List Item) (q : List ℕ) (place : ℕ)
    → FindsItems entries things → place_of_name entries q ≡ Some place
    → find (λ thing. bytes_eq q thing.name) things ≡ slice_get things place
find-placed entries things q place finds there =
    let zeroth : place - 0 ≡ place = omega arith in
    rw zeroth at ((found-at (λ thing. bytes_eq q thing.name) 0 things place (sym (finds q) ∙ there)).1)

pub find-unplaced : (entries : Entries) (things : List Item) (q : List ℕ)
    → FindsItems entries things → place_of_name entries q ≡ None → find (λ thing. bytes_eq q thing.name) things ≡ None
find-unplaced entries things q finds there = found-none (λ thing. bytes_eq q thing.name) 0 things (sym (finds q) ∙ there)

-- what a list has at a place
pub got : {A : Type 0} (r : Option (Bor A)) (xs : List A) (i : ℕ) → is_some r ≡ ltb i (length xs)
    → IfSome r (λ x. x.now ≡ get_or xs i x.now) → option_copied r ≡ slice_get xs i
got None xs i there own = sym (slice_get_past xs i (grind (arith, common_steps, there)))
got (Some x) xs i there own =
    let within : i < length xs = grind (arith, common_steps, there) in
    ap Some own ∙ sym (slice_get-get_or xs i x.now within)

-- nothing was found
pub is-none : {V : Type 0} (r : Option (Bor V)) (o : Option V) → option_copied r ≡ o → is_some r ≡ false → o ≡ None
is-none None o is none = sym is
is-none (Some x) o is none = absurd cc

last-by : {V : Type 0} (b : Bool) (e : Vec ℕ Global × V) (x xs ys : List (Vec ℕ Global × V)) → b ≡ false → xs ≡ ys
    → (if b then x else e ∷ xs) ≡ e ∷ ys
last-by true e x xs ys is same = absurd cc
last-by false e x xs ys is same = ap (λ l. e ∷ l) same

none-first : {V : Type 0} (b : Bool) (v : V) (o : Option V) → cond b (Some v) o ≡ None → (b ≡ false) × (o ≡ None)
none-first true v o e = absurd cc
none-first false v o e = (refl, e)

-- a name that had no value goes last
pub placed-last : {V : Type 0} (entries : EntriesOf V) (key : Vec ℕ Global) (v : V) → place_of_name entries key.items ≡ None
    → insert_entry (λ a b. bytes_eq a.items b.items) entries key v ≡ entries ++ (key, v) ∷ []
placed-last [] key v none = refl
placed-last (e ∷ entries) key v none =
    let both = none-first (bytes_eq key.items e.0.items) e.1 (place_of_name entries key.items) none in
    last-by (bytes_eq key.items e.0.items) e ((e.0, v) ∷ entries)
    (insert_entry (λ a b. bytes_eq a.items b.items) entries key v) (entries ++ (key, v) ∷ []) both.0 (placed-last entries key v both.1)

pub name-placed : {V : Type 0} (entries new : EntriesOf V) (key : Vec ℕ Global) (name : List ℕ) (v : V) → key.items ≡ name
    → place_of_name entries name ≡ None → new ≡ insert_entry (λ a b. bytes_eq a.items b.items) entries key v
    → (q : List ℕ) → place_of_name new q ≡ place_after entries name v q
name-placed entries new key name v is none added q =
    ap (λ l. place_of_name l q) (added ∙ placed-last entries key v (ap (place_of_name entries) is ∙ none))
    ∙ place-pushed entries key v q ∙ ap (λ n. place_after entries n v q) is

pub ruleset of_names = (place-pushed, finds-step, find-placed, find-unplaced)

-- a number at the end of a list of names with numbers
numbers-pushed : (pairs : List (List ℕ × ℕ)) (name : List ℕ) (n : ℕ) (q : List ℕ)
    → number_named (pairs ++ (name, n) ∷ []) q ≡ option_or (number_named pairs q) (if bytes_eq q name then Some n else None)
numbers-pushed [] name n q = refl
numbers-pushed (p ∷ pairs) name n q =
    ap (cond (bytes_eq q p.0) (Some p.1)) (numbers-pushed pairs name n q)
    ∙ or-later (bytes_eq q p.0) p.1 (number_named pairs q) (if bytes_eq q name then Some n else None)

-- one more name has its number, if it had none
pub number-added : (entries new : Entries) (pairs : List (List ℕ × ℕ)) (name : List ℕ) (n : ℕ)
    → ((q : List ℕ) → place_of_name new q ≡ place_after entries name n q) → HasNumbers entries pairs
    → HasNumbers new (pairs ++ (name, n) ∷ [])
number-added entries new pairs name n added so_far q =
    added q ∙ ap (λ o. option_or o (if bytes_eq q name then Some n else None)) (so_far q) ∙ sym (numbers-pushed pairs name n q)

-- no name has a number yet
pub numbers-start : (entries : Entries) → entries ≡ [] → HasNumbers entries []
numbers-start entries none q = ap (λ l. place_of_name l q) none

-- the locations of attributes
pub location-step : (entries new : Entries) (attributes : List Attribute) (i : ℕ) (d : Attribute) → i < length attributes
    → d ≡ get_or attributes i d → ((q : List ℕ) → place_of_name new q ≡ place_after entries d.name d.location q)
    → HasNumbers entries (map (λ a. (a.name, a.location)) (take i attributes))
    → HasNumbers new (map (λ a. (a.name, a.location)) (take (i + 1) attributes))
location-step entries new attributes i d within is added so_far =
    let more : map (λ (a : Attribute). (a.name, a.location)) (take (i + 1) attributes)
    ≡ map (λ (a : Attribute). (a.name, a.location)) (take i attributes) ++ (d.name, d.location) ∷ [] =
    map_more (λ (a : Attribute). (a.name, a.location)) attributes i d within
    ∙ ap (λ (a : Attribute). map (λ (a : Attribute). (a.name, a.location)) (take i attributes) ++ (a.name, a.location) ∷ []) (sym is) in
    subst (HasNumbers new) (sym more)
    (number-added entries new (map (λ a. (a.name, a.location)) (take i attributes)) d.name d.location added so_far)

pub location-end : (entries : Entries) (attributes : List Attribute) (i : ℕ) → length attributes ≤ i
    → HasNumbers entries (map (λ a. (a.name, a.location)) (take i attributes))
    → HasNumbers entries (map (λ a. (a.name, a.location)) attributes)
location-end entries attributes i past so_far =
    subst (λ l. HasNumbers entries (map (λ (a : Attribute). (a.name, a.location)) l)) (take_all i attributes past) so_far

pub ruleset of_pairs = (numbers-start, location-step, location-end)

-- the slots of uniforms
pub slots-step : (entries new : Entries) (uniforms : List Uniform) (i : ℕ) (d : Uniform) → i < length uniforms
    → d ≡ get_or uniforms i d
    → ((pairs : List (List ℕ × ℕ)) → HasNumbers entries pairs → HasNumbers new (pairs ++ slot_names d))
    → HasNumbers entries (flat_map slot_names (take i uniforms)) → HasNumbers new (flat_map slot_names (take (i + 1) uniforms))
slots-step entries new uniforms i d within is added so_far =
    let more : flat_map slot_names (take i uniforms) ++ slot_names d ≡ flat_map slot_names (take (i + 1) uniforms) =
    flat_map_more slot_names [] (take i uniforms) d
    ∙ ap (flat_map slot_names) (ap (λ u. take i uniforms ++ u ∷ []) is ∙ sym (take_more uniforms i d within)) in
    subst (HasNumbers new) more (added (flat_map slot_names (take i uniforms)) so_far)

pub slots-end : (entries : Entries) (uniforms : List Uniform) (i : ℕ) → length uniforms ≤ i
    → HasNumbers entries (flat_map slot_names (take i uniforms)) → HasNumbers entries (flat_map slot_names uniforms)
slots-end entries uniforms i past so_far =
    subst (λ l. HasNumbers entries (flat_map slot_names l)) (take_all i uniforms past) so_far

pub ruleset of_slots = (numbers-start, slots-step, slots-end)

-- the slots of a uniform, those of its first elements
abbrev pub first_names : Uniform → ℕ → List (List ℕ × ℕ)
first_names u n = (u.name, u.first) ∷ map (λ k. (element_name u.name k, u.first + k)) (range_with_len 0 n)

pub elements-start : (entries new : Entries) (u : Uniform) (pairs : List (List ℕ × ℕ))
    → ((q : List ℕ) → place_of_name new q ≡ place_after entries u.name u.first q) → HasNumbers entries pairs
    → HasNumbers new (pairs ++ first_names u 0)
elements-start entries new u pairs added so_far = number-added entries new pairs u.name u.first added so_far

pub elements-step : (entries new : Entries) (u : Uniform) (pairs : List (List ℕ × ℕ)) (n slot : ℕ) (name : List ℕ)
    → name ≡ element_name u.name n → slot ≡ u.first + n
    → ((q : List ℕ) → place_of_name new q ≡ place_after entries name slot q) → HasNumbers entries (pairs ++ first_names u n)
    → HasNumbers new (pairs ++ first_names u (n + 1))
elements-step entries new u pairs n slot name named is added so_far =
    let more : (pairs ++ first_names u n) ++ (name, slot) ∷ [] ≡ pairs ++ first_names u (n + 1) =
    append_assoc pairs (first_names u n) ((name, slot) ∷ [])
    ∙ ap (λ l. pairs ++ (u.name, u.first) ∷ l)
    ((λ i. map (λ k. (element_name u.name k, u.first + k)) (range_with_len 0 n) ++ (named i, is i) ∷ [])
    ∙ sym (map-range_with_len_more (λ k. (element_name u.name k, u.first + k)) 0 n n (omega arith))) in
    subst (HasNumbers new) more (number-added entries new (pairs ++ first_names u n) name slot added so_far)

pub ruleset of_elements = (elements-start, elements-step)
