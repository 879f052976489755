-- The locations of active attributes (OpenGL ES 2.0 section 2.10.4, WebGL 1.0 section 6, Attribute aliasing).
use Rattle.std.specs.Prelude.{ℕ, ◌+◌, if◌then◌else◌, nat_le, max, Bool, true, false, not, ◌&&◌, Option, Some, None, List, [], ◌∷◌, ◌++◌, Vec, drop, map, replicate, take}
use Rattle.std.specs.List.{find, list_any, range_with_len}
use Rattle.std.specs.Option.{option_and_then, option_map}
use Rattle.std.specs.Ordering.{nat_cmp}
use Rattle.std.specs.declared.alloc.Global.{Global}
use Rattle.std.specs.FinMap.{FinMap, get}
use Rattle.std.specs.Cmp.Lexicographic.{slice_cmp}
use Rattle.gl_numbers.specs.Limits.{vertex_attribs_max}
use Rattle.glsl_types.specs.Bases.{columns}
use Rattle.glsl_types.specs.declared.bases.Base.{Base}
use Rattle.glsl_types.specs.declared.interface.Item.{Item}

-- the locations that a page bound to names (bindAttribLocation)
abbrev pub Bound : Type 0
Bound = FinMap (slice_cmp nat_cmp) ℕ

-- entries by their bytes
abbrev pub by_bytes : List (Vec ℕ Global × ℕ) → List (List ℕ × ℕ)
by_bytes entries = map (λ e. (e.0.items, e.1)) entries

-- how many locations an attribute takes: one, or one for each column of a matrix
abbrev pub location_count : Base → ℕ
location_count base = max 1 (columns base)

-- whether each location is taken, by its number
abbrev pub Taken : Type 0
Taken = List Bool

-- no location is taken
abbrev pub none_taken : Taken
none_taken = replicate vertex_attribs_max false

-- whether an attribute may stand at a location: its locations are there and free
abbrev pub may_stand : Taken → Base → ℕ → Bool
may_stand taken base location =
    nat_le (location + location_count base) vertex_attribs_max && not (list_any (λ t. t) (take (location_count base) (drop location taken)))

-- the locations that are taken once an attribute stands at one
abbrev pub with_taken : Taken → Base → ℕ → Taken
with_taken taken base location =
    take location taken ++ (replicate (location_count base) true ++ drop (location + location_count base) taken)

-- the lowest location at which an attribute may stand
abbrev pub lowest : Taken → Base → Option ℕ
lowest taken base = find (may_stand taken base) (range_with_len 0 vertex_attribs_max)

-- the locations that are taken once an attribute stands where it was bound
abbrev pub taken_if_bound : Taken → Base → Option ℕ → Option Taken
taken_if_bound taken base None = Some taken
taken_if_bound taken base (Some location) = if may_stand taken base location then Some (with_taken taken base location) else None

-- the locations that are taken once each attribute with a binding has it; none where two overlap or one passes the last location
unfoldable pub taken_by_bound : Bound → Taken → List Item → Option Taken
taken_by_bound bound taken [] = Some taken
taken_by_bound bound taken (item ∷ items) =
    option_and_then (λ now. taken_by_bound bound now items) (taken_if_bound taken item.kind.base (get bound item.name))

-- the location of an attribute: the one that was bound to it, or the lowest that is free
abbrev pub location_by : Taken → Base → Option ℕ → Option ℕ
location_by taken base (Some location) = Some location
location_by taken base None = lowest taken base

-- the locations that are taken once an attribute stands there, if it finds one; one that was bound is taken already
abbrev pub taken_at : Taken → Base → Option ℕ → Taken
taken_at taken base (Some location) = with_taken taken base location
taken_at taken base None = taken

abbrev pub taken_by : Taken → Base → Option ℕ → Taken
taken_by taken base (Some location) = taken
taken_by taken base None = taken_at taken base (lowest taken base)

-- the location of each attribute in turn, beside those that are taken; none where one finds no place
unfoldable pub located : Bound → Taken → List Item → Option (List ℕ)
located bound taken [] = Some []
located bound taken (item ∷ items) =
    option_and_then
    (λ location. option_map (λ others. location ∷ others) (located bound (taken_by taken item.kind.base (get bound item.name)) items))
    (location_by taken item.kind.base (get bound item.name))

-- the locations of active attributes, in source order: those that were bound first, then the others take the lowest that are free
abbrev pub locations : Bound → List Item → Option (List ℕ)
locations bound items = option_and_then (λ taken. located bound taken items) (taken_by_bound bound none_taken items)
