-- Locations by name, seen as a finite map from the bytes of names.
use Rattle.std.proofs.Common.{◌≡◌, ℕ, cond, List, [], ◌∷◌, refl, sym, ap, ◌∙◌}
use Rattle.std.specs.Prelude.{Some, Vec}
use Rattle.std.specs.declared.alloc.Global.{Global}
use Rattle.std.specs.Ordering.{eq_by_cmp, is_eq, match_ordering, nat_cmp}
use Rattle.std.specs.declared.cmp.Ordering.{Ordering}
use Rattle.std.specs.declared.cmp.Ordering.TheVariants.{Less, Equal, Greater}
use Rattle.std.specs.Cmp.Lexicographic.{nat_list_cmp_total, slice_cmp}
use Rattle.std.specs.Map.{lookup}
use Rattle.std.specs.BTreeMap.{insert_entry, is_at}
use Rattle.std.specs.FinMap.{get, insert, find, put, from_entries, get-from_entries, get-insert, same_map, nat_cmp-IsAntisymmetric, slice_cmp-IsAntisymmetric}
use Rattle.std.specs.FinMap.Entries.{by_order, find-put}
use Rattle.program_link.specs.Locations.{by_bytes}

-- how names are compared
abbrev by_name : Vec ℕ Global → Vec ℕ Global → Ordering
by_name x y = slice_cmp nat_cmp x.items y.items

put-by : (r : Ordering) (k : Vec ℕ Global) (v : ℕ) (e : Vec ℕ Global × ℕ) (es rest : List (Vec ℕ Global × ℕ)) (others : List (List ℕ × ℕ))
    → by_bytes rest ≡ others → by_bytes (match_ordering r ((k, v) ∷ e ∷ es) ((e.0, v) ∷ es) (e ∷ rest))
    ≡ by_order r ((k.items, v) ∷ (e.0.items, e.1) ∷ by_bytes es) ((e.0.items, v) ∷ by_bytes es) ((e.0.items, e.1) ∷ others)
put-by Less k v e es rest others same = refl
put-by Equal k v e es rest others same = refl
put-by Greater k v e es rest others same = ap (λ l. (e.0.items, e.1) ∷ l) same

-- an entry that is put in its place
by_bytes-put : (es : List (Vec ℕ Global × ℕ)) (k : Vec ℕ Global) (v : ℕ)
    → by_bytes (insert_entry by_name es k v) ≡ put (slice_cmp nat_cmp) k.items v (by_bytes es)
by_bytes-put [] k v = refl
by_bytes-put (e ∷ es) k v =
    put-by (by_name k e.0) k v e es (insert_entry by_name es k v) (put (slice_cmp nat_cmp) k.items v (by_bytes es)) (by_bytes-put es k v)

-- an insertion into the map is one into the finite map
pub bound-inserted : (es : List (Vec ℕ Global × ℕ)) (k : Vec ℕ Global) (v : ℕ)
    → from_entries {R = slice_cmp nat_cmp} (by_bytes (insert_entry by_name es k v)) ≡ insert (from_entries (by_bytes es)) k.items v
bound-inserted es k v =
    ap (from_entries {R = slice_cmp nat_cmp}) (by_bytes-put es k v)
    ∙ same_map nat_list_cmp_total (slice_cmp-IsAntisymmetric nat_cmp-IsAntisymmetric) _ _
    (λ q. get-from_entries nat_list_cmp_total (put (slice_cmp nat_cmp) k.items v (by_bytes es)) q
    ∙ find-put (slice_cmp nat_cmp) nat_list_cmp_total q k.items v (by_bytes es)
    ∙ ap (cond (eq_by_cmp (slice_cmp nat_cmp) q k.items) (Some v)) (sym (get-from_entries nat_list_cmp_total (by_bytes es) q))
    ∙ sym (get-insert nat_list_cmp_total (from_entries (by_bytes es)) k.items v q))

find-bytes : (q : List ℕ) (es : List (Vec ℕ Global × ℕ))
    → find (slice_cmp nat_cmp) q (by_bytes es) ≡ lookup (is_at (λ k. slice_cmp nat_cmp q k.items)) es
find-bytes q [] = refl
find-bytes q (e ∷ es) = ap (cond (is_eq (slice_cmp nat_cmp q e.0.items)) (Some e.1)) (find-bytes q es)

-- what is bound to a name
pub bound-at : (es : List (Vec ℕ Global × ℕ)) (q : List ℕ)
    → get (from_entries {R = slice_cmp nat_cmp} (by_bytes es)) q ≡ lookup (is_at (λ k. slice_cmp nat_cmp q k.items)) es
bound-at es q = get-from_entries nat_list_cmp_total (by_bytes es) q ∙ find-bytes q es

pub ruleset of_bound = (bound-inserted, bound-at)
