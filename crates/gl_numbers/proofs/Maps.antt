-- A map by handle, seen as a finite map.
use Rattle.std.proofs.Common.{◌≡◌, ℕ, cond, List, [], ◌∷◌, refl, sym, ap, ◌∙◌}
use Rattle.std.specs.Prelude.{Some, None, ◌==◌}
use Rattle.std.specs.Ordering.{nat_cmp, is_eq}
use Rattle.std.specs.declared.cmp.Ordering.{Ordering}
use Rattle.std.specs.declared.cmp.Ordering.TheVariants.{Less, Equal, Greater}
use Rattle.std.specs.Cmp.{nat_cmp_total, eq_by_cmp_equiv, unsigned_tied}
use Rattle.std.specs.Map.{lookup}
use Rattle.std.specs.BTreeMap as tree
use Rattle.std.specs.BTreeMap.{BTreeMap, is_at}
use Rattle.std.specs.FinMap.{FinMap, get, insert, remove, find, from_entries, get-from_entries, get-insert, get-remove, same_map, nat_cmp-IsAntisymmetric}

module _ {X : Type 0} where
  -- the first entry of a key, in the words of either
  find-lookup : (q : ℕ) (es : List (ℕ × X)) → find nat_cmp q es ≡ lookup (is_at (nat_cmp q)) es
  find-lookup q [] = refl
  find-lookup q (e ∷ es) = ap (cond (is_at (nat_cmp q) e.0) (Some e.1)) (find-lookup q es)

  -- what the finite map has at a handle
  pub get-map : (m : BTreeMap ℕ X) (q : ℕ) → get (from_entries {R = nat_cmp} m.entries) q ≡ tree.get nat_cmp m q
  get-map m q = get-from_entries nat_cmp_total m.entries q ∙ find-lookup q m.entries

  -- an insertion into the map is one into the finite map
  pub map-updated : (m n : BTreeMap ℕ X) (k : ℕ) (v : X) → tree.Updates nat_cmp m n k (Some v)
      → from_entries {R = nat_cmp} n.entries ≡ insert (from_entries m.entries) k v
  map-updated m n k v u = same_map nat_cmp_total nat_cmp-IsAntisymmetric _ _
      (λ q. get-map n q ∙ u.0 q ∙ ap (λ b. cond b (Some v) (tree.get nat_cmp m q)) ((eq_by_cmp_equiv nat_cmp_total).symm k q)
      ∙ ap (cond (is_at (nat_cmp q) k) (Some v)) (sym (get-map m q)) ∙ sym (get-insert nat_cmp_total (from_entries m.entries) k v q))

  -- a removal from the map is one from the finite map
  pub map-removed : (m n : BTreeMap ℕ X) (k : ℕ) → tree.Updates nat_cmp m n k None
      → from_entries {R = nat_cmp} n.entries ≡ remove (from_entries m.entries) k
  map-removed m n k u = same_map nat_cmp_total nat_cmp-IsAntisymmetric _ _
      (λ q. get-map n q ∙ u.0 q ∙ ap (λ b. cond b None (tree.get nat_cmp m q)) ((eq_by_cmp_equiv nat_cmp_total).symm k q)
      ∙ ap (cond (is_at (nat_cmp q) k) None) (sym (get-map m q)) ∙ sym (get-remove nat_cmp_total (from_entries m.entries) k q))

  same_at : (m : FinMap nat_cmp X) (k : ℕ) (v : X) → get m k ≡ Some v → (q : ℕ) (o : Ordering) → nat_cmp q k ≡ o
      → cond (is_eq o) (Some v) (get m q) ≡ get m q
  same_at m k v e q Less t = refl
  same_at m k v e q Equal t = sym e ∙ ap (get m) (sym (nat_cmp-IsAntisymmetric q k t))
  same_at m k v e q Greater t = refl

  -- to put a value where it stands changes nothing
  pub insert_same : (m : FinMap nat_cmp X) (k : ℕ) (v : X) → get m k ≡ Some v → insert m k v ≡ m
  insert_same m k v e = same_map nat_cmp_total nat_cmp-IsAntisymmetric _ _ (λ q. get-insert nat_cmp_total m k v q ∙ same_at m k v e q (nat_cmp q k) refl)

  -- what stands at a handle after each change, by the test whether it is the handle that changed
  pub get-inserted : (m : FinMap nat_cmp X) (k : ℕ) (v : X) (q : ℕ) → get (insert m k v) q ≡ cond (q == k) (Some v) (get m q)
  get-inserted m k v q = get-insert nat_cmp_total m k v q ∙ ap (λ b. cond b (Some v) (get m q)) (unsigned_tied q k)

  pub get-removed : (m : FinMap nat_cmp X) (k q : ℕ) → get (remove m k) q ≡ cond (q == k) None (get m q)
  get-removed m k q = get-remove nat_cmp_total m k q ∙ ap (λ b. cond b None (get m q)) (unsigned_tied q k)

-- what the methods over a map by handle need
pub ruleset of_maps = (get-map, map-updated, map-removed)

-- what stands at a handle
pub ruleset gets_at = (get-inserted, get-removed)
