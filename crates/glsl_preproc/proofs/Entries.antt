-- The entries of the macros' map, as the definitions see them.
use Rattle.std.proofs.Common.{◌≡◌, ℕ, Bool, true, false, cond, List, [], ◌∷◌, Option, Some, None, option_map, option_copied, Bor, map, Vec, Global, nat_cmp, is_eq, refl, ap}
use Rattle.std.specs.Map.{lookup, remove_entry}
use Rattle.std.specs.BTreeMap.{is_at, insert_entry}
use Rattle.std.specs.Cmp.Lexicographic.{slice_cmp}
use Rattle.std.specs.Ordering.{match_ordering}
use Rattle.std.specs.declared.cmp.Ordering.{Ordering}
use Rattle.std.specs.declared.cmp.Ordering.TheVariants.{Less, Equal, Greater}
use Rattle.glsl_preproc.specs.declared.macros.Macro.{Macro}
use Rattle.glsl_preproc.specs.Macros.{MacroMap, PlainMacro, find_macro}
use Rattle.glsl_preproc.specs.Views.{plain_macro, plain_entry}

abbrev Entries : Type 0
Entries = List (Vec ℕ Global × Macro)

-- what is found
found : (name : List ℕ) (es : Entries) → option_map plain_macro (lookup (is_at (λ k. slice_cmp nat_cmp name k.items)) es) ≡ lookup (is_at (slice_cmp nat_cmp name)) (map plain_entry es)
found name [] = refl
found name (e ∷ es) = by_test (lookup (is_at (λ k. slice_cmp nat_cmp name k.items)) es) (lookup (is_at (slice_cmp nat_cmp name)) (map plain_entry es)) (is_eq (slice_cmp nat_cmp name e.0.items)) (found name es)
  where
    by_test : (rest : Option Macro) (others : Option PlainMacro) (b : Bool) → option_map plain_macro rest ≡ others → option_map plain_macro (cond b (Some e.1) rest) ≡ cond b (Some (plain_macro e.1)) others
    by_test rest others true h = refl
    by_test rest others false h = h

pub found_macro : (name : List ℕ) (es : Entries) → option_map plain_macro (lookup (is_at (λ k. slice_cmp nat_cmp name k.items)) es) ≡ find_macro (map plain_entry es) name
unfolding find_macro
found_macro name es = found name es

-- with one more
pub inserted : (k : Vec ℕ Global) (m : Macro) (es : Entries) → map plain_entry (insert_entry (λ x y. slice_cmp nat_cmp x.items y.items) es k m) ≡ insert_entry (slice_cmp nat_cmp) (map plain_entry es) k.items (plain_macro m)
inserted k m [] = refl
inserted k m (e ∷ es) = by_order (insert_entry (λ x y. slice_cmp nat_cmp x.items y.items) es k m) (insert_entry (slice_cmp nat_cmp) (map plain_entry es) k.items (plain_macro m)) (slice_cmp nat_cmp k.items e.0.items) (inserted k m es)
  where
    by_order : (rest : Entries) (others : MacroMap) (o : Ordering) → map plain_entry rest ≡ others
        → map plain_entry (match_ordering o ((k, m) ∷ e ∷ es) ((e.0, m) ∷ es) (e ∷ rest)) ≡ match_ordering o ((k.items, plain_macro m) ∷ map plain_entry (e ∷ es)) ((e.0.items, plain_macro m) ∷ map plain_entry es) (plain_entry e ∷ others)
    by_order rest others Less h = refl
    by_order rest others Equal h = refl
    by_order rest others Greater h = ap (λ l. plain_entry e ∷ l) h

-- without one
pub removed : (name : List ℕ) (es : Entries) → map plain_entry (remove_entry (is_at (λ k. slice_cmp nat_cmp name k.items)) es) ≡ remove_entry (is_at (slice_cmp nat_cmp name)) (map plain_entry es)
removed name [] = refl
removed name (e ∷ es) = by_test (remove_entry (is_at (λ k. slice_cmp nat_cmp name k.items)) es) (remove_entry (is_at (slice_cmp nat_cmp name)) (map plain_entry es)) (is_eq (slice_cmp nat_cmp name e.0.items)) (removed name es)
  where
    by_test : (rest : Entries) (others : MacroMap) (b : Bool) → map plain_entry rest ≡ others → map plain_entry (cond b es (e ∷ rest)) ≡ cond b (map plain_entry es) (plain_entry e ∷ others)
    by_test rest others true h = refl
    by_test rest others false h = ap (λ l. plain_entry e ∷ l) h

-- what a reference to a macro shows
pub copied : (o : Option (Bor Macro)) → option_map (λ m. plain_macro m.now) o ≡ option_map plain_macro (option_copied o)
copied None = refl
copied (Some m) = refl
