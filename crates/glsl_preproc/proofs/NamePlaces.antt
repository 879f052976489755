-- Names by their places, where one more is added and where the last is taken away.
use Rattle.std.proofs.Common.{◌≡◌, ◌<◌, ◌≤◌, ◌++◌, ◌||◌, ◌≢◌, ℕ, suc, Bool, true, false, cond, List, [], ◌∷◌, length, get_or, Option, Some, None, option_map, is_some, bytes_eq, map, Vec, Global, nat_cmp, is_eq, ◌⊎◌, inl, inr, refl, sym, ap, ◌∙◌, arith}
use Rattle.std.specs.List.{list_any, slice_get}
use Rattle.std.proofs.lemmas.Bool.{cond-true, cond-false, cases_Bool}
use Rattle.std.proofs.lemmas.List.{map_push}
use Rattle.std.proofs.lemmas.Slice.Eq.{bytes_eq-Decides}
use Rattle.std.proofs.lemmas.Option.{slice_get_read, slice_get_past}
use Rattle.glsl_tree.specs.Token.{PlainToken}
use Rattle.std.specs.Map.{lookup, KeepsOthers}
use Rattle.std.specs.BTreeMap as tree
use Rattle.std.specs.BTreeMap.{BTreeMap, is_at}
use Rattle.std.specs.Ordering.{eq_by_cmp}
use Rattle.std.specs.Cmp.{eq_by_cmp_equiv}
use Rattle.std.specs.Cmp.Lexicographic.{slice_cmp}
use Rattle.std.proofs.lemmas.Cmp.{nat_list_cmp_total}
use Rattle.std.proofs.lemmas.Map.Text.{is_eq-slice_cmp}
use Rattle.glsl_preproc.specs.NamePlaces.{index_of, place_of, IsPlaced}
use Rattle.glsl_preproc.specs.Replacement.{argument_of}

abbrev behind : Option ℕ → Option ℕ → Option ℕ
behind (Some i) o = Some i
behind None o = o

behind_none : (o : Option ℕ) → behind o None ≡ o
behind_none (Some i) = refl
behind_none None = refl

more_step : (b c : Bool) (o : Option ℕ) (k : ℕ) → cond b (Some 0) (option_map suc (behind o (cond c (Some k) None))) ≡ behind (cond b (Some 0) (option_map suc o)) (cond c (Some (suc k)) None)
more_step true c o k = refl
more_step false c (Some i) k = refl
more_step false true None k = refl
more_step false false None k = refl

-- the places with one more name
index_more : (names : List (List ℕ)) (x q : List ℕ) → index_of (names ++ x ∷ []) q ≡ behind (index_of names q) (cond (bytes_eq x q) (Some (length names)) None)
unfolding index_of
index_more [] x q = refl
index_more (n ∷ names) x q = ap (λ o. cond (bytes_eq n q) (Some 0) (option_map suc o)) (index_more names x q) ∙ more_step (bytes_eq n q) (bytes_eq x q) (index_of names q) (length names)

any_step : (b r : Bool) (o : Option ℕ) → is_some o ≡ r → is_some (cond b (Some 0) (option_map suc o)) ≡ (b || r)
any_step true r o e = refl
any_step false r (Some i) e = e
any_step false r None e = e

-- a name that has a place is among the names
pub any_place : (names : List (List ℕ)) (q : List ℕ) → is_some (index_of names q) ≡ list_any (λ n. bytes_eq n q) names
unfolding index_of
any_place [] q = refl
any_place (n ∷ names) q = any_step (bytes_eq n q) (list_any (λ m. bytes_eq m q) names) (index_of names q) (any_place names q)

pub no_place : (names : List (List ℕ)) (q : List ℕ) → list_any (λ n. bytes_eq n q) names ≡ false → index_of names q ≡ None
no_place names q e = by_place (index_of names q) refl
  where
    by_place : (o : Option ℕ) → index_of names q ≡ o → index_of names q ≡ None
    by_place None p = p
    by_place (Some i) p = let some : is_some (index_of names q) ≡ false = any_place names q ∙ e in let is : is_some (index_of names q) ≡ true = ap is_some p in absurd cc

pub none_placed : (q : List ℕ) → index_of [] q ≡ None
unfolding index_of
none_placed q = refl

same_name : (x q : List ℕ) → bytes_eq x q ≡ true → x ≡ q
same_name x q t = (bytes_eq-Decides x q).0 t

-- a place is below the count
abbrev IsBelow : ℕ → Option ℕ → Type 0
IsBelow n o = (i : ℕ) → o ≡ Some i → i < n

below_step : (b : Bool) (o : Option ℕ) (n : ℕ) → IsBelow n o → IsBelow (suc n) (cond b (Some 0) (option_map suc o))
below_step true o n h i e = let at : Some 0 ≡ Some i = e in let is : 0 ≡ i = cc in omega arith
below_step false None n h i e = let at : None ≡ Some i = e in absurd cc
below_step false (Some j) n h i e = let at : Some (suc j) ≡ Some i = e in let is : suc j ≡ i = cc in let small : j < n = h j refl in omega arith

below : (names : List (List ℕ)) (q : List ℕ) → IsBelow (length names) (index_of names q)
unfolding index_of
below [] q i e = let at : None ≡ Some i = e in absurd cc
below (n ∷ names) q i e = below_step (bytes_eq n q) (index_of names q) (length names) (below names q) i e

module _ (names : List (List ℕ)) (x : List ℕ) (place : List ℕ → Option ℕ) where
  -- a name that was not there
  pub added : (after : List ℕ → Option ℕ) → IsPlaced names place → index_of names x ≡ None
      → ((q : List ℕ) → after q ≡ cond (bytes_eq x q) (Some (length names)) (place q)) → IsPlaced (names ++ x ∷ []) after
  added after h e u q = u q ∙ by_test (bytes_eq x q) refl ∙ sym (index_more names x q)
    where
      by_test : (b : Bool) → bytes_eq x q ≡ b → cond (bytes_eq x q) (Some (length names)) (place q) ≡ behind (index_of names q) (cond (bytes_eq x q) (Some (length names)) None)
      by_test true t = let none : index_of names q ≡ None = ap (index_of names) (sym (same_name x q t)) ∙ e in
          cond-true _ _ _ t ∙ sym (λ i. behind (none i) (cond (t i) (Some (length names)) None))
      by_test false t = cond-false _ _ _ t ∙ h q ∙ sym (ap (λ b. behind (index_of names q) (cond b (Some (length names)) None)) t ∙ behind_none (index_of names q))

  -- a name that was there keeps its place
  kept : (i : ℕ) → index_of names x ≡ Some i → (q : List ℕ) → index_of names q ≡ index_of (names ++ x ∷ []) q
  kept i e q = by_test (bytes_eq x q) refl ∙ sym (index_more names x q)
    where
      by_test : (b : Bool) → bytes_eq x q ≡ b → index_of names q ≡ behind (index_of names q) (cond (bytes_eq x q) (Some (length names)) None)
      by_test true t = let some : index_of names q ≡ Some i = ap (index_of names) (sym (same_name x q t)) ∙ e in
          some ∙ sym (λ j. behind (some j) (cond (t j) (Some (length names)) None))
      by_test false t = sym (ap (λ b. behind (index_of names q) (cond b (Some (length names)) None)) t ∙ behind_none (index_of names q))

  pub known : IsPlaced names place → list_any (λ n. bytes_eq n x) names ≡ true → IsPlaced (names ++ x ∷ []) place
  known h e q = by_place (index_of names x) refl
    where
      by_place : (o : Option ℕ) → index_of names x ≡ o → place q ≡ index_of (names ++ x ∷ []) q
      by_place None p = let none : is_some (index_of names x) ≡ true = any_place names x ∙ e in let is : is_some (index_of names x) ≡ false = ap is_some p in absurd cc
      by_place (Some i) p = h q ∙ kept i p q

  -- the place of the last name, where it was there before and where not
  last : (o : Option ℕ) → index_of names x ≡ o → bytes_eq x x ≡ true → index_of (names ++ x ∷ []) x ≡ behind o (Some (length names))
  last o p t = index_more names x x ∙ (λ i. behind (p i) (cond (t i) (Some (length names)) None))

  own : bytes_eq x x ≡ true
  own = (bytes_eq-Decides x x).1 refl

  -- the last name is taken away: it has a place before the last
  pub left_known : IsPlaced (names ++ x ∷ []) place → place x ≢ Some (length names) → IsPlaced names place
  left_known h d q = by_place (index_of names x) refl
    where
      by_place : (o : Option ℕ) → index_of names x ≡ o → place q ≡ index_of names q
      by_place None p = absurd (d (h x ∙ last None p own))
      by_place (Some i) p = h q ∙ sym (kept i p q)

  -- it has the last place alone
  pub left_new : (after : List ℕ → Option ℕ) → IsPlaced (names ++ x ∷ []) place → place x ≡ Some (length names)
      → ((q : List ℕ) → after q ≡ cond (bytes_eq x q) None (place q)) → IsPlaced names after
  left_new after h e u q = by_place (index_of names x) refl
    where
      by_place : (o : Option ℕ) → index_of names x ≡ o → after q ≡ index_of names q
      by_place (Some i) p =
          let at : Some i ≡ Some (length names) = sym (last (Some i) p own) ∙ sym (h x) ∙ e in
          let is : i ≡ length names = cc in
          let small : i < length names = below names x i p in
          absurd (omega arith)
      by_place None p = u q ∙ by_test (bytes_eq x q) refl
        where
          by_test : (b : Bool) → bytes_eq x q ≡ b → cond (bytes_eq x q) None (place q) ≡ index_of names q
          by_test true t = cond-true _ _ _ t ∙ sym (ap (index_of names) (sym (same_name x q t)) ∙ p)
          by_test false t = cond-false _ _ _ t ∙ h q ∙ index_more names x q ∙ ap (λ b. behind (index_of names q) (cond b (Some (length names)) None)) t ∙ behind_none (index_of names q)

-- the texts of names with one more
pub pushed : (xs ys : List (Vec ℕ Global)) (v : Vec ℕ Global) (t : List ℕ) → ys ≡ xs ++ v ∷ [] → v.items ≡ t → map (λ n. n.items) ys ≡ map (λ n. n.items) xs ++ t ∷ []
pushed xs ys v t e f = ap (map (λ n. n.items)) e ∙ map_push (λ n. n.items) xs v ∙ ap (λ s. map (λ n. n.items) xs ++ s ∷ []) f

-- the argument at a place
abbrev at_place : Option ℕ → List (List PlainToken) → Option (List PlainToken)
at_place None arguments = None
at_place (Some i) arguments = slice_get arguments i

first_step : (b : Bool) (o : Option ℕ) (a : List PlainToken) (arguments : List (List PlainToken)) (r : Option (List PlainToken)) → r ≡ at_place o arguments
    → cond b (Some a) r ≡ at_place (cond b (Some 0) (option_map suc o)) (a ∷ arguments)
first_step true o a arguments r e = refl
first_step false (Some i) a arguments r e = e
first_step false None a arguments r e = e

empty_step : (b : Bool) (o : Option ℕ) → None ≡ at_place (cond b (Some 0) (option_map suc o)) []
empty_step true o = refl
empty_step false (Some i) = refl
empty_step false None = refl

found : (names : List (List ℕ)) (arguments : List (List PlainToken)) (q : List ℕ) → argument_of names arguments q ≡ at_place (index_of names q) arguments
unfolding index_of
found [] arguments q = refl
found (n ∷ names) [] q = empty_step (bytes_eq n q) (index_of names q)
found (n ∷ names) (a ∷ arguments) q = first_step (bytes_eq n q) (index_of names q) a arguments (argument_of names arguments q) (found names arguments q)

pub argument_at : (names : List (List ℕ)) (arguments : List (List PlainToken)) (q : List ℕ) (i : ℕ) (a : List PlainToken) → index_of names q ≡ Some i → i < length arguments → a ≡ get_or arguments i a
    → argument_of names arguments q ≡ Some a
argument_at names arguments q i a e h f = found names arguments q ∙ ap (λ o. at_place o arguments) e ∙ slice_get_read arguments (length arguments) i a refl h f

pub argument_past : (names : List (List ℕ)) (arguments : List (List PlainToken)) (q : List ℕ) (i : ℕ) → index_of names q ≡ Some i → length arguments ≤ i → argument_of names arguments q ≡ None
argument_past names arguments q i e h = found names arguments q ∙ ap (λ o. at_place o arguments) e ∙ slice_get_past arguments i h

pub argument_none : (names : List (List ℕ)) (arguments : List (List PlainToken)) (q : List ℕ) → index_of names q ≡ None → argument_of names arguments q ≡ None
argument_none names arguments q e = found names arguments q ∙ ap (λ o. at_place o arguments) e

-- the places of names after a change at the bytes of one
apart : (bs q ks : List ℕ) → bytes_eq bs q ≡ false → is_eq (slice_cmp nat_cmp bs ks) ≡ true → is_eq (slice_cmp nat_cmp q ks) ≡ false
apart bs q ks n y = by_other (cases_Bool (is_eq (slice_cmp nat_cmp q ks)))
  where
    by_other : (is_eq (slice_cmp nat_cmp q ks) ≡ true) ⊎ (is_eq (slice_cmp nat_cmp q ks) ≡ false) → is_eq (slice_cmp nat_cmp q ks) ≡ false
    by_other (inr apart_too) = apart_too
    by_other (inl both) =
        let first = (bytes_eq-Decides bs ks).0 (sym (is_eq-slice_cmp bs ks) ∙ y) in
        let second = (bytes_eq-Decides q ks).0 (sym (is_eq-slice_cmp q ks) ∙ both) in
        let same = (bytes_eq-Decides bs q).1 (first ∙ sym second) in
        absurd cc

others : (bs q : List ℕ) (old new : List (Vec ℕ Global × ℕ)) → bytes_eq bs q ≡ false
    → KeepsOthers (eq_by_cmp (λ x y. slice_cmp nat_cmp x.items y.items)) (is_at (λ k. slice_cmp nat_cmp bs k.items)) old new
    → lookup (is_at (λ k. slice_cmp nat_cmp q k.items)) new ≡ lookup (is_at (λ k. slice_cmp nat_cmp q k.items)) old
unfolding KeepsOthers
others bs q old new n h = h (is_at (λ k. slice_cmp nat_cmp q k.items)) (λ x y. (eq_by_cmp_equiv nat_list_cmp_total).congr q x.items y.items) (λ k. apart bs q k.items n)

pub places_after : (bs : List ℕ) (old new : BTreeMap (Vec ℕ Global) ℕ) (w : Option ℕ)
    → tree.UpdatesBy (λ x y. slice_cmp nat_cmp x.items y.items) (λ k. slice_cmp nat_cmp bs k.items) old new w → (q : List ℕ) → place_of new q ≡ cond (bytes_eq bs q) w (place_of old q)
places_after bs old new w h q = by_test (bytes_eq bs q) refl
  where
    by_test : (b : Bool) → bytes_eq bs q ≡ b → place_of new q ≡ cond (bytes_eq bs q) w (place_of old q)
    by_test true t = ap (place_of new) (sym ((bytes_eq-Decides bs q).0 t)) ∙ h.1 ∙ sym (cond-true _ w (place_of old q) t)
    by_test false t = others bs q old.entries new.entries t h.3 ∙ sym (cond-false _ w (place_of old q) t)
