-- The longest front of a text, found from its first byte on.
use Rattle.std.proofs.Common.{◌≡◌, ℕ, zero, suc, ◌+◌, ◌<◌, ◌≤◌, Bool, true, false, cond, ◌&&◌, ◌⊎◌, List, [], ◌∷◌, length, take, drop, Option, Some, None, refl, sym, ap, ◌∙◌, arith, ltb, inl, inr}
use Rattle.std.specs.List.{prefix_len, list_all}
use Rattle.std.proofs.lemmas.Bool.{cond-true, cond-false, lt-ltb, le-ltb, ltb-true, ltb-false}
use Rattle.glsl_tree.specs.Spellings.{is_run}
use Rattle.glsl_tree.specs.SourceTokens.{longest}

-- the empty front
abbrev pub at_zero : {C : Type 0} → Option C → Option (C × ℕ)
at_zero (Some c) = Some (c, 0)
at_zero None = None

-- a front one byte longer, else the other
abbrev pub one_more : {C : Type 0} → Option (C × ℕ) → Option (C × ℕ) → Option (C × ℕ)
one_more (Some found) other = Some (found.0, suc found.1)
one_more None other = other

abbrev pub seek : {C : Type 0} → List ℕ → (List ℕ → Option C) → Option (C × ℕ)
seek [] class = at_zero (class [])
seek (b ∷ text) class = one_more (seek text (λ t. class (b ∷ t))) (at_zero (class []))

pick : {C : Type 0} (o : Option C) (k : ℕ) (x y z : Option (C × ℕ)) → x ≡ one_more y z → elim o [ Some c ↦ Some (c, suc k) | None ↦ x ] ≡ one_more (elim o [ Some c ↦ Some (c, k) | None ↦ y ]) z
pick (Some c) k x y z h = refl
pick None k x y z h = h

pub zero_is : {C : Type 0} (class : List ℕ → Option C) (text : List ℕ) → longest class text zero ≡ at_zero (class [])
unfolding longest
zero_is {C} class text =
    let goal : Option C → Type 0 = λ o. elim o [ Some c ↦ Some (c, zero) | None ↦ None ] ≡ at_zero o in
    elim (class []) as goal [ Some c ↦ refl | None ↦ refl ]

longest-cons : {C : Type 0} (class : List ℕ → Option C) (b : ℕ) (text : List ℕ) (n : ℕ) → longest class (b ∷ text) (suc n) ≡ one_more (longest (λ t. class (b ∷ t)) text n) (at_zero (class []))
unfolding longest
longest-cons class b text zero = pick (class (b ∷ [])) zero _ _ _ (zero_is class (b ∷ text))
longest-cons class b text (suc n) = pick (class (b ∷ take (suc n) text)) (suc n) _ _ _ (longest-cons class b text n)

pub longest_is : {C : Type 0} (text : List ℕ) (class : List ℕ → Option C) → longest class text (length text) ≡ seek text class
longest_is [] class = zero_is class []
longest_is (b ∷ text) class = longest-cons class b text (length text) ∙ ap (λ found. one_more found (at_zero (class []))) (longest_is text (λ t. class (b ∷ t)))

-- two classes of the same fronts find the same
pub seek_same : {C : Type 0} (text : List ℕ) (f g : List ℕ → Option C) → ((t : List ℕ) → f t ≡ g t) → seek text f ≡ seek text g
seek_same text f g h = ap (seek text) (λ i t. h t i)

pub seek_none : {C : Type 0} (text : List ℕ) (f : List ℕ → Option C) → ((t : List ℕ) → f t ≡ None) → seek text f ≡ None
seek_none [] f h = ap at_zero (h [])
seek_none (b ∷ text) f h = ap (λ found. one_more found (at_zero (f []))) (seek_none text (λ t. f (b ∷ t)) (λ t. h (b ∷ t))) ∙ ap at_zero (h [])

-- only the empty front has a class
pub seek_empty : {C : Type 0} (text : List ℕ) (f : List ℕ → Option C) → ((b : ℕ) (t : List ℕ) → f (b ∷ t) ≡ None) → seek text f ≡ at_zero (f [])
seek_empty [] f h = refl
seek_empty (b ∷ text) f h = ap (λ found. one_more found (at_zero (f []))) (seek_none text (λ t. f (b ∷ t)) (λ t. h b t))

-- where nothing is found, the empty front has no class
none_from : {X : Type 0} (found : Option (X × ℕ)) (z : Option (X × ℕ)) → one_more found z ≡ None → z ≡ None
none_from (Some found) z e = cc
none_from None z e = e

none_at_zero : {C : Type 0} (text : List ℕ) (f : List ℕ → Option C) → seek text f ≡ None → at_zero (f []) ≡ None
none_at_zero [] f e = e
none_at_zero (b ∷ text) f e = none_from (seek text (λ t. f (b ∷ t))) (at_zero (f [])) e

abbrev pub further : {C : Type 0} → ℕ → Option (C × ℕ) → Option (C × ℕ)
further n (Some found) = Some (found.0, n + found.1)
further n None = None

further_zero : {C : Type 0} (found : Option (C × ℕ)) → found ≡ further 0 found
further_zero (Some found) = ap (λ n. Some (found.0, n)) (omega arith)
further_zero None = refl

one_further : {C : Type 0} (found : Option (C × ℕ)) (n : ℕ) (z : Option (C × ℕ)) → (found ≡ None → z ≡ None) → one_more (further n found) z ≡ further (suc n) found
one_further (Some found) n z h = ap (λ k. Some (found.0, k)) (omega arith)
one_further None n z h = h refl

pub prefix_len-stop : (p : ℕ → Bool) (b : ℕ) (text : List ℕ) → p b ≡ false → prefix_len p (b ∷ text) ≡ 0
prefix_len-stop p b text e = ap (λ x. cond x (1 + prefix_len p text) 0) e

pub prefix_len-more : (p : ℕ → Bool) (b : ℕ) (text : List ℕ) → p b ≡ true → prefix_len p (b ∷ text) ≡ suc (prefix_len p text)
prefix_len-more p b text e = ap (λ x. cond x (1 + prefix_len p text) 0) e ∙ omega arith

pub two_ways : (x : Bool) → (x ≡ true) ⊎ (x ≡ false)
two_ways true = inl refl
two_ways false = inr refl

-- the bytes of a kind at the front change nothing of what is found behind them
pub seek_over : {C : Type 0} (p : ℕ → Bool) (text : List ℕ) (f : List ℕ → Option C) → ((b : ℕ) (t : List ℕ) → p b ≡ true → f (b ∷ t) ≡ f t)
    → seek text f ≡ further (prefix_len p text) (seek (drop (prefix_len p text) text) f)
seek_over p [] f closed = further_zero (at_zero (f []))
seek_over p (b ∷ text) f closed = elim (two_ways (p b)) [
  | inl e ↦ ap (λ found. one_more found (at_zero (f []))) (seek_same text (λ t. f (b ∷ t)) f (λ t. closed b t e) ∙ seek_over p text f closed)
      ∙ one_further (seek (drop (prefix_len p text) text) f) (prefix_len p text) (at_zero (f [])) (none_at_zero (drop (prefix_len p text) text) f)
      ∙ ap (λ n. further n (seek (drop n (b ∷ text)) f)) (sym (prefix_len-more p b text e))
  | inr e ↦ further_zero (seek (b ∷ text) f) ∙ ap (λ n. further n (seek (drop n (b ∷ text)) f)) (sym (prefix_len-stop p b text e))
]

-- a run of bytes of a kind is found whole
pub seek_run : {C : Type 0} (p : ℕ → Bool) (text : List ℕ) (g : List ℕ → C) → seek text (λ t. cond (list_all p t) (Some (g t)) None) ≡ Some (g (take (prefix_len p text) text), prefix_len p text)
seek_run p [] g = refl
seek_run {C} p (b ∷ text) g = elim (two_ways (p b)) [
  | inl e ↦ ap (λ found. one_more found (Some (g [], 0)))
      (seek_same text (λ t. cond (p b && list_all p t) (Some (g (b ∷ t))) None) (λ t. cond (list_all p t) (Some (g (b ∷ t))) None) (λ t. ap (λ x. cond (x && list_all p t) (Some (g (b ∷ t))) None) e)
      ∙ seek_run p text (λ t. g (b ∷ t)))
      ∙ ap (λ n. Some (g (take n (b ∷ text)), n)) (sym (prefix_len-more p b text e))
  | inr e ↦ ap (λ found. one_more found (Some (g [], 0)))
      (seek_none text (λ t. cond (p b && list_all p t) (Some (g (b ∷ t))) None) (λ t. ap (λ x. cond (x && list_all p t) (Some (g (b ∷ t))) None) e))
      ∙ ap (λ n. Some (g (take n (b ∷ text)), n)) (sym (prefix_len-stop p b text e))
]

-- Of two kinds of class, the first where both fit.
abbrev pub either : {C : Type 0} → Option C → Option C → Option C
either (Some c) other = Some c
either None other = other

abbrev pub longer : {C : Type 0} → Option (C × ℕ) → Option (C × ℕ) → Option (C × ℕ)
longer None other = other
longer (Some found) None = Some found
longer (Some found) (Some other) = cond (ltb found.1 other.1) (Some other) (Some found)

join_zero : {C : Type 0} (a b : Option C) → at_zero (either a b) ≡ longer (at_zero a) (at_zero b)
join_zero None b = refl
join_zero (Some c) None = refl
join_zero (Some c) (Some d) = refl

join_one : {C : Type 0} (x y : Option (C × ℕ)) (a b : Option C) → one_more (longer x y) (at_zero (either a b)) ≡ longer (one_more x (at_zero a)) (one_more y (at_zero b))
join_one None None a b = join_zero a b
join_one None (Some y) None b = refl
join_one None (Some y) (Some c) b = sym (cond-true (ltb 0 (suc y.1)) _ _ (lt-ltb 0 (suc y.1) (omega arith)))
join_one (Some x) None a None = refl
join_one (Some x) None a (Some d) = sym (cond-false (ltb (suc x.1) 0) _ _ (le-ltb (suc x.1) 0 (omega arith)))
join_one (Some x) (Some y) a b = elim (two_ways (ltb x.1 y.1)) [
  | inl e ↦ ap (λ t. one_more (cond t (Some y) (Some x)) (at_zero (either a b))) e ∙ ap (λ t. cond t (Some (y.0, suc y.1)) (Some (x.0, suc x.1))) (sym (lt-ltb (suc x.1) (suc y.1) (let h : x.1 < y.1 = ltb-true x.1 y.1 e in omega arith)))
  | inr e ↦ ap (λ t. one_more (cond t (Some y) (Some x)) (at_zero (either a b))) e ∙ ap (λ t. cond t (Some (y.0, suc y.1)) (Some (x.0, suc x.1))) (sym (le-ltb (suc x.1) (suc y.1) (let h : y.1 ≤ x.1 = ltb-false x.1 y.1 e in omega arith)))
]

-- the longest of two kinds is the longer of the longest of each
pub seek_join : {C : Type 0} (text : List ℕ) (f g : List ℕ → Option C) → seek text (λ t. either (f t) (g t)) ≡ longer (seek text f) (seek text g)
seek_join [] f g = join_zero (f []) (g [])
seek_join (b ∷ text) f g = ap (λ found. one_more found (at_zero (either (f []) (g [])))) (seek_join text (λ t. f (b ∷ t)) (λ t. g (b ∷ t))) ∙ join_one (seek text (λ t. f (b ∷ t))) (seek text (λ t. g (b ∷ t))) (f []) (g [])

-- so many bytes of a class, and nothing where there are none
abbrev pub counted : {C : Type 0} → C → ℕ → Option (C × ℕ)
counted c zero = None
counted c (suc n) = Some (c, suc n)

-- a run of a kind that is not empty is found whole
pub seek_some : {C : Type 0} (p : ℕ → Bool) (text : List ℕ) (c : C) → seek text (λ t. cond (is_run p t) (Some c) None) ≡ counted c (prefix_len p text)
seek_some p [] c = refl
seek_some p (b ∷ text) c = elim (two_ways (p b)) [
  | inl e ↦ ap (λ found. one_more found None)
      (seek_same text (λ t. cond (p b && list_all p t) (Some c) None) (λ t. cond (list_all p t) (Some c) None) (λ t. ap (λ x. cond (x && list_all p t) (Some c) None) e)
      ∙ seek_run p text (λ t. c))
      ∙ ap (counted c) (sym (prefix_len-more p b text e))
  | inr e ↦ ap (λ found. one_more found None) (seek_none text (λ t. cond (p b && list_all p t) (Some c) None) (λ t. ap (λ x. cond (x && list_all p t) (Some c) None) e))
      ∙ ap (counted c) (sym (prefix_len-stop p b text e))
]

-- a text that begins with b, where the empty front has no class
pub seek_first : {C : Type 0} (b : ℕ) (text : List ℕ) (f g : List ℕ → Option C) → f [] ≡ None → ((t : List ℕ) → f (b ∷ t) ≡ g t) → seek (b ∷ text) f ≡ one_more (seek text g) None
seek_first b text f g z h = ap (λ o. one_more (seek text (λ t. f (b ∷ t))) (at_zero o)) z ∙ ap (λ found. one_more found None) (seek_same text (λ t. f (b ∷ t)) g h)

pub seek_first_none : {C : Type 0} (b : ℕ) (text : List ℕ) (f : List ℕ → Option C) → f [] ≡ None → ((t : List ℕ) → f (b ∷ t) ≡ None) → seek (b ∷ text) f ≡ None
seek_first_none b text f z h = seek_first b text f (λ t. None) z h ∙ ap (λ found. one_more found None) (seek_none text (λ t. None) (λ t. refl))

-- what follows the bytes of a kind at the front does not begin with one
pub stops : (p : ℕ → Bool) (text : List ℕ) (c : ℕ) (rest : List ℕ) → drop (prefix_len p text) text ≡ c ∷ rest → p c ≡ false
stops p [] c rest e = absurd cc
stops p (b ∷ text) c rest e = elim (two_ways (p b)) [
  | inl h ↦ stops p text c rest (ap (λ n. drop n (b ∷ text)) (sym (prefix_len-more p b text h)) ∙ e)
  | inr h ↦ (let same : b ∷ text ≡ c ∷ rest = ap (λ n. drop n (b ∷ text)) (sym (prefix_len-stop p b text h)) ∙ e in
      let first : b ≡ c = cc in ap p (sym first) ∙ h)
]
