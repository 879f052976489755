-- What is said of all that a reading finds, and how it is carried through the parts that readings are made of.
use Rattle.std.proofs.Common.{◌≡◌, ℕ, zero, suc, Bool, true, false, cond, ltb, List, map, length, Option, Some, None, refl, ap, subst}
use Rattle.glsl_tree.specs.Token.{PlainToken}
use Rattle.glsl_tree.specs.Statements.{without_line}
use Rattle.glsl_parse.specs.Readings.{Reads, after, past, made, below, Turn, Stop, Go, turn_on, turns, looped}

-- a list of tokens, each on no line
abbrev pub bare : List PlainToken → List PlainToken
bare list = map without_line list

-- this holds of what is read and of the tokens that follow, if something is read
pub record OnRead {A : Type 0} (P : A → List PlainToken → Type 0) (r : Option (A × List PlainToken)) : Type 0 where
  pub given : (a : A) (rest : List PlainToken) → r ≡ Some (a, rest) → P a rest

-- this holds of what a turn reads, if it reads something
pub record OnGo {S : Type 0} (P : S → List PlainToken → Type 0) (turn : Turn S) : Type 0 where
  pub given : (r : Option (S × List PlainToken)) → turn ≡ Go r → OnRead P r

pub on_none : {A : Type 0} (P : A → List PlainToken → Type 0) → OnRead P None
on_none P = record { given = λ a rest e. absurd cc }

-- what is read is one thing
pub same_read : {A : Type 0} (a b : A) (rest end : List PlainToken)
    → ◌≡◌ {A = Option (A × List PlainToken)} (Some (a, rest)) (Some (b, end)) → (a ≡ b) × (rest ≡ end)
same_read {A} a b rest end e =
    let same : ◌≡◌ {A = A × List PlainToken} (a, rest) (b, end) = cc in
    (ap (λ p. p.0) same, ap (λ p. p.1) same)

pub on_some : {A : Type 0} (P : A → List PlainToken → Type 0) (a : A) (rest : List PlainToken) → P a rest → OnRead P (Some (a, rest))
on_some {A} P a rest p = record { given = given }
  where
    given : (b : A) (end : List PlainToken) → ◌≡◌ {A = Option (A × List PlainToken)} (Some (a, rest)) (Some (b, end)) → P b end
    given b end e =
        let same = same_read a b rest end e in
        subst (λ x. P x end) same.0 (subst (λ w. P a w) same.1 p)

pub sound_after : {A B : Type 0} (P : A → List PlainToken → Type 0) (Q : B → List PlainToken → Type 0)
    (r : Option (A × List PlainToken)) (next : A → Reads B)
    → OnRead P r → ((a : A) (rest : List PlainToken) → P a rest → OnRead Q (next a rest)) → OnRead Q (after r next)
sound_after P Q None next p q = on_none Q
sound_after P Q (Some found) next p q = q found.0 found.1 (p.given found.0 found.1 refl)

pub sound_past : {B : Type 0} (Q : B → List PlainToken → Type 0) (r : Option (List PlainToken)) (next : Reads B)
    → ((rest : List PlainToken) → r ≡ Some rest → OnRead Q (next rest)) → OnRead Q (past r next)
sound_past Q None next q = on_none Q
sound_past Q (Some rest) next q = q rest refl

pub sound_made : {A B : Type 0} (Q : B → List PlainToken → Type 0) (make : A → B) (r : Option (A × List PlainToken))
    → OnRead (λ a rest. Q (make a) rest) r → OnRead Q (made make r)
sound_made Q make None p = on_none Q
sound_made Q make (Some found) p = on_some Q (make found.0) found.1 (p.given found.0 found.1 refl)

pub sound_chosen : {A : Type 0} (P : A → List PlainToken → Type 0) (b : Bool) (r : Option (A × List PlainToken))
    → (b ≡ true → OnRead P r) → OnRead P (cond b r None)
sound_chosen P true r p = p refl
sound_chosen P false r p = on_none P

pub sound_either : {A : Type 0} (P : A → List PlainToken → Type 0) (b : Bool) (r s : Option (A × List PlainToken))
    → (b ≡ true → OnRead P r) → (b ≡ false → OnRead P s) → OnRead P (cond b r s)
sound_either P true r s p q = p refl
sound_either P false r s p q = q refl

pub sound_found : {A X : Type 0} (P : A → List PlainToken → Type 0) (o : Option X) (next : X → Option (A × List PlainToken))
    (other : Option (A × List PlainToken))
    → ((x : X) → o ≡ Some x → OnRead P (next x)) → (o ≡ None → OnRead P other) → OnRead P (elim o [
      | Some x ↦ next x
      | None ↦ other
    ])
sound_found P None next other p q = q refl
sound_found P (Some x) next other p q = p x refl

pub sound_below : {B : Type 0} (P : B → List PlainToken → Type 0) (room : ℕ) (next : ℕ → Option (B × List PlainToken))
    → ((n : ℕ) → room ≡ suc n → OnRead P (next n)) → OnRead P (below room next)
sound_below P zero next p = on_none P
sound_below P (suc n) next p = p n refl

pub sound_stop : {S : Type 0} (P : S → List PlainToken → Type 0) → OnGo P Stop
sound_stop P = record { given = λ r e. absurd cc }

pub sound_turn : {B S : Type 0} (P : S → List PlainToken → Type 0) (o : Option B) (next : B → Option (S × List PlainToken))
    → ((b : B) → o ≡ Some b → OnRead P (next b)) → OnGo P (turn_on o next)
sound_turn P None next p = record { given = λ r e. absurd cc }
sound_turn {B} {S} P (Some b) next p = record { given = given }
  where
    given : (r : Option (S × List PlainToken)) → Go (next b) ≡ Go r → OnRead P r
    given r e = let same : next b ≡ r = cc in subst (OnRead P) same (p b refl)

-- what each turn keeps holds of what a loop reads
module _ {S : Type 0} (turn : S → List PlainToken → Turn S) (I : S → List PlainToken → Type 0)
    (keeps : (s : S) (list : List PlainToken) → I s list → OnGo I (turn s list)) where
  sound_turns : (k : ℕ) (s : S) (list : List PlainToken) → I s list → OnRead I (turns turn k s list)
  unfolding turns
  sound_turns zero s list i = on_none I
  sound_turns (suc k) s list i = go (turn s list) (keeps s list i) (λ t rest. sound_turns k t rest)
    where
      go : (t : Turn S) → OnGo I t → ((u : S) (rest : List PlainToken) → I u rest → OnRead I (turns turn k u rest)) → OnRead I (elim t [
        | Stop ↦ Some (s, list)
        | Go found ↦ after found (λ u rest. cond (ltb (length rest) (length list)) (turns turn k u rest) None)
      ])
      go Stop g more = on_some I s list i
      go (Go found) g more = sound_after I I found _ (g.given found refl)
          (λ u rest j. sound_chosen I (ltb (length rest) (length list)) (turns turn k u rest) (λ e. more u rest j))

  pub sound_looped : (s : S) (list : List PlainToken) → I s list → OnRead I (looped turn s list)
  sound_looped s list i = sound_turns (suc (length list)) s list i

-- a loop ends where it stops
module _ {S : Type 0} (turn : S → List PlainToken → Turn S) where
  turns_stop : (k : ℕ) (s u : S) (list rest : List PlainToken) → turns turn k s list ≡ Some (u, rest) → turn u rest ≡ Stop
  unfolding turns
  turns_stop zero s u list rest e = absurd cc
  turns_stop (suc k) s u list rest e = go (turn s list) refl (λ t mid f. turns_stop k t u mid rest f) e
    where
      chosen : (t : S) (mid : List PlainToken) (b : Bool) → (turns turn k t mid ≡ Some (u, rest) → turn u rest ≡ Stop)
          → cond b (turns turn k t mid) None ≡ Some (u, rest) → turn u rest ≡ Stop
      chosen t mid true more f = more f
      chosen t mid false more f = absurd cc

      go : (t : Turn S) → turn s list ≡ t → ((t : S) (mid : List PlainToken) → turns turn k t mid ≡ Some (u, rest) → turn u rest ≡ Stop)
          → ◌≡◌ {A = Option (S × List PlainToken)} (elim t [
            | Stop ↦ Some (s, list)
            | Go found ↦ after found (λ u rest. cond (ltb (length rest) (length list)) (turns turn k u rest) None)
          ]) (Some (u, rest)) → turn u rest ≡ Stop
      go Stop f more e = let same = same_read s u list rest e in
          subst (λ w. turn u w ≡ Stop) same.1 (subst (λ x. turn x list ≡ Stop) same.0 f)
      go (Go None) f more e = absurd cc
      go (Go (Some found)) f more e = chosen found.0 found.1 (ltb (length found.1) (length list)) (more found.0 found.1) e

  pub looped_stops : (s u : S) (list rest : List PlainToken) → looped turn s list ≡ Some (u, rest) → turn u rest ≡ Stop
  looped_stops s u list rest e = turns_stop (suc (length list)) s u list rest e
