-- Parts that fit and are not too high, alone and in lists.
use Rattle.std.proofs.Common.{◌≡◌, ◌≤◌, ◌⊎◌, inl, inr, ℕ, Bool, true, List, [], ◌∷◌, ◌++◌, map, Option, refl, sym, ap, ◌∙◌, subst, append_assoc, arith}
use Rattle.std.specs.List.{list_all}
use Rattle.std.proofs.lemmas.List.{append-nil}
use Rattle.std.proofs.lemmas.Bool.{and_parts, and_from}
use Rattle.glsl_tree.specs.Token.{PlainToken}
use Rattle.glsl_tree.specs.Expressions.{highest}
use Rattle.glsl_tree.specs.Types.{joined, is_any}
use Rattle.glsl_parse.specs.Readings.{Reads, made, Turn, Stop, Go, looped}
use Rattle.glsl_parse.proofs.SoundReadings.{bare, OnRead, OnGo, sound_made, sound_stop, sound_looped}
use Rattle.glsl_parse.proofs.SoundLists.{AllOf, all_more, map_push, IsItem, AreItems}

-- a part fits, and has at most this height
pub record Fits {A : Type 0} (fit : A → Bool) (height : A → ℕ) (n : ℕ) (a : A) : Type 0 where
  pub fits : fit a ≡ true
  pub high : height a ≤ n

-- what is read spells the tokens, fits, and has at most this height
abbrev pub Sound : {A : Type 0} → (A → List PlainToken) → (A → Bool) → (A → ℕ) → ℕ → Reads A → Type 0
Sound tokens fit height n reads = (list : List PlainToken) → OnRead (IsItem tokens (Fits fit height n) (bare list)) (reads list)

pub all_fit : {A : Type 0} (fit : A → Bool) (height : A → ℕ) (n : ℕ) (all : List A) → AllOf (Fits fit height n) all → list_all fit all
    ≡ true
all_fit fit height n [] h = refl
all_fit fit height n (a ∷ all) h = and_from _ _ h.0.fits (all_fit fit height n all h.1)

pub all_high : {A : Type 0} (fit : A → Bool) (height : A → ℕ) (n : ℕ) (all : List A) → AllOf (Fits fit height n) all
    → highest (map height all) ≤ n
unfolding highest
all_high fit height n [] h = omega arith
all_high fit height n (a ∷ all) h = omega (arith, h.0.high, all_high fit height n all h.1)

pub all_from : {A : Type 0} (fit : A → Bool) (height : A → ℕ) (n : ℕ) (all : List A) → list_all fit all ≡ true
    → highest (map height all) ≤ n → AllOf (Fits fit height n) all
unfolding highest
all_from fit height n [] f h = tt
all_from fit height n (a ∷ all) f h =
    let both = and_parts _ _ f in
    (record { fits = both.0; high = omega (arith, h) }, all_from fit height n all both.1 (omega (arith, h)))

pub any_of_items : {A : Type 0} (tokens : A → List PlainToken) (Good : A → Type 0) (all : List PlainToken) (parts : List A)
    (rest : List PlainToken)
    → AreItems tokens Good all parts rest → is_any parts ≡ true
any_of_items tokens Good all parts rest r = ap is_any r.are

joined_more : (parts : List (List PlainToken)) (part : List PlainToken) → joined (parts ++ part ∷ []) ≡ joined parts ++ part
joined_more [] part = append-nil part
joined_more (first ∷ parts) part = ap (λ w. first ++ w) (joined_more parts part) ∙ sym (append_assoc first (joined parts) part)

-- parts one after another
module _ {A : Type 0} (tokens : A → List PlainToken) (Good : A → Type 0) where
  -- parts are read from these tokens
  pub record AreJoined (all : List PlainToken) (parts : List A) (rest : List PlainToken) : Type 0 where
    pub spelled : all ≡ joined (map tokens parts) ++ bare rest
    pub good : AllOf Good parts

  -- A turn stops, or takes one part more.
  abbrev pub TakesParts : Reads A → (List A → List PlainToken → Turn (List A)) → Type 0
  TakesParts item turn = (done : List A) (list : List PlainToken)
      → (turn done list ≡ Stop) ⊎ (turn done list ≡ Go (made (λ a. done ++ a ∷ []) (item list)))

  on_turn : {S : Type 0} (P : S → List PlainToken → Type 0) (t u : Turn S) → t ≡ u → OnGo P u → OnGo P t
  on_turn P t u e g = record { given = λ r f. g.given r (sym e ∙ f) }

  go_on : {S : Type 0} (P : S → List PlainToken → Type 0) (r : Option (S × List PlainToken)) → OnRead P r → OnGo P (Go r)
  go_on {S} P r p = record { given = given }
    where
      given : (q : Option (S × List PlainToken)) → Go r ≡ Go q → OnRead P q
      given q e = let same : r ≡ q = cc in subst (OnRead P) same p

  one_more : (all : List PlainToken) (parts : List A) (mid rest : List PlainToken) (a : A) → AreJoined all parts mid
      → IsItem tokens Good (bare mid) a rest → AreJoined all (parts ++ a ∷ []) rest
  one_more all parts mid rest a r i = record {
    spelled = r.spelled ∙ ap (λ w. joined (map tokens parts) ++ w) i.spelled
        ∙ sym (append_assoc (joined (map tokens parts)) (tokens a) (bare rest))
        ∙ ap (λ w. w ++ bare rest) (sym (joined_more (map tokens parts) (tokens a)) ∙ ap joined (sym (map_push tokens parts a)));
    good = all_more Good parts a r.good i.good;
  }

  pub joined_sound : (item : Reads A) (turn : List A → List PlainToken → Turn (List A)) → TakesParts item turn
      → ((list : List PlainToken) → OnRead (IsItem tokens Good (bare list)) (item list))
      → (list : List PlainToken) → OnRead (AreJoined (bare list)) (looped turn [] list)
  joined_sound item turn takes sound list = sound_looped turn (AreJoined (bare list)) keeps [] list (record { spelled = refl; good = tt })
    where
      keeps : (parts : List A) (mid : List PlainToken) → AreJoined (bare list) parts mid → OnGo (AreJoined (bare list)) (turn parts mid)
      keeps parts mid r = go (takes parts mid)
        where
          go : (turn parts mid ≡ Stop) ⊎ (turn parts mid ≡ Go (made (λ a. parts ++ a ∷ []) (item mid)))
              → OnGo (AreJoined (bare list)) (turn parts mid)
          go (inl e) = on_turn (AreJoined (bare list)) (turn parts mid) Stop e (sound_stop (AreJoined (bare list)))
          go (inr e) = on_turn (AreJoined (bare list)) (turn parts mid) _ e
              (go_on (AreJoined (bare list)) _ (sound_made (AreJoined (bare list)) (λ a. parts ++ a ∷ []) (item mid)
              (record { given = λ a rest f. one_more (bare list) parts mid rest a r ((sound mid).given a rest f) })))
