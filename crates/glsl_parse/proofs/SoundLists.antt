-- Lists with commas between their parts: what is read spells them.
use Rattle.std.proofs.Common.{◌≡◌, false, List, [], ◌∷◌, ◌++◌, map, codes, refl, sym, ap, ◌∙◌, append_assoc}
use Rattle.std.proofs.lemmas.List.{append-nil}
use Rattle.glsl_tree.specs.Token.{PlainToken}
use Rattle.glsl_tree.specs.Expressions.{mark, separated, listed as spelled_listed}
use Rattle.glsl_parse.specs.Readings.{Reads}
use Rattle.glsl_parse.specs.Symbols.{after_mark}
use Rattle.glsl_parse.specs.ExpressionReadings.{listed, more_listed}
use Rattle.glsl_parse.proofs.SoundReadings.{bare, OnRead, OnGo, sound_after, sound_made, sound_turn, sound_looped}
use Rattle.glsl_parse.proofs.SoundSymbols.{mark_read}

-- this holds of each part of a list
abbrev pub AllOf : {A : Type 0} → (A → Type 0) → List A → Type 0
AllOf P [] = Unit {0}
AllOf P (a ∷ more) = P a × AllOf P more

pub all_more : {A : Type 0} (P : A → Type 0) (all : List A) (a : A) → AllOf P all → P a → AllOf P (all ++ a ∷ [])
all_more P [] a h p = (p, tt)
all_more P (b ∷ all) a h p = (h.0, all_more P all a h.1 p)

-- a token after what was spelled
pub closed_by : (all spelled mid rest : List PlainToken) (m : PlainToken) → all ≡ spelled ++ mid → mid ≡ m ∷ rest → all
    ≡ (spelled ++ m ∷ []) ++ rest
closed_by all spelled mid rest m e f = e ∙ ap (λ w. spelled ++ w) f ∙ sym (append_assoc spelled (m ∷ []) rest)

after_more : (parts : List (List PlainToken)) (part : List PlainToken) → spelled_listed false (parts ++ part ∷ [])
    ≡ spelled_listed false parts ++ (mark (codes ",") ∷ part)
after_more [] part = ap (λ w. mark (codes ",") ∷ w) (append-nil part)
after_more (first ∷ parts) part =
    ap (λ w. mark (codes ",") ∷ (first ++ w)) (after_more parts part)
    ∙ ap (λ w. mark (codes ",") ∷ w) (sym (append_assoc first (spelled_listed false parts) (mark (codes ",") ∷ part)))

separated_more : (first : List PlainToken) (parts : List (List PlainToken)) (part : List PlainToken)
    → separated (first ∷ (parts ++ part ∷ [])) ≡ separated (first ∷ parts) ++ (mark (codes ",") ∷ part)
separated_more first parts part =
    ap (λ w. first ++ w) (after_more parts part) ∙ sym (append_assoc first (spelled_listed false parts) (mark (codes ",") ∷ part))

pub map_push : {A B : Type 0} (f : A → B) (all : List A) (a : A) → map f (all ++ a ∷ []) ≡ map f all ++ f a ∷ []
map_push f [] a = refl
map_push f (b ∷ all) a = ap (λ w. f b ∷ w) (map_push f all a)

module _ {A : Type 0} (tokens : A → List PlainToken) (Good : A → Type 0) where
  -- one part is read from these tokens
  pub record IsItem (all : List PlainToken) (a : A) (rest : List PlainToken) : Type 0 where
    pub spelled : all ≡ tokens a ++ bare rest
    pub good : Good a

  -- a list of one part or more is read from these tokens
  pub record AreItems (all : List PlainToken) (parts : List A) (rest : List PlainToken) : Type 0 where
    pub first : A
    pub others : List A
    pub are : parts ≡ first ∷ others
    pub spelled : all ≡ separated (map tokens parts) ++ bare rest
    pub good : AllOf Good parts

  one_more : (all : List PlainToken) (parts : List A) (mid next rest : List PlainToken) (a : A) → AreItems all parts mid → bare mid
      ≡ mark (codes ",") ∷ bare next
      → IsItem (bare next) a rest → AreItems all (parts ++ a ∷ []) rest
  one_more all parts mid next rest a r e i = record {
    first = r.first;
    others = r.others ++ a ∷ [];
    are = ap (λ w. w ++ a ∷ []) r.are;
    spelled = r.spelled ∙ ap (λ w. separated (map tokens w) ++ bare mid) r.are
        ∙ ap (λ w. separated (map tokens (r.first ∷ r.others)) ++ w) (e ∙ ap (λ w. mark (codes ",") ∷ w) i.spelled)
        ∙ sym (append_assoc (separated (map tokens (r.first ∷ r.others))) (mark (codes ",") ∷ tokens a) (bare rest))
        ∙ ap (λ w. w ++ bare rest) (sym (separated_more (tokens r.first) (map tokens r.others) (tokens a)))
        ∙ ap (λ w. separated (tokens r.first ∷ w) ++ bare rest) (sym (map_push tokens r.others a))
        ∙ ap (λ w. separated (map tokens (w ++ a ∷ [])) ++ bare rest) (sym r.are);
    good = all_more Good parts a r.good i.good;
  }

  pub listed_sound : (item : Reads A) → ((list : List PlainToken) → OnRead (IsItem (bare list)) (item list))
      → (list : List PlainToken) → OnRead (AreItems (bare list)) (listed item list)
  unfolding listed more_listed
  listed_sound item sound list = sound_after (IsItem (bare list)) (AreItems (bare list)) (item list) _ (sound list) (λ a mid i.
      sound_looped (more_listed item) (AreItems (bare list)) keeps (a ∷ []) mid (begun a mid i))
    where
      begun : (a : A) (mid : List PlainToken) → IsItem (bare list) a mid → AreItems (bare list) (a ∷ []) mid
      begun a mid i = record {
        first = a;
        others = [];
        are = refl;
        spelled = i.spelled ∙ ap (λ w. w ++ bare mid) (sym (append-nil (tokens a)));
        good = (i.good, tt);
      }

      keeps : (parts : List A) (mid : List PlainToken) → AreItems (bare list) parts mid
          → OnGo (AreItems (bare list)) (more_listed item parts mid)
      keeps parts mid r = sound_turn (AreItems (bare list)) (after_mark (codes ",") mid) _ (λ next e.
          sound_made (AreItems (bare list)) (λ a. parts ++ a ∷ []) (item next)
          (record {
            given = λ a rest f. one_more (bare list) parts mid next rest a r (mark_read (codes ",") mid next e)
                ((sound next).given a rest f);
          }))
