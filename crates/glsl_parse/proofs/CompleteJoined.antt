-- Parts one after another: the spelling of some is read whole.
use Rattle.std.proofs.Common.{◌≡◌, ◌<◌, List, [], ◌∷◌, ◌++◌, map, length, Some, refl, sym, ap, ◌∙◌, subst, append_assoc, arith, length-append}
use Rattle.std.proofs.lemmas.List.{append-nil}
use Rattle.glsl_tree.specs.Token.{PlainToken}
use Rattle.glsl_tree.specs.Types.{joined}
use Rattle.glsl_parse.specs.Readings.{Reads, made, Turn, Stop, Go, looped}
use Rattle.glsl_parse.proofs.CompleteReadings.{Runs, runs_stop, runs_go, looped_runs}
use Rattle.glsl_parse.proofs.SoundLists.{AllOf}

-- a list that begins with such a token
pub record BeginsWith (P : PlainToken → Type 0) (list : List PlainToken) : Type 0 where
  pub first : PlainToken
  pub more : List PlainToken
  pub are : list ≡ first ∷ more
  pub is : P first

pub begins_on : (P : PlainToken → Type 0) (list more : List PlainToken) → BeginsWith P list → BeginsWith P (list ++ more)
begins_on P list more b = record { first = b.first; more = b.more ++ more; are = ap (λ w. w ++ more) b.are; is = b.is }

pub begins_as : (P Q : PlainToken → Type 0) (list : List PlainToken) → ((t : PlainToken) → P t → Q t) → BeginsWith P list
    → BeginsWith Q list
begins_as P Q list f b = record { first = b.first; more = b.more; are = b.are; is = f b.first b.is }

pub begins_at : (P : PlainToken → Type 0) (t : PlainToken) (more : List PlainToken) → P t → BeginsWith P (t ∷ more)
begins_at P t more p = record { first = t; more = more; are = refl; is = p }

-- what holds of each list that begins so
pub at_first : (P : PlainToken → Type 0) (Q : List PlainToken → Type 0) (list : List PlainToken) → BeginsWith P list
    → ((t : PlainToken) (more : List PlainToken) → P t → Q (t ∷ more)) → Q list
at_first P Q list b f = subst Q (sym b.are) (f b.first b.more b.is)

module _ {A : Type 0} (item : Reads A) (turn : List A → List PlainToken → Turn (List A)) (tokens : A → List PlainToken) (Good : A
    → Type 0) (Follows : List PlainToken → Type 0)
    (complete : (a : A) (rest : List PlainToken) → Good a → Follows rest → item (tokens a ++ rest) ≡ Some (a, rest))
    (follows : (a : A) (rest : List PlainToken) → Good a → Follows (tokens a ++ rest))
    (longer : (a : A) → Good a → 0 < length (tokens a))
    (goes : (done : List A) (a : A) (rest : List PlainToken) → Good a → turn done (tokens a ++ rest)
    ≡ Go (made (λ b. done ++ b ∷ []) (item (tokens a ++ rest)))) where
  follow : (all : List A) (end : List PlainToken) → AllOf Good all → Follows end → Follows (joined (map tokens all) ++ end)
  follow [] end g f = f
  follow (a ∷ all) end g f = subst Follows (sym (append_assoc (tokens a) (joined (map tokens all)) end))
      (follows a (joined (map tokens all) ++ end) g.0)

  runs_all : (done all : List A) (end : List PlainToken) → AllOf Good all → Follows end → ((done : List A) → turn done end ≡ Stop)
      → Runs turn done (joined (map tokens all) ++ end) (done ++ all) end
  runs_all done [] end g f stops = subst (λ w. Runs turn done end w end) (sym (append-nil done)) (runs_stop turn done end (stops done))
  runs_all done (a ∷ all) end g f stops =
      subst (λ w. Runs turn done w (done ++ a ∷ all) end) (sym (append_assoc (tokens a) (joined (map tokens all)) end))
      (runs_go turn done (done ++ a ∷ []) (done ++ a ∷ all) (tokens a ++ (joined (map tokens all) ++ end))
      (joined (map tokens all) ++ end) end
      (goes done a (joined (map tokens all) ++ end) g.0
      ∙ ap (λ r. Go (made (λ b. done ++ b ∷ []) r)) (complete a (joined (map tokens all) ++ end) g.0 (follow all end g.1 f)))
      (omega (arith, longer a g.0, length-append (tokens a) (joined (map tokens all) ++ end)))
      (subst (λ w. Runs turn (done ++ a ∷ []) (joined (map tokens all) ++ end) w end) (append_assoc done (a ∷ []) all)
      (runs_all (done ++ a ∷ []) all end g.1 f stops)))

  pub joined_complete : (all : List A) (end : List PlainToken) → AllOf Good all → Follows end
      → ((done : List A) → turn done end ≡ Stop) → looped turn [] (joined (map tokens all) ++ end) ≡ Some (all, end)
  joined_complete all end g f stops = looped_runs turn [] all (joined (map tokens all) ++ end) end (runs_all [] all end g f stops)
