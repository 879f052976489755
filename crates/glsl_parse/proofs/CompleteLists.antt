-- Lists with commas between their parts: the spelling of one is read whole.
use Rattle.std.proofs.Common.{◌≡◌, false, List, [], ◌∷◌, ◌++◌, map, Some, None, codes, sym, ap, ◌∙◌, subst, append_assoc, arith, length-append}
use Rattle.std.proofs.lemmas.List.{append-nil}
use Rattle.glsl_tree.specs.Token.{PlainToken}
use Rattle.glsl_tree.specs.Expressions.{mark, separated, listed as spelled_listed}
use Rattle.glsl_parse.specs.Readings.{Reads, after, made, Stop, Go, turn_on, looped}
use Rattle.glsl_parse.specs.Symbols.{is_mark, after_mark}
use Rattle.glsl_parse.specs.ExpressionReadings.{listed, more_listed}
use Rattle.glsl_parse.proofs.CompleteReadings.{Runs, runs_stop, runs_go, looped_runs}
use Rattle.glsl_parse.proofs.SoundLists.{AllOf}

module _ {A : Type 0} (item : Reads A) (tokens : A → List PlainToken) (Good : A → Type 0) (Follows : List PlainToken → Type 0)
    (complete : (a : A) (rest : List PlainToken) → Good a → Follows rest → item (tokens a ++ rest) ≡ Some (a, rest))
    (comma_follows : (rest : List PlainToken) → Follows (mark (codes ",") ∷ rest)) where
  abbrev spelled_more : List A → List PlainToken
  spelled_more others = spelled_listed false (map tokens others)

  more_follow : (others : List A) (end : List PlainToken) → Follows end → Follows (spelled_more others ++ end)
  more_follow [] end f = f
  more_follow (a ∷ others) end f = comma_follows _

  item_read : (a : A) (others : List A) (end : List PlainToken) → Good a → Follows end
      → item ((tokens a ++ spelled_more others) ++ end) ≡ Some (a, spelled_more others ++ end)
  item_read a others end g f = ap item (append_assoc (tokens a) (spelled_more others) end)
      ∙ complete a (spelled_more others ++ end) g (more_follow others end f)

  one_turn : (done : List A) (a : A) (others : List A) (end : List PlainToken) → Good a → Follows end
      → more_listed item done (mark (codes ",") ∷ ((tokens a ++ spelled_more others) ++ end))
      ≡ Go (Some (done ++ a ∷ [], spelled_more others ++ end))
  unfolding more_listed after_mark is_mark
  one_turn done a others end g f = ap (λ r. Go (made (λ b. done ++ b ∷ []) r)) (item_read a others end g f)

  last_turn : (done : List A) (end : List PlainToken) → after_mark (codes ",") end ≡ None → more_listed item done end ≡ Stop
  unfolding more_listed
  last_turn done end e = ap (λ o. turn_on o (λ rest. made (λ b. done ++ b ∷ []) (item rest))) e

  runs_all : (done others : List A) (end : List PlainToken) → AllOf Good others → Follows end → after_mark (codes ",") end ≡ None
      → Runs (more_listed item) done (spelled_more others ++ end) (done ++ others) end
  runs_all done [] end g f e = subst (λ w. Runs (more_listed item) done end w end) (sym (append-nil done))
      (runs_stop (more_listed item) done end (last_turn done end e))
  runs_all done (a ∷ others) end g f e =
      runs_go (more_listed item) done (done ++ a ∷ []) (done ++ a ∷ others)
      (mark (codes ",") ∷ ((tokens a ++ spelled_more others) ++ end)) (spelled_more others ++ end) end
      (one_turn done a others end g.0 f)
      (omega (
        arith,
        length-append (tokens a ++ spelled_more others) end,
        length-append (tokens a) (spelled_more others),
        length-append (spelled_more others) end,
      ))
      (subst (λ w. Runs (more_listed item) (done ++ a ∷ []) (spelled_more others ++ end) w end) (append_assoc done (a ∷ []) others)
      (runs_all (done ++ a ∷ []) others end g.1 f e))

  pub listed_complete : (first : A) (others : List A) (end : List PlainToken) → AllOf Good (first ∷ others) → Follows end
      → after_mark (codes ",") end ≡ None
      → listed item (separated (map tokens (first ∷ others)) ++ end) ≡ Some (first ∷ others, end)
  unfolding listed
  listed_complete first others end g f e =
      ap (λ r. after r (λ a rest. looped (more_listed item) (a ∷ []) rest)) (item_read first others end g.0 f)
      ∙ looped_runs (more_listed item) (first ∷ []) (first ∷ others) (spelled_more others ++ end) end
      (runs_all (first ∷ []) others end g.1 f e)
