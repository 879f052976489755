-- Loops that read on turn by turn, whatever the bound of their turns.
use Rattle.std.proofs.Common.{◌≡◌, ◌<◌, ℕ, zero, suc, cond, ltb, List, length, Option, Some, None, ap, ◌∙◌, arith}
use Rattle.std.proofs.lemmas.Bool.{lt-ltb}
use Rattle.glsl_tree.specs.Token.{PlainToken}
use Rattle.glsl_parse.specs.Readings.{after, Turn, Stop, Go, turns, looped}

-- A loop comes from a state before a list to a state before another list, with any bound that allows a turn for each token and one more.
pub record Runs {S : Type 0} (turn : S → List PlainToken → Turn S) (s : S) (list : List PlainToken) (u : S) (end : List PlainToken) :
    Type 0 where
  pub turned : (k : ℕ) → length list < k → turns turn k s list ≡ Some (u, end)

module _ {S : Type 0} (turn : S → List PlainToken → Turn S) where
  abbrev continued : ℕ → S → List PlainToken → Turn S → Option (S × List PlainToken)
  continued k s list t = elim t [
    | Stop ↦ Some (s, list)
    | Go found ↦ after found (λ u rest. cond (ltb (length rest) (length list)) (turns turn k u rest) None)
  ]

  pub runs_stop : (s : S) (list : List PlainToken) → turn s list ≡ Stop → Runs turn s list s list
  unfolding turns
  runs_stop s list e = record { turned = at }
    where
      at : (k : ℕ) → length list < k → turns turn k s list ≡ Some (s, list)
      at zero h = absurd (omega arith)
      at (suc k) h = ap (continued k s list) e

  pub runs_go : (s t u : S) (list mid end : List PlainToken) → turn s list ≡ Go (Some (t, mid)) → length mid < length list
      → Runs turn t mid u end → Runs turn s list u end
  unfolding turns
  runs_go s t u list mid end e shorter more = record { turned = at }
    where
      at : (k : ℕ) → length list < k → turns turn k s list ≡ Some (u, end)
      at zero h = absurd (omega arith)
      at (suc k) h = ap (continued k s list) e
          ∙ ap (λ b. cond b (turns turn k t mid) None) (lt-ltb (length mid) (length list) shorter) ∙ more.turned k (omega arith)

  pub looped_runs : (s u : S) (list end : List PlainToken) → Runs turn s list u end → looped turn s list ≡ Some (u, end)
  looped_runs s u list end r = r.turned (suc (length list)) (omega arith)
