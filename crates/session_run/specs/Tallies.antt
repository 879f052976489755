-- What a replay counts, and the line that tells it.
use Rattle.std.specs.Prelude.{ℕ, ◌+◌, Option, None, Some, List, [], ◌∷◌, ◌++◌, codes}
use Rattle.std.specs.Fmt.{decimal}
use Rattle.gl_model.specs.Shot as Model
use Rattle.gl_model.specs.Replay.{Replayed}
use Rattle.es2_replay.specs.declared.faults.Shot.{Shot}
use Rattle.es2_replay.specs.declared.faults.Shot.TheVariants.{Draw, Clear, Mipmap}
use Rattle.es2_replay.specs.Applied.{kind_of}
use Rattle.session_run.specs.declared.tally.Tally.{Tally}

-- nothing was made
abbrev pub no_tally : Tally
no_tally = record { draws = 0; clears = 0; mipmaps = 0 }

-- one more of its kind, if there is one
abbrev pub add : Tally → Option Shot → Tally
add tally None = tally
add tally (Some Draw) = record tally { draws = tally.draws + 1 }
add tally (Some Clear) = record tally { clears = tally.clears + 1 }
add tally (Some Mipmap) = record tally { mipmaps = tally.mipmaps + 1 }

-- how many draws, clears and mipmap builds there are among the Shots
abbrev pub tally_of : List Model.Shot → Tally
tally_of [] = no_tally
tally_of (shot ∷ made) = add (tally_of made) (Some (kind_of shot))

-- the line that tells this number of commands, and what they made
abbrev pub counts : ℕ → Tally → List ℕ
counts count tally =
    codes "commands " ++ (decimal count ++ (codes " draws " ++ (decimal tally.draws ++ (codes " clears " ++ (decimal tally.clears
    ++ (codes " mipmaps " ++ (decimal tally.mipmaps ++ codes "\n")))))))

-- the line of a replay
abbrev pub line_of : Replayed → List ℕ
line_of replayed = counts replayed.count (tally_of replayed.shots)
