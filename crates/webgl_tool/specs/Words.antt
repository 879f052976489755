-- The words of a command line, after the program's name.
use Rattle.std.specs.Prelude.{ℕ, Bool, false, not, ◌&&◌, List, [], ◌∷◌, length, ◌==◌, codes}
use Rattle.std.specs.Str.{bytes_eq}

-- the words are `run` and a path that isn't empty
abbrev pub is_run : List (List ℕ) → Bool
is_run [] = false
is_run (command ∷ []) = false
is_run (command ∷ path ∷ []) = bytes_eq command (codes "run") && not (length path == 0)
is_run (command ∷ path ∷ word ∷ words) = false

-- the words are `replay` alone
abbrev pub is_replay : List (List ℕ) → Bool
is_replay [] = false
is_replay (command ∷ []) = bytes_eq command (codes "replay")
is_replay (command ∷ word ∷ words) = false
