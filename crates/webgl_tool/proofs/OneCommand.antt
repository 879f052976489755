-- Words name one command at most.
use Rattle.std.proofs.Common.{◌≡◌, ℕ, true, List, [], ◌∷◌}
use Rattle.webgl_tool.specs.Words.{is_run, is_replay}

-- words that name `run` don't name `replay`
pub one_command : (words : List (List ℕ)) → is_run words ≡ true → is_replay words ≡ true → ⊥
one_command [] run replay = absurd cc
one_command (command ∷ []) run replay = absurd cc
one_command (command ∷ path ∷ []) run replay = absurd cc
one_command (command ∷ path ∷ word ∷ words) run replay = absurd cc
