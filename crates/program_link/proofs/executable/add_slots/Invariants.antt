-- The name of the uniform and those of the elements so far have their slots.
use Rattle.std.proofs.Common.{ℕ, List, ◌++◌}
use Rattle.program_link.specs.Places.{HasNumbers}
use Rattle.program_link.proofs.ByBytes.{first_names}
use Rattle.program_link.proofs.executable.add_slots.Given as goal

abbrev pub invariant-loop-place : goal.invariant-loop-place
invariant-loop-place l =
    (pairs : List (List ℕ × ℕ)) → HasNumbers l.fn.slots.entries pairs → HasNumbers l.slots.entries (pairs ++ first_names l.uniform l.place)
