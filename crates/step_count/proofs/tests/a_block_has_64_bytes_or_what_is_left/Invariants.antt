-- The ledger that the counter stands over is the one that the blank was made for.
use Rattle.step_count.proofs.tests.a_block_has_64_bytes_or_what_is_left.Given as goal

abbrev pub ghosts-read_blocks : goal.ghosts-read_blocks
ghosts-read_blocks g a = record { name = a.blank.name; parts = a.blank.parts }
