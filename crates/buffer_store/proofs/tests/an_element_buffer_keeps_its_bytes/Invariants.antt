-- The ledger that the counter stands over is the one that the blank was made for.
use Rattle.buffer_store.proofs.tests.an_element_buffer_keeps_its_bytes.Given as goal

abbrev pub ghosts-do_all : goal.ghosts-do_all
ghosts-do_all g a = record { name = a.blank.name; parts = a.blank.parts }
