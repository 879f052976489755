-- The counter's own ledger.
use Rattle.session_run.proofs.session.run_session.Given as goal

abbrev pub ghosts-run_opened : goal.ghosts-run_opened
ghosts-run_opened g a = record { name = a.blank.name; parts = a.blank.parts }
