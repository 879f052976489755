-- The clauses of the run of a session, by its status.
use Rattle.std.proofs.Common.{◌≡◌, true, false, sym, subst, ◌∙◌}
use Rattle.session_run.specs.Outcomes.{IsSessionStatus}
use Rattle.webgl_tool.proofs.tool.run_tool.Goals as goal

pub returns-then-names_run-clause-usage : goal.returns-then-names_run-clause-usage
returns-then-names_run-clause-usage g c =
    let named = sym c.names_run.ensures ∙ c.if-names_run.true in
    (λ e. absurd (subst IsSessionStatus e c.run_session.ensures.never), λ f. absurd (let no : true ≡ false = sym named ∙ f.0 in cc))

pub returns-then-names_run-clause-input_unused : goal.returns-then-names_run-clause-input_unused
returns-then-names_run-clause-input_unused g c = λ e. absurd (subst IsSessionStatus e c.run_session.ensures.never)

pub returns-then-names_run-clause-out_unused : goal.returns-then-names_run-clause-out_unused
returns-then-names_run-clause-out_unused g c = λ e. absurd (subst IsSessionStatus e c.run_session.ensures.never)

pub returns-then-names_run-clause-stream_unused : goal.returns-then-names_run-clause-stream_unused
returns-then-names_run-clause-stream_unused g c = λ e. absurd (subst IsSessionStatus e c.run_session.ensures.never)

pub returns-then-names_run-clause-headline : goal.returns-then-names_run-clause-headline
returns-then-names_run-clause-headline g c = λ named e. (rw e at c.run_session.ensures.outcome)

pub returns-then-names_run-clause-bad_input : goal.returns-then-names_run-clause-bad_input
returns-then-names_run-clause-bad_input g c = λ named at kind e. (rw e at c.run_session.ensures.outcome)

pub returns-then-names_run-clause-truncated : goal.returns-then-names_run-clause-truncated
returns-then-names_run-clause-truncated g c = λ named at e. (rw e at c.run_session.ensures.outcome)

pub returns-then-names_run-clause-after_read_fault : goal.returns-then-names_run-clause-after_read_fault
returns-then-names_run-clause-after_read_fault g c = λ named e. (rw e at c.run_session.ensures.outcome)

pub returns-then-names_run-clause-after_write_fault : goal.returns-then-names_run-clause-after_write_fault
returns-then-names_run-clause-after_write_fault g c = λ named e. (rw e at c.run_session.ensures.outcome)

pub returns-then-names_run-clause-no_replay : goal.returns-then-names_run-clause-no_replay
returns-then-names_run-clause-no_replay g c = λ named command code e. subst IsSessionStatus e c.run_session.ensures.never

pub returns-then-names_run-clause-read_whole : goal.returns-then-names_run-clause-read_whole
returns-then-names_run-clause-read_whole g c = λ named e. (rw e at c.run_session.ensures.reads)

pub returns-then-names_run-clause-bad_input_read : goal.returns-then-names_run-clause-bad_input_read
returns-then-names_run-clause-bad_input_read g c = λ named at kind e. (rw e at c.run_session.ensures.reads)

pub returns-then-names_run-clause-truncated_read : goal.returns-then-names_run-clause-truncated_read
returns-then-names_run-clause-truncated_read g c = λ named at e. (rw e at c.run_session.ensures.reads)

pub returns-then-names_run-clause-before_read_fault : goal.returns-then-names_run-clause-before_read_fault
returns-then-names_run-clause-before_read_fault g c = λ named e. (rw e at c.run_session.ensures.reads)
