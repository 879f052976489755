-- What a replay did, and what the last flush made of it.
use Rattle.std.proofs.Common.{◌≡◌, Err, sym, ap, subst, ◌∙◌, inl, inr}
use Rattle.wire_io.specs.declared.status.Status as Statuses
use Rattle.wire_io.specs.declared.status.Status.TheVariants as Status
use Rattle.command_stream.specs.Commands.{stream}
use Rattle.session_run.specs.ReplayOutcomes.{Stops, IsLeft, IsReplayed}
use Rattle.session_run.proofs.Telling.{both}
use Rattle.session_run.proofs.ReplayCompleting.{ends_as, replayed_as, not-faulted}
use Rattle.session_run.proofs.ReplayFinishing.{told_line}
use Rattle.session_run.proofs.replay.replay_session.Goals as goal

pub returns-in-Ok-clause-outcome : goal.returns-in-Ok-clause-outcome
returns-in-Ok-clause-outcome g c = told_line c.in-Ok.count c.in-Ok.tally c.tell.result _ _ _ _ c.tell.ensures.tells c.in-Ok.ensures.played

pub returns-in-Err-clause-complete : goal.returns-in-Err-clause-complete
returns-in-Err-clause-complete g c = λ commands fits e short input_stood out_stood.
    (let b = both (λ old new. Stops old c.in-Err.end × IsLeft c.in-Err.end new) (stream commands) _ _ e c.in-Err.ensures.played in
    let ends = ends_as commands c.in-Err.end fits short b.holds.0 in
    elim c.finish.ensures.finishes.cases [
      | inl stood ↦
          subst (λ (s : Statuses.Status). IsReplayed commands s) (sym (stood.0 ∙ c.status.ensures))
          (replayed_as commands c.in-Err.end ends (λ is. input_stood (c.replay_all.ensures.cause.read (c.in-Err.is ∙ ap Err is))))
      | inr failed ↦ absurd (out_stood failed.1)
    ])

pub returns-in-Err-clause-no_fault : goal.returns-in-Err-clause-no_fault
returns-in-Err-clause-no_fault g c = λ commands fits e faultless number code is.
    (let b = both (λ old new. Stops old c.in-Err.end × IsLeft c.in-Err.end new) (stream commands) _ _ e c.in-Err.ensures.played in
    elim c.finish.ensures.finishes.cases [
      | inl stood ↦ not-faulted commands c.in-Err.end number code fits b.holds.0 faultless (sym (stood.0 ∙ c.status.ensures) ∙ is)
      | inr failed ↦ (let no : Status.WriteFault ≡ Status.ReplayFault number code = sym failed.0 ∙ is in absurd cc)
    ])
