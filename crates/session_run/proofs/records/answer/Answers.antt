-- A call that was answered, or whose commands or reply were cut short.
use Rattle.session_run.proofs.Answering.{one_of_two}
use Rattle.session_run.proofs.records.answer.Goals as goal

pub returns-clause-answers : goal.returns-clause-answers
returns-clause-answers g c w driver stands = one_of_two w driver (g.C.SubjectCall.whole_call c.args.call.now) _ _ _ _ _ _ (c.answer.ensures.steps w driver stands)
