-- The call of the record was answered.
use Rattle.session_run.proofs.records.serve.Goals as goal

pub returns-clause-serves : goal.returns-clause-serves
returns-clause-serves g c = record {
  call = g.K.Call.SubjectCall.whole_call c.call_of-call.result;
  fits = c.call_of-call.ensures.fits;
  operation_is = c.call_of-call.ensures.operation;
  body_is = c.call_of-call.ensures.body;
  answers = λ w driver stands. c.answer.ensures.answers w driver stands;
}
