-- Each call whose record is read and that is answered joins those that were taken.
use Rattle.std.proofs.Common.{arith, ◌≤◌, ◌+◌, ◌^◌, length, sym, ap, ◌∙◌}
use Rattle.std.specs.Io.KnownBytes.{prepend_known}
use Rattle.std.proofs.lemmas.List.{length-take-le}
use Rattle.session_run.specs.Ends.{ends, faults_of}
use Rattle.session_run.specs.Causes.{Later}
use Rattle.session_run.proofs.Looping.{TakesOne, begins, goes_on_one, cut_short_one}
use Rattle.session_run.proofs.Reading.{ran_cut}
use Rattle.session_run.proofs.records.run_records.Goals as goal
use Rattle.session_run.proofs.records.run_records.Goals.{in-Some, in-None+in-Ok}

pub loop-operation-init : goal.loop-operation-init
loop-operation-init g c = record {
  so_far = begins _ c.args.context.now c.requires;
  within = omega arith;
  later = record { input = omega arith; out = omega arith; stream = omega arith };
}

pub returns-in-Err-read_body-clause-runs : goal.returns-in-Err-read_body-clause-runs
returns-in-Err-read_body-clause-runs g c =
    let header = rw c.in-Ok-Call.field-0-is at c.in-Ok-Call.ensures.taken in
    ran_cut _ _ _ _ _ _ c.in-Ok-Call.len c.in-Ok-Call.operation c.in-Err-read_body.end c.loop-operation.invariant.so_far c.in-Ok-Call.ensures.room header
    c.in-Err-read_body.ensures.short

pub returns-in_default-clause-runs : goal.returns-in_default-clause-runs
returns-in_default-clause-runs g c =
    let here = g.S.Source.left c.loop-operation.input in
    let mid = g.S.Source.left c.read_next.new.input in
    let header = rw c.in-Ok-Call.field-0-is at c.in-Ok-Call.ensures.taken in
    let one : TakesOne c.in-Ok-Call.operation c.in-Ok-Call.len c.loop-operation.context c.match-peek.context
    (ends mid (g.O.Sink.held c.loop-operation.out) (g.T.Sink.held c.loop-operation.stream))
    (ends (g.S.Source.left c.match-peek.input) (g.O.Sink.held c.match-peek.out) (g.T.Sink.held c.match-peek.stream)) c.match-peek.served =
    elim c.match-peek.branch [
      | in-Some w ↦ rw (w.context-is, w.input-is, w.out-is, w.stream-is, w.served-is) (record {
        body = w.in-Some.body.now;
        long = ap length w.in-Some.ensures.1 ∙ length-take-le c.in-Ok-Call.len _ w.in-Some.ensures.0;
        read = w.skip.ensures.taken ∙ ap (λ b. prepend_known b (g.S.Source.left w.skip.new.self)) (sym w.in-Some.ensures.1);
        serves = w.serve_any-served.ensures.serves;
      })
      | in-None+in-Ok w ↦ rw (w.context-is, w.input-is, w.out-is, w.stream-is, w.served-is) (record {
        body = w.in-Ok.body.now;
        long = w.in-Ok.ensures.len;
        read = w.in-Ok.ensures.taken;
        serves = w.serve_any.ensures.serves;
      })
    ] in
    cut_short_one _ here mid _ _ _ _ _ c.loop-operation.at c.in-Ok-Call.len c.in-Ok-Call.operation c.loop-operation.invariant.so_far
    c.in-Ok-Call.ensures.room header.0 c.in_default.field-0 (rw c.in_default.is at one)

pub loop-operation-preserved : goal.loop-operation-preserved
loop-operation-preserved g c =
    let here = g.S.Source.left c.loop-operation.input in
    let mid = g.S.Source.left c.read_next.new.input in
    let header = rw c.in-Ok-Call.field-0-is at c.in-Ok-Call.ensures.taken in
    let one : TakesOne c.in-Ok-Call.operation c.in-Ok-Call.len c.loop-operation.context c.match-peek.context
    (ends mid (g.O.Sink.held c.loop-operation.out) (g.T.Sink.held c.loop-operation.stream))
    (ends (g.S.Source.left c.match-peek.input) (g.O.Sink.held c.match-peek.out) (g.T.Sink.held c.match-peek.stream)) c.match-peek.served =
    elim c.match-peek.branch [
      | in-Some w ↦ rw (w.context-is, w.input-is, w.out-is, w.stream-is, w.served-is) (record {
        body = w.in-Some.body.now;
        long = ap length w.in-Some.ensures.1 ∙ length-take-le c.in-Ok-Call.len _ w.in-Some.ensures.0;
        read = w.skip.ensures.taken ∙ ap (λ b. prepend_known b (g.S.Source.left w.skip.new.self)) (sym w.in-Some.ensures.1);
        serves = w.serve_any-served.ensures.serves;
      })
      | in-None+in-Ok w ↦ rw (w.context-is, w.input-is, w.out-is, w.stream-is, w.served-is) (record {
        body = w.in-Ok.body.now;
        long = w.in-Ok.ensures.len;
        read = w.in-Ok.ensures.taken;
        serves = w.serve_any.ensures.serves;
      })
    ] in
    let later : Later (faults_of (g.S.Source.faults c.read_next.new.input) (g.O.Sink.faults c.loop-operation.out) (g.T.Sink.faults c.loop-operation.stream))
    (faults_of (g.S.Source.faults c.match-peek.input) (g.O.Sink.faults c.match-peek.out) (g.T.Sink.faults c.match-peek.stream)) =
    elim c.match-peek.branch [
      | in-Some w ↦ rw (w.input-is, w.out-is, w.stream-is) (record {
        input = omega (arith, w.skip.ensures.faults);
        out = w.serve_any-served.ensures.cause.out_later;
        stream = w.serve_any-served.ensures.cause.stream_later;
      })
      | in-None+in-Ok w ↦ rw (w.input-is, w.out-is, w.stream-is) (record {
        input = w.in-Ok.ensures.cause.later;
        out = w.serve_any.ensures.cause.out_later;
        stream = w.serve_any.ensures.cause.stream_later;
      })
    ] in
    let before = c.loop-operation.invariant.later in
    let room : c.loop-operation.at + 8 ≤ 2 ^ 62 = c.in-Ok-Call.ensures.room in
    record {
      so_far = goes_on_one _ here mid _ _ _ _ _ c.loop-operation.at c.in-Ok-Call.len c.in-Ok-Call.operation c.loop-operation.invariant.so_far
          room header.0 c.in-Ok-served.field-0 (rw c.in-Ok-served.is at one);
      within = omega (arith, room, header.1.within);
      later = record {
        input = omega (arith, before.input, c.in-Ok-Call.ensures.cause.later, later.input);
        out = omega (arith, before.out, later.out);
        stream = omega (arith, before.stream, later.stream);
      };
    }
