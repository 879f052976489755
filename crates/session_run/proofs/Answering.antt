-- One call answered on both sinks.
use Rattle.std.proofs.Common.{◌≡◌, ℕ, ◌≤◌, false, Option, Some, None, List, [], append-nil, length, take, Result, Ok, Err, inl, inr, refl, sym, ap, subst, ◌∙◌, arith}
use Rattle.std.proofs.Math.Seq.{take-length}
use Rattle.std.specs.Io.KnownBytes.{append_known}
use Rattle.wire_io.specs.declared.status.Failed.{Failed}
use Rattle.wire_io.specs.Sinks.{Sends}
use Rattle.gl_context.specs.declared.context.WriteFault.{WriteFault}
use Rattle.call_records.specs.declared.calls.Call.{Call}
use Rattle.call_records.specs.declared.replies.Reply.{Reply}
use Rattle.call_records.specs.Replies.{reply_encoding}
use Rattle.gl_model.specs.PageState.{PageState}
use Rattle.gl_model.specs.DriverState.{DriverState}
use Rattle.gl_context.specs.PageStep.{is_out_of_memory}
use Rattle.gl_context.specs.Stands.{Kept}
use Rattle.gl_context.specs.Sent.{bytes_of}
use Rattle.gl_context.specs.Steps.{Steps, Stops, RepliesOrStops}
use Rattle.session_run.specs.Ends.{sinks}
use Rattle.session_run.specs.Loop.{OneDriven, AnswersOne, OneCut}

-- the commands of a call that was applied
abbrev driven : (w : PageState) (g : DriverState) (call : Call) (kept : Kept) (old new : Option (List ℕ)) (reply : Reply) → Steps w g call kept old new reply
    → OneDriven w g call (is_out_of_memory reply)
driven w g call kept old new reply s = record {
  commands = s.commands;
  driver = s.driver;
  drives = record { fits = s.fit; replayed = s.replayed };
  exact = s.exact;
}

-- the reply of a call that was applied, written whole or in part
pub answered_one : (w : PageState) (g : DriverState) (call : Call) (kept : Kept) (out0 out stream0 stream : Option (List ℕ)) (reply : Reply)
    (result : Result (Unit {0}) Failed) → Steps w g call kept stream0 stream reply → Sends out0 out result (reply_encoding reply)
    → AnswersOne w g call kept (sinks out0 stream0) (sinks out stream) result
answered_one w g call kept out0 out stream0 stream reply (Ok u) s sends = record {
  out_of_memory = is_out_of_memory reply;
  allowed = s.allowed;
  said = ap is_out_of_memory s.replied;
  driven = driven w g call kept stream0 stream reply s;
  stands = s.stands;
  answered = sends ∙ ap (λ (r : Reply). append_known out0 (reply_encoding r)) s.replied;
  sends = s.sends;
}
answered_one w g call kept out0 out stream0 stream reply (Err e) s sends =
    let bytes = bytes_of s.commands in
    record {
      out_of_memory = is_out_of_memory reply;
      allowed = s.allowed;
      driven = driven w g call kept stream0 stream reply s;
      said = sends.0;
      done = length bytes;
      said_within = subst (λ (r : Reply). sends.0 ≤ length (reply_encoding r)) s.replied sends.1;
      done_within = omega arith;
      answered = sends.2 ∙ ap (λ (r : Reply). append_known out0 (take sends.0 (reply_encoding r))) s.replied;
      sends = s.sends ∙ ap (append_known stream0) (sym (take-length bytes));
      after = λ _. refl;
    }

-- nothing is added
pub nothing_added : (known : Option (List ℕ)) → known ≡ append_known known []
nothing_added None = refl
nothing_added (Some bytes) = ap Some (sym (append-nil bytes))

-- a call whose commands were cut short
pub cut_one : (w : PageState) (g : DriverState) (call : Call) (out stream0 stream : Option (List ℕ)) (failed : WriteFault)
    → Stops w g call stream0 stream failed → OneCut w g call (sinks out stream0) (sinks out stream)
cut_one w g call out stream0 stream failed s = record {
  out_of_memory = false;
  allowed = λ e. absurd cc;
  driven = record { commands = s.commands; driver = s.driver; drives = record { fits = s.fit; replayed = s.replayed }; exact = s.exact };
  said = 0;
  done = s.sends.0;
  said_within = omega arith;
  done_within = s.sends.1;
  answered = nothing_added out;
  sends = s.sends.2;
  after = λ some. absurd (omega arith);
}

-- a call that was answered, or whose commands or reply were cut short
pub one_of_two : (w : PageState) (g : DriverState) (call : Call) (kept : Kept) (out0 out stream0 stream : Option (List ℕ))
    (result : Result (Unit {0}) Failed) → RepliesOrStops w g call kept stream0 stream out0 out result
    → AnswersOne w g call kept (sinks out0 stream0) (sinks out stream) result
one_of_two w g call kept out0 out stream0 stream (Ok u) r = answered_one w g call kept out0 out stream0 stream r.reply (Ok u) r.steps r.written
one_of_two w g call kept out0 out stream0 stream (Err e) (inl r) =
    answered_one w g call kept out0 out stream0 stream r.reply (Err e) r.steps r.written
one_of_two w g call kept out0 out stream0 stream (Err e) (inr r) =
    subst (λ k. OneCut w g call (sinks out0 stream0) (sinks k stream)) (sym r.unwritten) (cut_one w g call out0 stream0 stream r.failed r.stops)
