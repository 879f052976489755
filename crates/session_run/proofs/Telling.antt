-- From the loop over records to what a run did with all its bytes.
use Rattle.std.proofs.Common.{◌≡◌, ℕ, suc, ◌≤◌, Option, Some, None, List, [], ◌∷◌, ◌++◌, length, take, Result, Ok, Err, refl, sym, ap, subst, ◌∙◌, inl, inr, append-nil, append_assoc}
use Rattle.std.specs.Option.{option_to_list}
use Rattle.std.specs.Io.KnownBytes.{prepend_known, append_known}
use Rattle.wire_io.specs.Sources.{WhereTold}
use Rattle.call_records.specs.declared.reading.ReadEnd.{ReadEnd}
use Rattle.call_records.specs.Records.{encoding, session_start, Fits}
use Rattle.call_records.specs.Replies.{reply_encoding}
use Rattle.call_records.specs.Reading.{StartAnswers}
use Rattle.command_stream.specs.Commands.{stream, stream_start}
use Rattle.command_stream.specs.declared.command.Command.{Command}
use Rattle.gl_model.specs.PageState.{PageState, first_page}
use Rattle.gl_model.specs.DriverState.{DriverState, first_driver}
use Rattle.gl_model.specs.Replay.{Replayed}
use Rattle.gl_context.specs.PageStep.{step}
use Rattle.gl_context.specs.PageRun.{Taken, step_taken, page_after, replies, shots, all_sent}
use Rattle.gl_context.specs.Sent.{bytes_of}
use Rattle.session_run.specs.Ends.{Ends, ends}
use Rattle.session_run.specs.Serving.{calls_of, records_of, answered_by, AreTaken, Drives}
use Rattle.session_run.specs.Loop.{ReadWhole, ReadRefused, RanUntilCut, RunsRecords}
use Rattle.session_run.specs.Outcomes.{Served, Did, WhereAllTold}
use Rattle.session_run.specs.declared.records.RunEnd.{RunEnd}
use Rattle.session_run.specs.declared.records.RunEnd.TheVariants.{Read, Write}
use Rattle.session_run.proofs.Driving.{drives-then, driven-faultless, driven-shots, driven-prefixes}
use Rattle.session_run.proofs.Looping.{none-taken, none-driven}
use Rattle.session_run.proofs.OneSession.{session-one, All-map}
use Rattle.session_run.proofs.OneStream.{one-replay}
use Rattle.session_run.proofs.Pushing.{shots-push}
use Rattle.session_run.proofs.Unchanged.{errors-change-nothing}

-- what was left before some bytes were taken, and after
pub record Split (input prefix : List ℕ) (mid : Option (List ℕ)) : Type 0 where
  pub rest : List ℕ
  pub mid_is : mid ≡ Some rest
  pub whole : input ≡ prefix ++ rest

pub split : (input prefix : List ℕ) (old mid : Option (List ℕ)) → old ≡ Some input → old ≡ prepend_known prefix mid → Split input prefix mid
split input prefix old None e p = absurd cc
split input prefix old (Some rest) e p = record { rest = rest; mid_is = refl; whole = cc }

-- a fact about what was left and what is left, where the first is told
pub record Both (P : List ℕ → List ℕ → Type 0) (input : List ℕ) (new : Option (List ℕ)) : Type 0 where
  pub rest : List ℕ
  pub new_is : new ≡ Some rest
  pub holds : P input rest

pub both : (P : List ℕ → List ℕ → Type 0) (input : List ℕ) (old new : Option (List ℕ)) → old ≡ Some input → WhereTold P old new → Both P input new
both P input None new e w = absurd cc
both P input (Some x) None e w = absurd w
both P input (Some x) (Some y) e w =
    let same : x ≡ input = cc in
    record { rest = y; new_is = refl; holds = subst (λ l. P l y) same w }

-- what is held after bytes were added
pub added : (held bytes : List ℕ) (old new : Option (List ℕ)) → old ≡ Some held → new ≡ append_known old bytes → new ≡ Some (held ++ bytes)
added held bytes old new e p = p ∙ ap (λ k. append_known k bytes) e

-- what is held after bytes were added in two parts
pub added-twice : (held first second : List ℕ) (old mid new : Option (List ℕ)) → old ≡ Some held → mid ≡ append_known old first → new ≡ append_known mid second
    → new ≡ Some (held ++ (first ++ second))
added-twice held first second old mid new e p q =
    q ∙ ap (λ k. append_known k second) (added held first old mid e p) ∙ ap Some (append_assoc held first second)

-- bytes that are appended twice
append_known-twice : (known : Option (List ℕ)) (a b : List ℕ) → append_known (append_known known a) b ≡ append_known known (a ++ b)
append_known-twice None a b = refl
append_known-twice (Some x) a b = ap Some (append_assoc x a b)

-- each call has one reply
pub one-each : (w : PageState) (taken : List Taken) → length (replies w taken) ≡ length taken
unfolding replies
one-each w [] = refl
one-each w (t ∷ taken) = ap suc (one-each (step_taken w t).page taken)

-- calls that were answered and whose commands a driver takes were served
abbrev pub served : (taken : List Taken) (commands : List Command) (driver : DriverState) → AreTaken taken
    → Drives first_driver commands (shots first_page taken) driver → commands ≡ all_sent first_page taken → Served taken (answered_by taken) (stream commands)
served taken commands driver are drives exact =
    let faultless = driven-faultless first_driver driver commands (shots first_page taken) drives in
    let drawn = driven-shots first_driver driver commands (shots first_page taken) drives in
    record {
      are = are;
      replied = refl;
      commands = commands;
      sent = refl;
      commands_fit = drives.fits;
      faultless = faultless;
      drawn = drawn;
      exact = exact;
      one_each = one-each first_page taken;
      errors = errors-change-nothing first_page taken;
      from_bytes = λ others fits e.
          (let same = one-replay others commands fits drives.fits (sym e) in
          (ap (λ (r : Replayed). r.fault) same ∙ faultless, ap (λ (r : Replayed). r.shots) same ∙ drawn));
    }

-- no call was served, and the stream has its header
pub served-none : Served [] [] stream_start
unfolding replies all_sent
served-none =
    let s = served [] [] first_driver none-taken none-driven refl in
    subst (λ (l : List ℕ). Served [] [] l) (append-nil stream_start) s

-- bytes after two parts
pub regrouped : (input a b c d rest : List ℕ) → input ≡ a ++ rest → rest ≡ (b ++ c) ++ d → input ≡ a ++ (b ++ c) ++ d
regrouped input a b c d rest e f = e ∙ ap (λ l. a ++ l) f ∙ sym (append_assoc a (b ++ c) d)

-- a call that was cut short after calls that were served
pub told_cut : (unopened left0 : Option (List ℕ)) (mid new : Ends) → left0 ≡ prepend_known session_start mid.left
    → mid.both.stream ≡ append_known unopened stream_start → RanUntilCut mid new → WhereAllTold (Did (Err Write)) (ends left0 mid.both.out unopened) new
told_cut unopened left0 mid new taken started r = λ input held_out held_stream e_in e_out e_stream.
    let s = split input session_start left0 mid.left e_in taken in
    let b = split s.rest (records_of (calls_of r.taken) ++ encoding r.call) mid.left new.left s.mid_is r.read in
    let w = page_after first_page r.taken in
    let t : Taken = record { call = r.call; out_of_memory = r.cut.out_of_memory } in
    let reply = reply_encoding (step w r.call r.cut.out_of_memory).reply in
    let more = r.cut.driven.commands in
    let made = option_to_list (step w r.call r.cut.out_of_memory).made in
    let bytes = stream_start ++ bytes_of r.commands in
    let all : Drives first_driver (r.commands ++ more) (shots first_page r.taken ++ made) r.cut.driven.driver =
    drives-then first_driver r.driver r.cut.driven.driver r.commands more (shots first_page r.taken) made r.progress.drives r.cut.driven.drives in
    record {
      rest = b.rest;
      answered = answered_by r.taken ++ take r.cut.said reply;
      sends = bytes ++ take r.cut.done (bytes_of more);
      left_is = b.mid_is;
      out_is = added-twice held_out (answered_by r.taken) (take r.cut.said reply) mid.both.out r.mid.out new.both.out e_out r.progress.answered r.cut.answered;
      stream_is = added-twice held_stream bytes (take r.cut.done (bytes_of more)) unopened r.mid.stream new.both.stream e_stream
          (r.progress.sends ∙ ap (λ k. append_known k (bytes_of r.commands)) started ∙ append_known-twice unopened stream_start (bytes_of r.commands)) r.cut.sends;
      did = inr (inl (record {
        taken = r.taken;
        replied = answered_by r.taken;
        sent_before = bytes;
        served = served r.taken r.commands r.driver r.progress.are r.progress.drives r.progress.exact;
        last = t;
        fits = r.fits;
        room = r.room;
        read = regrouped input session_start (records_of (calls_of r.taken)) (encoding r.call) b.rest s.rest s.whole b.whole;
        allowed = r.cut.allowed;
        said = r.cut.said;
        said_within = r.cut.said_within;
        replied_partly = refl;
        more = more;
        done = r.cut.done;
        done_within = r.cut.done_within;
        sent_partly = refl;
        after = r.cut.after;
        more_fit = r.cut.driven.drives.fits;
        drawn = driven-shots first_driver r.cut.driven.driver (r.commands ++ more) _ all ∙ sym (shots-push first_page r.taken t);
        faultless = driven-faultless first_driver r.cut.driven.driver (r.commands ++ more) _ all;
        exact = r.cut.driven.exact;
        prefixes = driven-prefixes first_driver r.cut.driven.driver (r.commands ++ more) _ all;
      }));
    }

-- a run whose loop over records ended
pub told_records : (unopened left0 : Option (List ℕ)) (mid new : Ends) (result : Result (Unit {0}) RunEnd) → left0 ≡ prepend_known session_start mid.left
    → mid.both.stream ≡ append_known unopened stream_start → RunsRecords mid new result → WhereAllTold (Did result) (ends left0 mid.both.out unopened) new
told_records unopened left0 mid new (Ok u) taken started r = λ input held_out held_stream e_in e_out e_stream.
    let s = split input session_start left0 mid.left e_in taken in
    let b = both (ReadWhole r.taken) s.rest mid.left new.left s.mid_is r.read in
    let whole = s.whole ∙ ap (λ l. session_start ++ l) b.holds.whole in
    record {
      rest = b.rest;
      answered = answered_by r.taken;
      sends = stream r.commands;
      left_is = b.new_is;
      out_is = added held_out (answered_by r.taken) mid.both.out new.both.out e_out r.progress.answered;
      stream_is = added-twice held_stream stream_start (bytes_of r.commands) unopened mid.both.stream new.both.stream e_stream started r.progress.sends;
      did = record {
        taken = r.taken;
        served = served r.taken r.commands r.driver r.progress.are r.progress.drives r.progress.exact;
        whole = whole;
        nothing = b.holds.nothing;
        room = b.holds.room;
        only = λ calls fits e.
            session-one calls (calls_of r.taken) fits (All-map (λ (t : Taken). t.call) Fits r.taken r.progress.are.fits) (sym e ∙ whole);
      };
    }
told_records unopened left0 mid new (Err (Read end)) taken started r = λ input held_out held_stream e_in e_out e_stream.
    let s = split input session_start left0 mid.left e_in taken in
    let b = both (ReadRefused r.taken end) s.rest mid.left new.left s.mid_is r.read in
    record {
      rest = b.rest;
      answered = answered_by r.taken;
      sends = stream r.commands;
      left_is = b.new_is;
      out_is = added held_out (answered_by r.taken) mid.both.out new.both.out e_out r.progress.answered;
      stream_is = added-twice held_stream stream_start (bytes_of r.commands) unopened mid.both.stream new.both.stream e_stream started r.progress.sends;
      did = inr (record {
        taken = r.taken;
        rest = b.holds.rest;
        before = s.whole ∙ ap (λ l. session_start ++ l) b.holds.before;
        refused = b.holds.refused;
        room = b.holds.room;
        served = served r.taken r.commands r.driver r.progress.are r.progress.drives r.progress.exact;
      });
    }
told_records unopened left0 mid new (Err Write) taken started r = told_cut unopened left0 mid new taken started r

-- a run whose session's header was refused
pub told_start : (unopened left0 left out stream : Option (List ℕ)) (end : ReadEnd) → WhereTold (λ old new. StartAnswers old new (Err end)) left0 left
    → stream ≡ append_known unopened stream_start → WhereAllTold (Did (Err (Read end))) (ends left0 out unopened) (ends left out stream)
told_start unopened left0 left out stream end refused started = λ input held_out held_stream e_in e_out e_stream.
    let b = both (λ old new. StartAnswers old new (Err end)) input left0 left e_in refused in
    record {
      rest = b.rest;
      answered = [];
      sends = stream_start;
      left_is = b.new_is;
      out_is = e_out ∙ ap Some (sym (append-nil held_out));
      stream_is = added held_stream stream_start unopened stream e_stream started;
      did = inl (record { refused = b.holds; served = served-none });
    }

-- a run whose stream's header was cut short
pub told_header : (left out unopened stream : Option (List ℕ)) (n : ℕ) → n ≤ length stream_start → stream ≡ append_known unopened (take n stream_start)
    → WhereAllTold (Did (Err Write)) (ends left out unopened) (ends left out stream)
told_header left out unopened stream n within cut = λ input held_out held_stream e_in e_out e_stream. record {
  rest = input;
  answered = [];
  sends = take n stream_start;
  left_is = e_in;
  out_is = e_out ∙ ap Some (sym (append-nil held_out));
  stream_is = added held_stream (take n stream_start) unopened stream e_stream cut;
  did = inl (record { untaken = refl; unanswered = refl; done = n; done_within = within; sent_partly = refl });
}
