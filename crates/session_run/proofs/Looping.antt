-- The loop over records: its start, one more call, and a call that was cut short.
use Rattle.std.proofs.Common.{◌≡◌, ℕ, ◌+◌, ◌≤◌, ◌^◌, Option, Some, None, Result, Ok, Err, List, [], ◌∷◌, ◌++◌, length, refl, sym, ap, subst, ◌∙◌, arith, append_assoc, length-append}
use Rattle.std.specs.Option.{option_to_list}
use Rattle.std.specs.Io.KnownBytes.{prepend_known, append_known}
use Rattle.wire_io.specs.declared.status.Failed.{Failed}
use Rattle.wire_io.proofs.Known.{taken_twice, sent_twice}
use Rattle.std.proofs.lemmas.Grind.{flat_map-append}
use Rattle.call_records.specs.declared.calls.Call.{Call}
use Rattle.gl_numbers.specs.Bytes.{le32}
use Rattle.call_records.specs.declared.operations.Operation.{Operation}
use Rattle.call_records.specs.Operations.{row_of}
use Rattle.call_records.proofs.Lengths.{length-encoding}
use Rattle.call_records.specs.Records.{encoding, operation_of, body_of, Fits}
use Rattle.command_stream.specs.declared.command.Command.{Command}
use Rattle.command_stream.specs.Commands.{command_encoding}
use Rattle.gl_model.specs.Shot.{Shot}
use Rattle.gl_model.specs.PageState.{PageState, first_page}
use Rattle.gl_model.specs.DriverState.{DriverState, first_driver}
use Rattle.gl_context.specs.PageStep.{step}
use Rattle.gl_context.specs.PageRun.{Taken, page_after, replies, shots, OutOfMemoryAllowed, all_sent}
use Rattle.gl_context.specs.Stands.{Kept, Stands}
use Rattle.gl_context.specs.Sent.{bytes_of}
use Rattle.session_run.specs.Ends.{Sinks, Ends}
use Rattle.session_run.specs.Serving.{calls_of, records_of, answered_by, HasRoomAfter, AreTaken, Drives, Progress}
use Rattle.session_run.specs.Loop.{SoFar, OneAnswered, OneCut, RanUntilCut, Serves}
use Rattle.session_run.proofs.Answering.{nothing_added}
use Rattle.session_run.proofs.Driving.{drives-none, drives-then}
use Rattle.session_run.proofs.Pushing.{page_after-push, shots-push, all_sent-push, records_of-push, answered_by-push, AreTaken-push}

-- nothing was taken
pub prepend-nothing : (known : Option (List ℕ)) → known ≡ prepend_known [] known
prepend-nothing None = refl
prepend-nothing (Some xs) = refl

-- no call was taken
pub none-taken : AreTaken []
unfolding replies OutOfMemoryAllowed
none-taken = record {
  fits = λ k d within. absurd (omega arith);
  headers = λ k within. absurd (omega arith);
  out_of_memory = refl;
  allowed = tt;
}

-- no command was sent
pub none-driven : Drives first_driver [] (shots first_page []) first_driver
unfolding shots
none-driven = drives-none first_driver

-- before the first record
pub none-answered : (old : Sinks) → Progress old old [] [] first_driver
unfolding replies all_sent
none-answered old = record {
  are = none-taken;
  drives = none-driven;
  answered = nothing_added old.out;
  sends = nothing_added old.stream;
  exact = refl;
}

pub begins : (old : Ends) (kept : Kept) → Stands kept first_page first_driver → SoFar old old kept 8
unfolding page_after
begins old kept stands = record {
  taken = [];
  commands = [];
  driver = first_driver;
  progress = none-answered old.both;
  stands = stands;
  read = prepend-nothing old.left;
  counted = refl;
}

-- one more call was answered
pub answered-more : (old mid new : Sinks) (ts : List Taken) (commands : List Command) (driver : DriverState) (kept : Kept) (call : Call)
    → Progress old mid ts commands driver → Fits call → HasRoomAfter (calls_of ts) → (one : OneAnswered (page_after first_page ts) driver call kept mid new)
    → Progress old new (ts ++ record { call = call; out_of_memory = one.out_of_memory } ∷ []) (commands ++ one.driven.commands) one.driven.driver
answered-more old mid new ts commands driver kept call p fits room one =
    let t : Taken = record { call = call; out_of_memory = one.out_of_memory } in
    let made = option_to_list (step (page_after first_page ts) call one.out_of_memory).made in
    let more = one.driven.commands in
    record {
      are = AreTaken-push ts t p.are fits room one.allowed one.said;
      drives = subst (λ (l : List Shot). Drives first_driver (commands ++ more) l one.driven.driver) (sym (shots-push first_page ts t))
          (drives-then first_driver driver one.driven.driver commands more (shots first_page ts) made p.drives one.driven.drives);
      answered =
          sent_twice old.out mid.out new.out (answered_by ts) _ p.answered one.answered ∙ ap (append_known old.out) (sym (answered_by-push ts t));
      sends =
          sent_twice old.stream mid.stream new.stream (bytes_of commands) (bytes_of more) p.sends one.sends
          ∙ ap (append_known old.stream) (sym (flat_map-append command_encoding commands more));
      exact = ap (λ (l : List Command). l ++ more) p.exact ∙ ap (λ (l : List Command). all_sent first_page ts ++ l) one.driven.exact ∙ sym (all_sent-push first_page ts t);
    }

pub goes_on : (old mid new : Ends) (kept next : Kept) (at size : ℕ) (call : Call) → (so_far : SoFar old mid kept at) → Fits call → at + 8 ≤ 2 ^ 62
    → mid.left ≡ prepend_known (encoding call) new.left → size ≡ length (encoding call)
    → OneAnswered (page_after first_page so_far.taken) so_far.driver call next mid.both new.both → SoFar old new next (at + size)
goes_on old mid new kept next at size call so_far fits room took sized one =
    let ts = so_far.taken in
    let t : Taken = record { call = call; out_of_memory = one.out_of_memory } in
    let within : HasRoomAfter (calls_of ts) = omega (arith, room, so_far.counted) in
    record {
      taken = ts ++ t ∷ [];
      commands = so_far.commands ++ one.driven.commands;
      driver = one.driven.driver;
      progress = answered-more old.both mid.both new.both ts so_far.commands so_far.driver next call so_far.progress fits within one;
      stands = subst (λ (w : PageState). Stands next w one.driven.driver) (sym (page_after-push first_page ts t)) one.stands;
      read = taken_twice old.left mid.left new.left (records_of (calls_of ts)) (encoding call) so_far.read took
          ∙ ap (λ l. prepend_known l new.left) (sym (records_of-push ts t));
      counted =
          let longer = ap length (records_of-push ts t) in
          let parts = length-append (records_of (calls_of ts)) (encoding call) in
          omega (arith, so_far.counted, sized, longer, parts);
    }

-- a write failed in the call that was read after those that were answered
pub cut_short : (old mid new : Ends) (kept : Kept) (at : ℕ) (call : Call) → (so_far : SoFar old mid kept at) → Fits call → at + 8 ≤ 2 ^ 62
    → mid.left ≡ prepend_known (encoding call) new.left → OneCut (page_after first_page so_far.taken) so_far.driver call mid.both new.both
    → RanUntilCut old new
cut_short old mid new kept at call so_far fits room took cut = record {
  taken = so_far.taken;
  commands = so_far.commands;
  driver = so_far.driver;
  mid = mid.both;
  progress = so_far.progress;
  call = call;
  fits = fits;
  room = omega (arith, room, so_far.counted);
  cut = cut;
  read = taken_twice old.left mid.left new.left (records_of (calls_of so_far.taken)) (encoding call) so_far.read took;
}

-- a record's header and body are the record of the one call of its operation and its body
pub one_record : (operation : Operation) (len : ℕ) (body : List ℕ) (call : Call) → operation_of call ≡ operation → body_of call ≡ body → length body ≡ len
    → (le32 (row_of operation).number ++ le32 len) ++ body ≡ encoding call
one_record operation len body call p q long =
    append_assoc (le32 (row_of operation).number) (le32 len) body
    ∙ (ap (λ n. le32 (row_of operation).number ++ (le32 n ++ body)) (sym long) ∙ sym (
    ap (λ (o : Operation). le32 (row_of o).number ++ (le32 (length (body_of call)) ++ body_of call)) p
    ∙ ap (λ (b : List ℕ). le32 (row_of operation).number ++ (le32 (length b) ++ b)) q
    ))

-- how long the record of a call of this body is
pub one_length : (len : ℕ) (body : List ℕ) (call : Call) → body_of call ≡ body → length body ≡ len → 8 + len ≡ length (encoding call)
one_length len body call e long = ap (λ n. 8 + n) (sym long) ∙ (ap (λ (b : List ℕ). 8 + length b) (sym e) ∙ sym (length-encoding call))

-- the body of a record was taken, and its call was answered, or a write failed
pub record TakesOne (operation : Operation) (len : ℕ) (before after : Kept) (old new : Ends) (result : Result (Unit {0}) Failed) : Type 0 where
  pub body : List ℕ
  pub long : length body ≡ len
  pub read : old.left ≡ prepend_known body new.left
  pub serves : Serves operation body before after old.both new.both result

module _ (old : Ends) (here mid left : Option (List ℕ)) (both after : Sinks) (kept next : Kept) (at len : ℕ) (operation : Operation)
    (so_far : SoFar old (record { left = here; both = both }) kept at) (room : at + 8 ≤ 2 ^ 62)
    (header : here ≡ prepend_known (le32 (row_of operation).number ++ le32 len) mid) where
  -- the record of the call that was taken
  one_taken : (result : Result (Unit {0}) Failed)
      → (one : TakesOne operation len kept next (record { left = mid; both = both }) (record { left = left; both = after }) result)
      → here ≡ prepend_known (encoding one.serves.call) left
  one_taken result one =
      taken_twice here mid left (le32 (row_of operation).number ++ le32 len) one.body header one.read
      ∙ ap (λ l. prepend_known l left) (one_record operation len one.body one.serves.call one.serves.operation_is one.serves.body_is one.long)

  -- one more call was read and answered
  pub goes_on_one : (done : Unit {0}) → TakesOne operation len kept next (record { left = mid; both = both }) (record { left = left; both = after }) (Ok done)
      → SoFar old (record { left = left; both = after }) next (at + 8 + len)
  goes_on_one done one =
      subst (λ n. SoFar old (record { left = left; both = after }) next n) (omega arith)
      (goes_on old _ (record { left = left; both = after }) kept next at (8 + len) one.serves.call so_far one.serves.fits room
      (one_taken (Ok done) one) (one_length len one.body one.serves.call one.serves.body_is one.long) (one.serves.answers _ _ so_far.stands))

  -- one more call was read, and a write failed in it
  pub cut_short_one : (failed : Failed) → TakesOne operation len kept next (record { left = mid; both = both }) (record { left = left; both = after }) (Err failed)
      → RanUntilCut old (record { left = left; both = after })
  cut_short_one failed one =
      cut_short old _ (record { left = left; both = after }) kept at one.serves.call so_far one.serves.fits room
      (one_taken (Err failed) one) (one.serves.answers _ _ so_far.stands)
