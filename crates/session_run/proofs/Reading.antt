-- What was read of the source alone.
use Rattle.std.proofs.Common.{◌≡◌, ℕ, ◌+◌, ◌≤◌, ◌^◌, Option, Some, None, List, ◌++◌, Result, Ok, Err, refl, ap, subst, arith, inl, inr}
use Rattle.std.specs.Prelude.{All}
use Rattle.std.specs.Io.KnownBytes.{prepend_known}
use Rattle.wire_io.specs.Sources.{WhereTold}
use Rattle.wire_io.specs.declared.status.Status as Statuses
use Rattle.call_records.specs.declared.reading.Step.{Step}
use Rattle.call_records.specs.declared.reading.Unread.{Unread}
use Rattle.call_records.specs.declared.reading.Unread.TheVariants.{End}
use Rattle.call_records.specs.declared.reading.ReadEnd.{ReadEnd}
use Rattle.call_records.specs.declared.reading.ReadEnd.TheVariants.{Truncated, Magic, Version, UnknownOp, BodyLong, BodyShape, AfterEnd, InputLong, ReadFault}
use Rattle.gl_numbers.specs.Bytes.{le32}
use Rattle.call_records.specs.declared.operations.Operation.{Operation}
use Rattle.call_records.specs.Operations.{row_of}
use Rattle.call_records.specs.Parts.{EndsShort, IsHeader}
use Rattle.call_records.proofs.Refusals.{body_refused}
use Rattle.call_records.specs.Records.{session_start, Fits}
use Rattle.call_records.specs.Reading.{StartAnswers, AnswersUnread, Refuses, HasRoom}
use Rattle.gl_context.specs.PageRun.{Taken}
use Rattle.gl_context.specs.Stands.{Kept}
use Rattle.session_run.specs.Ends.{Ends}
use Rattle.session_run.specs.Serving.{calls_of, records_of}
use Rattle.session_run.specs.Statuses.{status_of}
use Rattle.session_run.specs.Loop.{SoFar, ReadWhole, ReadRefused, RanTo, RunsRecords}
use Rattle.session_run.specs.Reads.{WholeSession, RefusesReading, RefusedAs, ReadsAs, SessionReads}
use Rattle.session_run.specs.declared.records.RunEnd.{RunEnd}
use Rattle.session_run.specs.declared.records.RunEnd.TheVariants.{Read, Write}
use Rattle.session_run.proofs.OneSession.{All-map}

-- a fact about what is left, after bytes were taken before
pub told_after : (P Q : List ℕ → List ℕ → Type 0) (old mid new : Option (List ℕ)) (got : List ℕ) → old ≡ prepend_known got mid → WhereTold P mid new
    → ((x y : List ℕ) → P x y → Q (got ++ x) y) → WhereTold Q old new
told_after P Q None mid new got e w make = tt
told_after P Q (Some x) None new got e w make = absurd cc
told_after P Q (Some x) (Some y) None got e w make = absurd w
told_after P Q (Some x) (Some y) (Some z) got e w make =
    let whole : got ++ y ≡ x = cc in
    subst (λ l. Q l z) whole (make y z w)

-- another fact about the same bytes
pub told_else : (P Q : List ℕ → List ℕ → Type 0) (old new : Option (List ℕ)) → WhereTold P old new → ((x y : List ℕ) → P x y → Q x y) → WhereTold Q old new
told_else P Q None new w make = tt
told_else P Q (Some x) None w make = absurd w
told_else P Q (Some x) (Some y) w make = make x y w

-- the closing record was read after the calls so far
pub ran_whole : (old mid : Ends) (left : Option (List ℕ)) (kept : Kept) (at : ℕ) → SoFar old mid kept at → at + 8 ≤ 2 ^ 62
    → WhereTold (λ x y. AnswersUnread at x y (Ok End)) mid.left left → RanTo ReadWhole old (record { left = left; both = mid.both })
ran_whole old mid left kept at so_far room answers = record {
  taken = so_far.taken;
  commands = so_far.commands;
  driver = so_far.driver;
  progress = so_far.progress;
  read = told_after (λ x y. AnswersUnread at x y (Ok End)) (ReadWhole so_far.taken) old.left mid.left left (records_of (calls_of so_far.taken)) so_far.read answers
      (λ x y a. record { whole = ap (λ l. records_of (calls_of so_far.taken) ++ l) a.0; nothing = a.1; room = omega (arith, room, so_far.counted) });
}

-- the room before a refusal, whatever is read where nothing refuses
same_room : (at : ℕ) (end : ReadEnd) → HasRoom {T = Unread} at (Err end) → HasRoom {T = Step} at (Err end)
same_room at (Truncated n) room = room
same_room at (Magic n) room = room
same_room at (Version n) room = room
same_room at (UnknownOp n) room = room
same_room at (BodyLong n) room = room
same_room at (BodyShape n) room = room
same_room at (AfterEnd n) room = room
same_room at (InputLong n) room = room
same_room at ReadFault room = room

-- the record after the calls so far was refused
pub ran_refused : (old mid : Ends) (left : Option (List ℕ)) (kept : Kept) (at : ℕ) (end : ReadEnd) → SoFar old mid kept at
    → HasRoom {T = Unread} at (Err end) → WhereTold (λ x y. AnswersUnread at x y (Err end)) mid.left left
    → RanTo (λ taken. ReadRefused taken end) old (record { left = left; both = mid.both })
ran_refused old mid left kept at end so_far room answers = record {
  taken = so_far.taken;
  commands = so_far.commands;
  driver = so_far.driver;
  progress = so_far.progress;
  read = told_after (λ x y. AnswersUnread at x y (Err end)) (ReadRefused so_far.taken end) old.left mid.left left (records_of (calls_of so_far.taken)) so_far.read answers
      (λ x y a. record {
        rest = x;
        before = refl;
        refused = subst (λ (n : ℕ). Refuses n x y end) so_far.counted a;
        room = subst (λ (n : ℕ). HasRoom {T = Step} n (Err end)) so_far.counted (same_room at end room);
      });
}

-- the room before a refusal of a record whose header was read
pub room_before : (at : ℕ) (end : ReadEnd) → at + 8 ≤ 2 ^ 62 → HasRoom {T = Unread} at (Err end)
room_before at (Truncated n) room = room
room_before at (Magic n) room = room
room_before at (Version n) room = room
room_before at (UnknownOp n) room = room
room_before at (BodyLong n) room = room
room_before at (BodyShape n) room = room
room_before at (AfterEnd n) room = room
room_before at (InputLong n) room = tt
room_before at ReadFault room = room

-- the body of the record after the calls so far was cut short
pub ran_cut : (old here : Ends) (mid left : Option (List ℕ)) (kept : Kept) (at len : ℕ) (operation : Operation) (end : ReadEnd) → SoFar old here kept at
    → at + 8 ≤ 2 ^ 62 → (here.left ≡ prepend_known (le32 (row_of operation).number ++ le32 len) mid) × IsHeader (row_of operation).number len operation
    → EndsShort (at + 8) len mid left end → RanTo (λ taken. ReadRefused taken end) old (record { left = left; both = here.both })
ran_cut old here mid left kept at len operation end so_far room header short =
    ran_refused old here left kept at end so_far (room_before at end room) (body_refused at (at + 8) len operation here.left mid left end refl header short)

-- the calls that were taken have records
calls-fit : (taken : List Taken) → All (λ t. Fits t.call) taken → All Fits (calls_of taken)
calls-fit taken fits = All-map (λ (t : Taken). t.call) Fits taken fits

-- what a loop over records read
pub reads_records : (left0 : Option (List ℕ)) (mid new : Ends) (result : Result (Unit {0}) RunEnd) → left0 ≡ prepend_known session_start mid.left
    → RunsRecords mid new result → ReadsAs result left0 new.left
reads_records left0 mid new (Ok u) taken r =
    told_after (ReadWhole r.taken) WholeSession left0 mid.left new.left session_start taken r.read
    (λ x y w. record {
      calls = calls_of r.taken;
      fits = calls-fit r.taken r.progress.are.fits;
      headers = r.progress.are.headers;
      room = w.room;
      whole = ap (λ l. session_start ++ l) w.whole;
      nothing = w.nothing;
    })
reads_records left0 mid new (Err (Read end)) taken r =
    told_after (ReadRefused r.taken end) (RefusesReading end) left0 mid.left new.left session_start taken r.read
    (λ x y w. inr (record {
      calls = calls_of r.taken;
      fits = calls-fit r.taken r.progress.are.fits;
      headers = r.progress.are.headers;
      room = w.room;
      rest = w.rest;
      before = ap (λ l. session_start ++ l) w.before;
      refused = w.refused;
    }))
reads_records left0 mid new (Err Write) taken r = tt

-- the session's header was refused
pub reads_start : (left0 left : Option (List ℕ)) (end : ReadEnd) → WhereTold (λ x y. StartAnswers x y (Err end)) left0 left → ReadsAs (Err (Read end)) left0 left
reads_start left0 left end refused = told_else (λ x y. StartAnswers x y (Err end)) (RefusesReading end) left0 left refused (λ x y a. inl a)

-- reading ended so, by its status
reads_as : (end : ReadEnd) (status : Statuses.Status) (old new : Option (List ℕ)) → status_of end ≡ status → WhereTold (RefusesReading end) old new
    → WhereTold (RefusedAs status) old new
reads_as end status old new is w = told_else (RefusesReading end) (RefusedAs status) old new w (λ x y r. record { end = end; is = is; refused = r })

pub reads_end : (end : ReadEnd) (old new : Option (List ℕ)) → ReadsAs (Err (Read end)) old new → SessionReads (status_of end) old new
reads_end (Truncated n) old new r = reads_as (Truncated n) _ old new refl r
reads_end (Magic n) old new r = reads_as (Magic n) _ old new refl r
reads_end (Version n) old new r = reads_as (Version n) _ old new refl r
reads_end (UnknownOp n) old new r = reads_as (UnknownOp n) _ old new refl r
reads_end (BodyLong n) old new r = reads_as (BodyLong n) _ old new refl r
reads_end (BodyShape n) old new r = reads_as (BodyShape n) _ old new refl r
reads_end (AfterEnd n) old new r = reads_as (AfterEnd n) _ old new refl r
reads_end (InputLong n) old new r = reads_as (InputLong n) _ old new refl r
reads_end ReadFault old new r = reads_as ReadFault _ old new refl r
