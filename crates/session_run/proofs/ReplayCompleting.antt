-- A whole stream is replayed to its end, or to the fault of its replay.
use Rattle.std.proofs.Common.{◌≡◌, ℕ, ◌<◌, ◌≤◌, ◌^◌, true, Option, Some, None, List, [], ◌∷◌, ◌++◌, length, map, refl, sym, ap, subst, ◌∙◌, arith, inl, inr, append-nil, append_assoc, length-append}
use Rattle.std.specs.Prelude.{All}
use Rattle.std.specs.List.{flat_map}
use Rattle.std.proofs.lemmas.List.{append_cancel_left, map-append}
use Rattle.std.proofs.lemmas.List.Elements.{All-nil, All-cons, All-head, All-tail}
use Rattle.wire_io.specs.declared.status.Status.TheVariants as Status
use Rattle.command_stream.specs.declared.command.Command.{Command}
use Rattle.command_stream.specs.Commands.{op_of, body_of, command_encoding, stream_start, stream}
use Rattle.command_stream.specs.Commands.{Fits, parts_of}
use Rattle.command_stream.specs.Decoding.{Decoded}
use Rattle.command_stream.specs.DecoderState.{DecoderState}
use Rattle.command_stream.proofs.Pieces.{length-start, length-two}
use Rattle.command_stream.proofs.OneEncoding.{SameCommand, command_encoding-one, encoding-some, same_fronts}
use Rattle.command_stream.proofs.Decoding.{decoded-stream, decoded-one, stream-not-bad}
use Rattle.gl_model.specs.DriverState.{first_driver}
use Rattle.gl_model.specs.DriverStep.{Fault}
use Rattle.gl_model.specs.Replay.{Replayed, replay}
use Rattle.session_run.specs.ReplayOutcomes.{Begins, HasOtherStart, HasBadHeader, HasLateHeader, EndsInCommand, HasFault, FaultsAt, Stops, IsReplayed}
use Rattle.session_run.specs.Statuses.{status_of_end}
use Rattle.session_run.specs.declared.replay_end.ReplayEnd.{ReplayEnd}
use Rattle.session_run.specs.declared.replay_end.ReplayEnd.TheVariants.{Truncated, Magic, Version, Refused, Late, Faults, Memory, Read}
use Rattle.session_run.proofs.OneStream.{said-replay}
use Rattle.session_run.proofs.Playing.{length-stream}

-- what is left of commands after some that begin them
record RestOf (done todo : List Command) (rest : List ℕ) : Type 0 where
  later : List Command
  fits : All Fits later
  left : rest ≡ flat_map command_encoding later
  same : map parts_of todo ≡ map parts_of (done ++ later)

rest_of : (done todo : List Command) (rest : List ℕ) → All Fits done → All Fits todo → flat_map command_encoding done ++ rest ≡ flat_map command_encoding todo → RestOf done todo rest
rest_of [] todo rest took fits e = record { later = todo; fits = fits; left = e; same = refl }
rest_of (c ∷ done) [] rest took fits e =
    absurd (encoding-some c (flat_map command_encoding done ++ rest) (sym e ∙ append_assoc (command_encoding c) (flat_map command_encoding done) rest))
rest_of (c ∷ done) (d ∷ todo) rest took fits e =
    let one : SameCommand c d (flat_map command_encoding done ++ rest) (flat_map command_encoding todo) =
    command_encoding-one c d _ _ (All-head Fits c done took) (All-head Fits d todo fits) (sym (append_assoc (command_encoding c) (flat_map command_encoding done) rest) ∙ e) in
    let more : RestOf done todo rest = rest_of done todo rest (All-tail Fits c done took) (All-tail Fits d todo fits) one.rest in
    record {
      later = more.later;
      fits = more.fits;
      left = more.left;
      same = ap (λ h. h ∷ map parts_of todo) (sym one.command) ∙ ap (λ t. parts_of c ∷ t) more.same;
    }

-- what is left of a stream after commands that begin it
after : (commands : List Command) → All Fits commands → (b : Begins (stream commands)) → RestOf b.commands commands b.rest
after commands fits b =
    rest_of b.commands commands b.rest b.fits fits
    (append_cancel_left stream_start _ _ (sym (append_assoc stream_start (flat_map command_encoding b.commands) b.rest) ∙ sym b.are))

-- a fault after commands that begin a stream is its replay's
pub fault-of : (commands : List Command) (number code : ℕ) → All Fits commands → HasFault (stream commands) number code → FaultsAt (replay first_driver commands) number code
fault-of commands number code fits h =
    let r : RestOf h.begins.commands commands h.begins.rest = after commands fits h.begins in
    let next : RestOf (h.command ∷ []) r.later h.more =
    rest_of (h.command ∷ []) r.later h.more (All-cons Fits h.command [] h.fits (All-nil Fits)) r.fits
    (ap (λ l. l ++ h.more) (append-nil (command_encoding h.command)) ∙ sym h.next ∙ r.left) in
    let same : map parts_of commands ≡ map parts_of (h.begins.commands ++ h.command ∷ next.later) =
    r.same ∙ map-append parts_of h.begins.commands r.later ∙ ap (λ l. map parts_of h.begins.commands ++ l) next.same ∙ sym (map-append parts_of h.begins.commands (h.command ∷ next.later)) in
    let one : replay first_driver commands ≡ replay first_driver (h.begins.commands ++ h.command ∷ next.later) =
    said-replay first_driver commands (h.begins.commands ++ h.command ∷ next.later) same in
    subst (λ (r : Replayed). FaultsAt r number code) (sym one) (h.faults next.later)

-- commands that aren't none have a header
header-long : (commands : List Command) → 0 < length (flat_map command_encoding commands) → 8 ≤ length (flat_map command_encoding commands)
header-long [] some = absurd (omega (arith, some))
header-long (c ∷ commands) some =
    omega (arith, length-two (op_of c) (length (body_of c)) (body_of c), length-append (command_encoding c) (flat_map command_encoding commands))

-- in a stream of at most 2^62 bytes no header is too late
not-late : (commands : List Command) (at : ℕ) → All Fits commands → length (stream commands) ≤ 2 ^ 62 → HasLateHeader (stream commands) at → ⊥
not-late commands at fits short h =
    let r : RestOf h.begins.commands commands h.begins.rest = after commands fits h.begins in
    let size = ap length r.left in
    let some : 0 < length (flat_map command_encoding r.later) = omega (arith, h.begun, size) in
    omega (arith, header-long r.later some, size, ap length h.begins.are, length-append (stream h.begins.commands) h.begins.rest, h.place, h.late, short)

-- nor is one refused
not-refused : (commands : List Command) (at : ℕ) → All Fits commands → HasBadHeader (stream commands) at → ⊥
not-refused commands at fits h =
    stream-not-bad (stream h.begins.commands) h.begins.rest [] h.begins.commands commands _ (decoded-stream h.begins.commands h.begins.fits) fits
    (ap (λ l. stream h.begins.commands ++ l) (append-nil h.begins.rest) ∙ sym h.begins.are) (record { bytes = h.begins.rest; are = refl; refused = h.refused })

-- nor is its own header another
not-other : (commands : List Command) → HasOtherStart (stream commands) → ⊥
not-other commands h =
    h.other (same_fronts h.first stream_start h.rest (flat_map command_encoding commands) (h.size ∙ sym length-start) (sym h.are)).0

-- a state of a decoder that has taken the stream's header
abbrev begun_with : List ℕ → ℕ → DecoderState
begun_with begun taken = record { started = true; begun = begun; taken = taken }

-- nor does it end inside a command
not-cut : (commands : List Command) → All Fits commands → EndsInCommand (stream commands) → ⊥
not-cut commands fits h =
    let b = h.begins in
    let part : Decoded (stream commands) b.commands (begun_with b.rest (length (stream commands))) = record {
      bytes = b.are ∙ append_assoc stream_start (flat_map command_encoding b.commands) b.rest;
      each = b.fits;
      early = λ e. absurd cc;
      rest = h.part;
      counted = refl;
    } in
    let none : b.rest ≡ [] = ap (λ (s : DecoderState). s.begun) (decoded-one (stream commands) b.commands commands _ _ part (decoded-stream commands fits)).1 in
    omega (arith, h.begun, ap length none)

-- how the replay of a whole stream ends that stops: in its fault, or for out of memory, or where the source failed
abbrev pub EndsAs : List Command → ReplayEnd → Type 0
EndsAs commands (Truncated at) = ⊥
EndsAs commands Magic = ⊥
EndsAs commands Version = ⊥
EndsAs commands (Refused at) = ⊥
EndsAs commands (Late at) = ⊥
EndsAs commands (Faults number code) = FaultsAt (replay first_driver commands) number code
EndsAs commands Memory = Unit {0}
EndsAs commands Read = Unit {0}

pub ends_as : (commands : List Command) (end : ReplayEnd) → All Fits commands → length (stream commands) ≤ 2 ^ 62 → Stops (stream commands) end → EndsAs commands end
ends_as commands (Truncated at) fits short (place, inl early) = omega (arith, early, length-stream commands)
ends_as commands (Truncated at) fits short (place, inr h) = not-cut commands fits h
ends_as commands Magic fits short h = h.other refl
ends_as commands Version fits short h = not-other commands h.start
ends_as commands (Refused at) fits short h = not-refused commands at fits h
ends_as commands (Late at) fits short h = not-late commands at fits short h
ends_as commands (Faults number code) fits short h = fault-of commands number code fits h
ends_as commands Memory fits short h = tt
ends_as commands Read fits short h = tt

-- the status of such an end
pub replayed_as : (commands : List Command) (end : ReplayEnd) → EndsAs commands end → (end ≡ Read → ⊥) → IsReplayed commands (status_of_end end)
replayed_as commands (Truncated at) ends stood = ends
replayed_as commands Magic ends stood = ends
replayed_as commands Version ends stood = ends
replayed_as commands (Refused at) ends stood = ends
replayed_as commands (Late at) ends stood = ends
replayed_as commands (Faults number code) ends stood = ends
replayed_as commands Memory ends stood = tt
replayed_as commands Read ends stood = stood refl

-- a stream whose replay has no fault doesn't end in one
pub not-faulted : (commands : List Command) (end : ReplayEnd) (number code : ℕ) → All Fits commands → Stops (stream commands) end → (replay first_driver commands).fault ≡ None
    → status_of_end end ≡ Status.ReplayFault number code → ⊥
not-faulted commands (Truncated at) number code fits h faultless e = absurd cc
not-faulted commands Magic number code fits h faultless e = absurd cc
not-faulted commands Version number code fits h faultless e = absurd cc
not-faulted commands (Refused at) number code fits h faultless e = absurd cc
not-faulted commands (Late at) number code fits h faultless e = absurd cc
not-faulted commands (Faults n k) number code fits h faultless e =
    let own = fault-of commands n k fits h in
    let no : ◌≡◌ {A = Option Fault} None (Some own.fault) = sym faultless ∙ own.has in
    absurd cc
not-faulted commands Memory number code fits h faultless e = absurd cc
not-faulted commands Read number code fits h faultless e = absurd cc
