-- One more piece of a stream that is replayed while it comes.
use Rattle.std.proofs.Common.{◌≡◌, ℕ, ◌+◌, ◌-◌, ◌*◌, ◌<◌, ◌≤◌, ◌^◌, Bool, true, false, Option, Some, None, List, [], ◌∷◌, ◌++◌, length, take, drop, Err, refl, sym, ap, subst, ◌∙◌, arith, inl, inr, append-nil, append_assoc, length-append}
use Rattle.std.specs.Option.{option_map, option_to_list}
use Rattle.std.specs.List.{flat_map}
use Rattle.std.proofs.lemmas.Bool.{cases_lt}
use Rattle.std.proofs.lemmas.Grind.{flat_map-append}
use Rattle.std.proofs.lemmas.List.{take-append-drop, take-append-le}
use Rattle.std.proofs.Math.Seq.{take-append_seam, take-add}
use Rattle.wire_io.proofs.Prefixes.{rest_of}
use Rattle.call_records.specs.declared.reading.TheConstants.{INPUT_MAX}
use Rattle.command_stream.specs.declared.operation.TheConstants.{HEADER_BYTES, BODY_MAX}
use Rattle.command_stream.specs.declared.command.Command.{Command}
use Rattle.command_stream.specs.Commands.{op_of, body_of, command_encoding, stream_start, stream}
use Rattle.command_stream.specs.DecoderState.{DecoderState, IsPart, HasBadStart, HasBadCommand, start_taken, command_at}
use Rattle.command_stream.specs.Decoding.{Takes, Decoded}
use Rattle.command_stream.proofs.Pieces.{length-start, length-two}
use Rattle.command_stream.proofs.Table.{allows-within}
use Rattle.command_stream.proofs.Decoding.{decoded-none, decoded-more, begins-at, bad-place}
use Rattle.gl_model.specs.DriverState.{first_driver}
use Rattle.gl_model.specs.DriverStep.{shot}
use Rattle.gl_model.specs.Replay.{Replayed}
use Rattle.gl_model.specs.Shot as Model
use Rattle.gl_model.proofs.Replaying.{replay-none}
use Rattle.es2_replay.specs.Kept.{Kept, state_of}
use Rattle.es2_replay.specs.Applied.{kind_of}
use Rattle.es2_replay.proofs.Replaying.{replayed_more, replayed_fault}
use Rattle.session_run.specs.Tallies.{no_tally, add, tally_of}
use Rattle.session_run.specs.ReplayOutcomes.{HeadersWithin, Begins, HasOtherStart, HasBadHeader, HasLateHeader, HasFault}
use Rattle.session_run.specs.Playing.{SoFar, OnePlayed, OneFaulted, PlaysOne, PieceStops}
use Rattle.session_run.specs.declared.tally.Tally.{Tally}
use Rattle.session_run.specs.declared.replay_end.ReplayEnd.{ReplayEnd}
use Rattle.session_run.specs.declared.replay_end.ReplayEnd.TheVariants.{Truncated, Magic, Version, Refused, Late, Faults, Memory, Read}

-- the length of a stream
pub length-stream : (commands : List Command) → length (stream commands) ≡ 8 + length (flat_map command_encoding commands)
length-stream commands = length-append stream_start (flat_map command_encoding commands) ∙ ap (λ n. n + length (flat_map command_encoding commands)) length-start

-- one more command in a stream
pub stream-push : (commands : List Command) (c : Command) → stream (commands ++ c ∷ []) ≡ stream commands ++ command_encoding c
stream-push commands c =
    ap (λ l. stream_start ++ l) (flat_map-append command_encoding commands (c ∷ []) ∙ ap (λ l. flat_map command_encoding commands ++ l) (append-nil (command_encoding c)))
    ∙ sym (append_assoc stream_start (flat_map command_encoding commands) (command_encoding c))

-- one more header within the bound
within-push : (commands : List Command) (c : Command) → HeadersWithin commands → length (stream commands) + HEADER_BYTES ≤ INPUT_MAX → HeadersWithin (commands ++ c ∷ [])
within-push commands c within room k below =
    elim (cases_lt k (length commands)) [
      | inl before ↦
          let prefix : take k (commands ++ c ∷ []) ≡ take k commands = take-append-le k commands (c ∷ []) (omega (arith, before)) in
          subst (λ (l : List Command). length (stream l) + HEADER_BYTES ≤ INPUT_MAX) (sym prefix) (within k before)
      | inr last ↦
          let place : k ≡ length commands = omega (arith, last, below, length-append commands (c ∷ [])) in
          let prefix : take k (commands ++ c ∷ []) ≡ commands = ap (λ n. take n (commands ++ c ∷ [])) place ∙ take-append_seam commands (c ∷ []) in
          subst (λ (l : List Command). length (stream l) + HEADER_BYTES ≤ INPUT_MAX) (sym prefix) room
    ]

-- what one more command made is counted
tally-more : (made : List Model.Shot) (more : Option Model.Shot) → add (tally_of made) (option_map kind_of more) ≡ tally_of (made ++ option_to_list more)
tally-more made None = ap tally_of (sym (append-nil made))
tally-more made (Some one) = elim one [ ]

-- no command that is built makes anything
tally-none : (made : List Model.Shot) → tally_of made ≡ no_tally
tally-none [] = refl
tally-none (one ∷ made) = elim one [ ]

-- before the first byte
pub so_far-none : (kept : Kept) → state_of kept ≡ first_driver → kept.count ≡ 0 → SoFar [] (record { started = false; begun = []; taken = 0 }) kept no_tally
so_far-none kept first none = record {
  commands = [];
  made = [];
  decoded = decoded-none;
  replayed = replay-none first_driver ∙ (λ i. record { state = sym first i; shots = []; count = 0; fault = None });
  counted = none;
  tallied = refl;
  within = λ k below. absurd (omega (arith, below));
  room = λ some started. absurd (omega (arith, some));
  ended = omega (arith, length-stream []);
}

-- the bytes of the commands so far and of what is begun, once the header was taken
pub bytes-started : (all : List ℕ) (commands : List Command) (s : DecoderState) → Decoded all commands s → s.started ≡ true → all ≡ stream commands ++ s.begun
bytes-started all commands s d e =
    d.bytes ∙ ap (λ b. start_taken b ++ (flat_map command_encoding commands ++ s.begun)) e ∙ sym (append_assoc stream_start (flat_map command_encoding commands) s.begun)

-- the same where nothing is begun
pub bytes-idle : (all : List ℕ) (commands : List Command) (s : DecoderState) → Decoded all commands s → s.started ≡ true → s.begun ≡ [] → all ≡ stream commands
bytes-idle all commands s d e idle = bytes-started all commands s d e ∙ ap (λ l. stream commands ++ l) idle ∙ append-nil (stream commands)

-- the next header is within the bound, by whether the stream's header was taken and a command is begun
room-by : (started : Bool) (begun all : List ℕ) (taken : ℕ) (commands : List Command) → all ≡ start_taken started ++ (flat_map command_encoding commands ++ begun)
    → taken ≡ length all → (started ≡ false → commands ≡ []) → (0 < length begun → started ≡ true → length (stream commands) + HEADER_BYTES ≤ INPUT_MAX)
    → (started ≡ true → begun ≡ [] → taken + HEADER_BYTES ≤ INPUT_MAX) → length (stream commands) + HEADER_BYTES ≤ INPUT_MAX
room-by false begun all taken commands e counted early room idle = rw (early refl) (omega (arith, length-stream []))
room-by true (b ∷ begun) all taken commands e counted early room idle = room (omega arith) refl
room-by true [] all taken commands e counted early room idle =
    let now : taken + HEADER_BYTES ≤ INPUT_MAX = idle refl refl in
    omega (arith, now, counted, ap length e, length-append stream_start (flat_map command_encoding commands ++ []), length-append (flat_map command_encoding commands) [], length-start, length-stream commands)

pub next-room : (all : List ℕ) (decoder : DecoderState) (kept : Kept) (tally : Tally) → (s : SoFar all decoder kept tally)
    → (decoder.started ≡ true → decoder.begun ≡ [] → decoder.taken + HEADER_BYTES ≤ INPUT_MAX) → length (stream s.commands) + HEADER_BYTES ≤ INPUT_MAX
next-room all decoder kept tally s idle =
    room-by decoder.started decoder.begun all decoder.taken s.commands s.decoded.bytes s.decoded.counted s.decoded.early s.room idle

-- some of a piece was taken, and no command ended
pub fed : (all piece : List ℕ) (decoder new : DecoderState) (kept : Kept) (tally : Tally) (n : ℕ) → (s : SoFar all decoder kept tally) → Takes decoder piece new n None
    → length (stream s.commands) + HEADER_BYTES ≤ INPUT_MAX → SoFar (all ++ take n piece) new kept tally
fed all piece decoder new kept tally n s taken room = record {
  commands = s.commands;
  made = s.made;
  decoded = subst (λ (l : List Command). Decoded (all ++ take n piece) l new) (append-nil s.commands) (decoded-more all piece s.commands decoder new n None s.decoded taken);
  replayed = s.replayed;
  counted = s.counted;
  tallied = s.tallied;
  within = s.within;
  room = λ some started. room;
  ended = s.ended;
}

-- a piece's bytes up to a command's end were taken, and it was applied
pub played : (all piece : List ℕ) (decoder new : DecoderState) (kept after : Kept) (tally now : Tally) (n : ℕ) (c : Command) → (s : SoFar all decoder kept tally)
    → Takes decoder piece new n (Some c) → OnePlayed c kept tally after now → length (stream s.commands) + HEADER_BYTES ≤ INPUT_MAX → SoFar (all ++ take n piece) new after now
played all piece decoder new kept after tally now n c s taken one room =
    let size : length (command_encoding c) ≡ 8 + length (body_of c) = length-two (op_of c) (length (body_of c)) (body_of c) in
    let sum : length (stream (s.commands ++ c ∷ [])) ≡ length (stream s.commands) + length (command_encoding c) =
    ap length (stream-push s.commands c) ∙ length-append (stream s.commands) (command_encoding c) in
    record {
      commands = s.commands ++ c ∷ [];
      made = s.made ++ option_to_list (shot (state_of kept) c);
      decoded = decoded-more all piece s.commands decoder new n (Some c) s.decoded taken;
      replayed = replayed_more first_driver (state_of kept) (state_of after) s.made s.commands c one.made s.replayed one.applied;
      counted = omega (arith, one.counted, s.counted, length-append s.commands (c ∷ []));
      tallied = one.tallied ∙ ap (λ t. add t one.made) s.tallied ∙ ap (add (tally_of s.made)) one.applied.2 ∙ tally-more s.made (shot (state_of kept) c);
      within = within-push s.commands c s.within room;
      room = λ some started. absurd (omega (arith, some, ap length taken.ends.2));
      ended = omega (arith, room, taken.ends.0.body, size, sum);
    }

-- what was taken begins the bytes
abbrev pub begins-here : (all bytes rest : List ℕ) (decoder : DecoderState) (kept : Kept) (tally : Tally) → (s : SoFar all decoder kept tally) → bytes ≡ stream s.commands ++ rest → Begins bytes
begins-here all bytes rest decoder kept tally s e = record {
  commands = s.commands;
  rest = rest;
  are = e;
  fits = s.decoded.each;
  faultless = ap (λ (r : Replayed). r.fault) s.replayed;
  within = s.within;
}

-- a header begins too late
pub late : (all piece : List ℕ) (decoder : DecoderState) (kept : Kept) (tally : Tally) (taken : ℕ) → SoFar all decoder kept tally → decoder.started ≡ true → decoder.begun ≡ []
    → taken ≡ decoder.taken → 0 < length piece → INPUT_MAX < taken + HEADER_BYTES → HasLateHeader (all ++ piece) taken
late all piece decoder kept tally taken s started idle e some past =
    let here : all ≡ stream s.commands = bytes-idle all s.commands decoder s.decoded started idle in
    record {
      begins = begins-here all (all ++ piece) piece decoder kept tally s (ap (λ l. l ++ piece) here);
      place = e ∙ s.decoded.counted ∙ ap length here;
      late = past;
      begun = some;
    }

-- a header is refused
pub refused : (all piece : List ℕ) (decoder : DecoderState) (kept : Kept) (tally : Tally) (at : ℕ) → (s : SoFar all decoder kept tally)
    → HasBadCommand decoder.started decoder.begun piece → at ≡ command_at decoder.started decoder.begun decoder.taken
    → length (stream s.commands) + HEADER_BYTES ≤ INPUT_MAX → HasBadHeader (all ++ piece) at
refused all piece decoder kept tally at s bad e room =
    let here : all ++ piece ≡ stream s.commands ++ bad.bytes =
    bad-place all piece s.commands decoder s.decoded bad ∙ sym (append_assoc stream_start (flat_map command_encoding s.commands) bad.bytes) in
    let place : at ≡ length (stream s.commands) = e ∙ begins-at all s.commands decoder s.decoded in
    record {
      begins = begins-here all (all ++ piece) bad.bytes decoder kept tally s here;
      place = place;
      room = omega (arith, room, place);
      refused = bad.refused;
    }

-- the stream's header is another one
pub other_start : (all piece : List ℕ) (decoder : DecoderState) (kept : Kept) (tally : Tally) → SoFar all decoder kept tally
    → HasBadStart decoder.started decoder.begun piece → HasOtherStart (all ++ piece)
other_start all piece decoder kept tally s bad =
    let begun : all ≡ decoder.begun = rw (bad.early, s.decoded.early bad.early) at s.decoded.bytes in
    record {
      first = bad.first;
      rest = bad.rest;
      are = ap (λ l. l ++ piece) begun ∙ bad.are;
      size = bad.size;
      other = bad.other;
    }

-- a command has a fault
pub faulted : (all piece : List ℕ) (decoder new : DecoderState) (kept : Kept) (tally : Tally) (n number code : ℕ) (c : Command) → (s : SoFar all decoder kept tally)
    → Takes decoder piece new n (Some c) → OneFaulted c kept number code → length (stream s.commands) + HEADER_BYTES ≤ INPUT_MAX → HasFault (all ++ piece) number code
faulted all piece decoder new kept tally n number code c s taken one room =
    let d = decoded-more all piece s.commands decoder new n (Some c) s.decoded taken in
    let part : all ++ take n piece ≡ stream s.commands ++ command_encoding c =
    bytes-idle (all ++ take n piece) (s.commands ++ c ∷ []) new d taken.ends.1 taken.ends.2 ∙ stream-push s.commands c in
    let here : all ++ piece ≡ stream s.commands ++ (command_encoding c ++ drop n piece) =
    ap (λ l. all ++ l) (sym (take-append-drop n piece)) ∙ sym (append_assoc all (take n piece) (drop n piece)) ∙ ap (λ l. l ++ drop n piece) part
    ∙ append_assoc (stream s.commands) (command_encoding c) (drop n piece) in
    record {
      begins = begins-here all (all ++ piece) (command_encoding c ++ drop n piece) decoder kept tally s here;
      room = room;
      command = c;
      fits = taken.ends.0;
      more = drop n piece;
      next = refl;
      faults = λ later.
          (let r = replayed_fault first_driver (state_of kept) s.made s.commands later c one.fault s.replayed one.has in
          record {
            fault = one.fault;
            has = ap (λ (x : Replayed). x.fault) r;
            place = one.place ∙ ap (λ k. k + 1) (s.counted ∙ sym (ap (λ (x : Replayed). x.count) r));
            code_is = one.code_is;
          });
    }

-- a command that was not applied stops the replay
pub stops-one : (all piece : List ℕ) (decoder new : DecoderState) (kept after : Kept) (tally now : Tally) (n : ℕ) (c : Command) (end : ReplayEnd) → (s : SoFar all decoder kept tally)
    → Takes decoder piece new n (Some c) → PlaysOne c kept tally after now (Err end) → length (stream s.commands) + HEADER_BYTES ≤ INPUT_MAX → PieceStops (all ++ piece) end
stops-one all piece decoder new kept after tally now n c (Truncated at) s taken one room = one
stops-one all piece decoder new kept after tally now n c Magic s taken one room = one
stops-one all piece decoder new kept after tally now n c Version s taken one room = absurd one
stops-one all piece decoder new kept after tally now n c (Refused at) s taken one room = absurd one
stops-one all piece decoder new kept after tally now n c (Late at) s taken one room = absurd one
stops-one all piece decoder new kept after tally now n c (Faults number code) s taken one room = faulted all piece decoder new kept tally n number code c s taken one room
stops-one all piece decoder new kept after tally now n c Memory s taken one room = tt
stops-one all piece decoder new kept after tally now n c Read s taken one room = one

-- a part of the header or of a command is no longer than a command
part-short : (started : Bool) (begun : List ℕ) → IsPart started begun → length begun ≤ 8 + BODY_MAX
part-short false begun part = omega (arith, part)
part-short true begun (inl short) = omega (arith, short)
part-short true begun (inr p) =
    let size = ap length p.are ∙ length-two _ p.len p.part in
    omega (arith, size, p.short, allows-within p.operation p.len p.allowed)

-- commands have eight bytes each at least
many : (commands : List Command) → 8 * length commands ≤ length (flat_map command_encoding commands)
many [] = omega arith
many (c ∷ commands) =
    let size : length (command_encoding c) ≡ 8 + length (body_of c) = length-two (op_of c) (length (body_of c)) (body_of c) in
    omega (arith, size, many commands, length-append (command_encoding c) (flat_map command_encoding commands))

-- the numbers of what was taken and applied are far from their types' ends
pub record Bounds (decoder : DecoderState) (kept : Kept) (tally : Tally) : Type 0 where
  pub taken : decoder.taken ≤ INPUT_MAX + 2 * BODY_MAX + 16
  pub count : kept.count < 2 ^ 62
  pub tallied : tally ≡ no_tally

-- no more bytes were taken than those of the commands, and of a part of the next
taken-by : (started : Bool) (begun all : List ℕ) (commands : List Command) → all ≡ start_taken started ++ (flat_map command_encoding commands ++ begun)
    → length all ≤ length (stream commands) + length begun
taken-by false begun all commands e = omega (arith, ap length e, length-append (flat_map command_encoding commands) begun, length-stream commands)
taken-by true begun all commands e =
    omega (arith, ap length e, length-append stream_start (flat_map command_encoding commands ++ begun), length-append (flat_map command_encoding commands) begun, length-start, length-stream commands)

pub bounds : (all : List ℕ) (decoder : DecoderState) (kept : Kept) (tally : Tally) → SoFar all decoder kept tally → Bounds decoder kept tally
bounds all decoder kept tally s = record {
  taken = omega (arith, s.decoded.counted, s.ended, taken-by decoder.started decoder.begun all s.commands s.decoded.bytes, part-short decoder.started decoder.begun s.decoded.rest);
  count = omega (arith, s.counted, s.ended, many s.commands, length-stream s.commands);
  tallied = s.tallied ∙ tally-none s.made;
}

-- a part of what is left of a piece, after what was taken of it
pub piece-more : (all piece : List ℕ) (used n : ℕ) → (all ++ take used piece) ++ take n (take (length piece - used) (drop used piece)) ≡ all ++ take (used + n) piece
piece-more all piece used n =
    append_assoc all (take used piece) _ ∙ ap (λ l. all ++ l) (ap (λ l. take used piece ++ take n l) (rest_of used piece) ∙ sym (take-add used n piece))

-- all that is left of a piece, after what was taken of it
pub piece-rest : (all piece : List ℕ) (used : ℕ) → (all ++ take used piece) ++ take (length piece - used) (drop used piece) ≡ all ++ piece
piece-rest all piece used =
    append_assoc all (take used piece) _ ∙ ap (λ l. all ++ l) (ap (λ l. take used piece ++ l) (rest_of used piece) ∙ take-append-drop used piece)
