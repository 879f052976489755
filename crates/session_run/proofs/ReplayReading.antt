-- From the pieces of a stream to what a replay made of all its bytes.
use Rattle.std.proofs.Common.{◌≡◌, ℕ, ◌<◌, ◌≤◌, ◌^◌, Bool, true, false, Option, None, List, [], ◌∷◌, ◌++◌, length, take, drop, Result, Ok, Err, refl, sym, ap, subst, ◌∙◌, arith, lit<, inl, inr, append-nil, append_assoc, length-append}
use Rattle.std.specs.Prelude.{codes}
use Rattle.std.specs.List.{flat_map}
use Rattle.std.specs.Io.KnownBytes.{prepend_known, IsAtEnd}
use Rattle.std.proofs.lemmas.List.{take_all, take-append-le}
use Rattle.std.proofs.Math.Seq.{take-append_seam}
use Rattle.gl_numbers.specs.Bytes.{le32}
use Rattle.gl_numbers.proofs.Bytes.{Same, le32-one, length-le32}
use Rattle.wire_io.specs.Sources.{WhereTold}
use Rattle.wire_io.proofs.Told.{told, told_end, taken_none}
use Rattle.wire_io.proofs.Known.{taken_twice}
use Rattle.command_stream.specs.declared.operation.TheConstants.{START_BYTES}
use Rattle.command_stream.specs.declared.command.Command.{Command}
use Rattle.command_stream.specs.Commands.{command_encoding, stream}
use Rattle.command_stream.specs.DecoderState.{DecoderState, IsPart, start_taken}
use Rattle.command_stream.proofs.OneEncoding.{stream-one}
use Rattle.command_stream.proofs.Decoding.{refused-more}
use Rattle.gl_model.specs.DriverState.{first_driver}
use Rattle.gl_model.specs.Replay.{Replayed, replay}
use Rattle.es2_replay.specs.Kept.{Kept}
use Rattle.session_run.specs.Tallies.{tally_of}
use Rattle.session_run.specs.ReplayOutcomes.{Begins, HasOtherMagic, Stops, IsLeft, CountedStream}
use Rattle.session_run.specs.Playing.{SoFar, PieceStops, HasMagic, ReadSoFar, ReadWhole, ReadUntil, ReadsOn, IsEndedBy}
use Rattle.session_run.specs.declared.tally.Tally.{Tally}
use Rattle.session_run.specs.declared.pieces.TheConstants.{STREAM_MAGIC}
use Rattle.session_run.specs.declared.replay_end.ReplayEnd.{ReplayEnd}
use Rattle.session_run.specs.declared.replay_end.ReplayEnd.TheVariants.{Truncated, Magic, Version, Refused, Late, Faults, Memory, Read}
use Rattle.session_run.proofs.OneStream.{one-replay}
use Rattle.session_run.proofs.Playing.{begins-here, bytes-started, bytes-idle}

-- where the first four bytes are `ESCS`, another header has another version
pub stopped : (bytes : List ℕ) (end : ReplayEnd) → take 4 bytes ≡ codes "ESCS" → PieceStops bytes end → Stops bytes end
stopped bytes (Truncated at) magic stops = absurd stops
stopped bytes Magic magic stops = absurd stops
stopped bytes Version magic stops = record { start = stops; magic = magic }
stopped bytes (Refused at) magic stops = stops
stopped bytes (Late at) magic stops = stops
stopped bytes (Faults number code) magic stops = stops
stopped bytes Memory magic stops = tt
stopped bytes Read magic stops = absurd stops

-- a piece that stops the replay isn't cut short
pub ended_by : (bytes : List ℕ) (end : ReplayEnd) (left : Option (List ℕ)) → PieceStops bytes end → IsEndedBy end left
ended_by bytes (Truncated at) left stops = absurd stops
ended_by bytes Magic left stops = tt
ended_by bytes Version left stops = tt
ended_by bytes (Refused at) left stops = tt
ended_by bytes (Late at) left stops = tt
ended_by bytes (Faults number code) left stops = tt
ended_by bytes Memory left stops = tt
ended_by bytes Read left stops = tt

-- nor by the source's failure
pub not-read : (bytes : List ℕ) (end : ReplayEnd) → PieceStops bytes end → ◌≡◌ {A = Result (Unit {0}) ReplayEnd} (Err end) (Err Read) → ⊥
not-read bytes end stops e =
    let is : end ≡ Read = cc in
    subst (PieceStops bytes) is stops

-- `ESCS` and more
pub magic-more : (all more : List ℕ) → HasMagic all → HasMagic (all ++ more)
magic-more all more m = (omega (arith, m.0, length-append all more), take-append-le 4 all more (omega (arith, m.0)) ∙ m.1)

-- before the first piece
pub read_none : (all : List ℕ) (left : Option (List ℕ)) (decoder : DecoderState) (kept : Kept) (tally : Tally) → SoFar all decoder kept tally → left ≡ prepend_known [] left
    → ReadSoFar all left left decoder kept tally
read_none all left decoder kept tally s e = record { got = []; took = e; so_far = subst (λ l. SoFar l decoder kept tally) (sym (append-nil all)) s }

-- one more piece was taken
pub read_more : (all part : List ℕ) (left0 mid left : Option (List ℕ)) (decoder new : DecoderState) (kept after : Kept) (tally now : Tally)
    → (r : ReadSoFar all left0 mid decoder kept tally) → mid ≡ prepend_known part left → SoFar ((all ++ r.got) ++ part) new after now → ReadSoFar all left0 left new after now
read_more all part left0 mid left decoder new kept after tally now r e s = record {
  got = r.got ++ part;
  took = taken_twice left0 mid left r.got part r.took e;
  so_far = subst (λ l. SoFar l new after now) (append_assoc all r.got part) s;
}

-- one more piece stops the replay
pub read_stopped : (all part : List ℕ) (left0 mid left : Option (List ℕ)) (decoder : DecoderState) (kept : Kept) (tally : Tally) (end : ReplayEnd)
    → (r : ReadSoFar all left0 mid decoder kept tally) → mid ≡ prepend_known part left → HasMagic all → PieceStops ((all ++ r.got) ++ part) end → ReadUntil end all left0 left
read_stopped all part left0 mid left decoder kept tally end r e m stops = record {
  got = r.got ++ part;
  took = taken_twice left0 mid left r.got part r.took e;
  ended = ended_by ((all ++ r.got) ++ part) end left stops;
  stops = stopped (all ++ (r.got ++ part)) end (magic-more all (r.got ++ part) m).1 (subst (λ l. PieceStops l end) (append_assoc all r.got part) stops);
}

-- the source failed
pub read_failed : (all : List ℕ) (left0 mid left : Option (List ℕ)) (decoder : DecoderState) (kept : Kept) (tally : Tally)
    → ReadSoFar all left0 mid decoder kept tally → left ≡ mid → ReadUntil Read all left0 left
read_failed all left0 mid left decoder kept tally r e = record { got = r.got; took = r.took ∙ ap (prepend_known r.got) (sym e); ended = tt; stops = tt }

-- nothing more was read
nothing-read : (n : ℕ) (piece : List ℕ) (mid left : Option (List ℕ)) → n ≡ 0 → mid ≡ prepend_known (take n piece) left → left ≡ mid
nothing-read n piece mid left none e = taken_none mid left (e ∙ ap (λ k. prepend_known (take k piece) left) none)

-- the bytes ended between two commands
pub read_whole : (all piece : List ℕ) (n : ℕ) (left0 mid left : Option (List ℕ)) (decoder : DecoderState) (kept : Kept) (tally : Tally)
    → ReadSoFar all left0 mid decoder kept tally → n ≡ 0 → mid ≡ prepend_known (take n piece) left → IsAtEnd left → decoder.started ≡ true → decoder.begun ≡ []
    → ReadWhole all left0 left decoder kept tally
read_whole all piece n left0 mid left decoder kept tally r none e ended started idle = record {
  read = record { got = r.got; took = r.took ∙ ap (prepend_known r.got) (sym (nothing-read n piece mid left none e)); so_far = r.so_far };
  ended = ended;
  started = started;
  idle = idle;
}

-- once eight bytes were taken, the stream's header was
started-by : (started : Bool) (begun all : List ℕ) (commands : List Command) → all ≡ start_taken started ++ (flat_map command_encoding commands ++ begun)
    → (started ≡ false → commands ≡ []) → IsPart started begun → START_BYTES ≤ length all → started ≡ true
started-by true begun all commands e early part long = refl
started-by false begun all commands e early part long =
    let same : all ≡ begun = rw (early refl) at e in
    absurd (omega (arith, part, long, ap length same))

-- what isn't empty has a byte
some-begun : (begun : List ℕ) → (begun ≡ [] → ⊥) → 0 < length begun
some-begun [] some = absurd (some refl)
some-begun (b ∷ begun) some = omega arith

-- bytes that end inside a command
cut : (all : List ℕ) (decoder : DecoderState) (kept : Kept) (tally : Tally) (taken : ℕ) → SoFar all decoder kept tally → START_BYTES ≤ length all → taken ≡ decoder.taken
    → (decoder.started ≡ true → decoder.begun ≡ [] → ⊥) → Stops all (Truncated taken)
cut all decoder kept tally taken s long e some =
    let started = started-by decoder.started decoder.begun all s.commands s.decoded.bytes s.decoded.early s.decoded.rest long in
    let begun = some-begun decoder.begun (some started) in (
      e ∙ s.decoded.counted,
      inr (record {
        begins = begins-here all all decoder.begun decoder kept tally s (bytes-started all s.commands decoder s.decoded started);
        room = s.room begun started;
        begun = begun;
        part = rw started at s.decoded.rest;
      }),
    )

-- the bytes ended inside a command
pub read_cut : (all piece : List ℕ) (n taken : ℕ) (left0 mid left : Option (List ℕ)) (decoder : DecoderState) (kept : Kept) (tally : Tally)
    → ReadSoFar all left0 mid decoder kept tally → n ≡ 0 → mid ≡ prepend_known (take n piece) left → IsAtEnd left → HasMagic all → taken ≡ decoder.taken
    → (decoder.started ≡ true → decoder.begun ≡ [] → ⊥) → ReadUntil (Truncated taken) all left0 left
read_cut all piece n taken left0 mid left decoder kept tally r none e ended m counted some = record {
  got = r.got;
  took = r.took ∙ ap (prepend_known r.got) (sym (nothing-read n piece mid left none e));
  ended = ended;
  stops = cut (all ++ r.got) decoder kept tally taken r.so_far (magic-more all r.got m).0 counted some;
}

-- the first word of a stream
magic-word : le32 STREAM_MAGIC ≡ codes "ESCS"
unfolding le32
magic-word = refl

-- the word that begins a list
prefix-word : (w : ℕ) (first : List ℕ) → first ≡ le32 w ++ drop 4 first → take 4 first ≡ le32 w
prefix-word w first e = ap (take 4) e ∙ ap (λ n. take n (le32 w ++ drop 4 first)) (sym (length-le32 w)) ∙ take-append_seam (le32 w) (drop 4 first)

-- eight bytes that begin with that word
pub has_magic : (w : ℕ) (first : List ℕ) → first ≡ le32 w ++ drop 4 first → w ≡ STREAM_MAGIC → START_BYTES ≤ length first → HasMagic first
has_magic w first e is long = (long, prefix-word w first e ∙ ap le32 is ∙ magic-word)

-- eight bytes that begin with another word
pub other_magic : (w : ℕ) (first : List ℕ) → first ≡ le32 w ++ drop 4 first → w < 2 ^ 32 → (w ≡ STREAM_MAGIC → ⊥) → START_BYTES ≤ length first → HasOtherMagic first
other_magic w first e fits other long = record {
  whole = long;
  other = λ is.
      (let words : le32 w ≡ le32 STREAM_MAGIC = sym (prefix-word w first e) ∙ is ∙ sym magic-word in
      let same : Same w STREAM_MAGIC [] [] = le32-one w STREAM_MAGIC [] [] fits (lit< tt) (ap (λ l. l ++ []) words) in
      other same.word);
}

-- what was read of the stream's header, where it is all of the piece
pub read_prefix : (n : ℕ) (first : List ℕ) (left0 mid : Option (List ℕ)) → length first ≡ START_BYTES → START_BYTES ≤ n → left0 ≡ prepend_known (take n first) mid
    → left0 ≡ prepend_known first mid
read_prefix n first left0 mid size long e = e ∙ ap (λ l. prepend_known l mid) (take_all n first (omega (arith, size, long)))

-- the stream begins with another word
pub magic_read : (first : List ℕ) (left0 left : Option (List ℕ)) → left0 ≡ prepend_known first left → HasOtherMagic first → ReadUntil Magic [] left0 left
magic_read first left0 left e other = record { got = first; took = e; ended = tt; stops = other }

-- the bytes ended inside the stream's header
pub read_short : (n : ℕ) (first : List ℕ) (left0 left : Option (List ℕ)) → length (take n first) ≡ n → n < START_BYTES → left0 ≡ prepend_known (take n first) left → IsAtEnd left
    → ReadUntil (Truncated n) [] left0 left
read_short n first left0 left size short e ended = record {
  got = take n first;
  took = e;
  ended = ended;
  stops = (sym size, inl (omega (arith, size, short)));
}

-- what follows the stream's header was read
pub reads_behind : (first : List ℕ) (left0 mid left : Option (List ℕ)) (decoder : DecoderState) (kept : Kept) (tally : Tally) (result : Result (Unit {0}) ReplayEnd)
    → left0 ≡ prepend_known first mid → ReadsOn first mid left decoder kept tally result → ReadsOn [] left0 left decoder kept tally result
reads_behind first left0 mid left decoder kept tally (Ok done) e r = record {
  read = record { got = first ++ r.read.got; took = taken_twice left0 mid left first r.read.got e r.read.took; so_far = r.read.so_far };
  ended = r.ended;
  started = r.started;
  idle = r.idle;
}
reads_behind first left0 mid left decoder kept tally (Err end) e r = record {
  got = first ++ r.got;
  took = taken_twice left0 mid left first r.got e r.took;
  ended = r.ended;
  stops = r.stops;
}

-- the stream's header stops the replay
pub start_stopped : (first : List ℕ) (left0 left : Option (List ℕ)) (end : ReplayEnd) → left0 ≡ prepend_known first left → take 4 first ≡ codes "ESCS" → PieceStops first end
    → ReadUntil end [] left0 left
start_stopped first left0 left end e magic stops = record { got = first; took = e; ended = ended_by first end left stops; stops = stopped first end magic stops }

-- the bytes were a whole stream
whole-stream : (all : List ℕ) (decoder : DecoderState) (kept : Kept) (tally : Tally) → SoFar all decoder kept tally → decoder.started ≡ true → decoder.begun ≡ []
    → CountedStream kept.count tally all []
whole-stream all decoder kept tally s started idle =
    let whole : all ≡ stream s.commands = bytes-idle all s.commands decoder s.decoded started idle in
    let faultless : (replay first_driver s.commands).fault ≡ None = ap (λ (r : Replayed). r.fault) s.replayed in
    record {
      stream_is = record {
        commands = s.commands;
        fits = s.decoded.each;
        whole = whole;
        only = λ others fits e. stream-one others s.commands fits s.decoded.each (sym e ∙ whole);
        within = s.within;
        faultless = faultless;
        from_bytes = λ others fits e.
            (let same = one-replay others s.commands fits s.decoded.each (sym e ∙ whole) in
            (ap (λ (r : Replayed). r.fault) same ∙ faultless, ap (λ (r : Replayed). r.shots) same));
        nothing = refl;
      };
      count_is = s.counted ∙ sym (ap (λ (r : Replayed). r.count) s.replayed);
      tally_is = s.tallied ∙ ap tally_of (sym (ap (λ (r : Replayed). r.shots) s.replayed));
    }

-- a whole stream was read, where the source tells what is left
pub told_whole : (left0 left : Option (List ℕ)) (decoder : DecoderState) (kept : Kept) (tally : Tally) → ReadWhole [] left0 left decoder kept tally
    → WhereTold (CountedStream kept.count tally) left0 left
told_whole left0 left decoder kept tally r =
    told_end (CountedStream kept.count tally) left0 left r.read.got r.read.took r.ended (whole-stream r.read.got decoder kept tally r.read.so_far r.started r.idle)

-- more bytes after commands
abbrev extended : (bytes more : List ℕ) → Begins bytes → Begins (bytes ++ more)
extended bytes more b = record {
  commands = b.commands;
  rest = b.rest ++ more;
  are = ap (λ l. l ++ more) b.are ∙ append_assoc (stream b.commands) b.rest more;
  fits = b.fits;
  faultless = b.faultless;
  within = b.within;
}

-- what stopped a replay, where the source tells what is left
pub told_stopped : (left0 left : Option (List ℕ)) (end : ReplayEnd) → ReadUntil end [] left0 left → WhereTold (λ old new. Stops old end × IsLeft end new) left0 left
told_stopped left0 left (Truncated at) r = told_end (λ old new. Stops old (Truncated at) × IsLeft (Truncated at) new) left0 left r.got r.took r.ended (r.stops, refl)
told_stopped left0 left Magic r = told (λ old new. Stops old Magic × IsLeft Magic new) left0 left r.got r.took (λ rest. (
  record {
    whole = omega (arith, r.stops.whole, length-append r.got rest);
    other = λ is. r.stops.other (sym (take-append-le 4 r.got rest (omega (arith, r.stops.whole))) ∙ is);
  },
  tt,
))
told_stopped left0 left Version r = told (λ old new. Stops old Version × IsLeft Version new) left0 left r.got r.took (λ rest. (
  record {
    start = record {
      first = r.stops.start.first;
      rest = r.stops.start.rest ++ rest;
      are = ap (λ l. l ++ rest) r.stops.start.are ∙ append_assoc r.stops.start.first r.stops.start.rest rest;
      size = r.stops.start.size;
      other = r.stops.start.other;
    };
    magic = take-append-le 4 r.got rest (omega (arith, r.stops.start.size, ap length r.stops.start.are, length-append r.stops.start.first r.stops.start.rest)) ∙ r.stops.magic;
  },
  tt,
))
told_stopped left0 left (Refused at) r = told (λ old new. Stops old (Refused at) × IsLeft (Refused at) new) left0 left r.got r.took (λ rest. (
  record {
    begins = extended r.got rest r.stops.begins;
    place = r.stops.place;
    room = r.stops.room;
    refused = refused-more r.stops.begins.rest rest r.stops.refused;
  },
  tt,
))
told_stopped left0 left (Late at) r = told (λ old new. Stops old (Late at) × IsLeft (Late at) new) left0 left r.got r.took (λ rest. (
  record {
    begins = extended r.got rest r.stops.begins;
    place = r.stops.place;
    late = r.stops.late;
    begun = omega (arith, r.stops.begun, length-append r.stops.begins.rest rest);
  },
  tt,
))
told_stopped left0 left (Faults number code) r = told (λ old new. Stops old (Faults number code) × IsLeft (Faults number code) new) left0 left r.got r.took (λ rest. (
  record {
    begins = extended r.got rest r.stops.begins;
    room = r.stops.room;
    command = r.stops.command;
    fits = r.stops.fits;
    more = r.stops.more ++ rest;
    next = ap (λ l. l ++ rest) r.stops.next ∙ append_assoc (command_encoding r.stops.command) r.stops.more rest;
    faults = r.stops.faults;
  },
  tt,
))
told_stopped left0 left Memory r = told (λ old new. Stops old Memory × IsLeft Memory new) left0 left r.got r.took (λ rest. (tt, tt))
told_stopped left0 left Read r = told (λ old new. Stops old Read × IsLeft Read new) left0 left r.got r.took (λ rest. (tt, tt))
