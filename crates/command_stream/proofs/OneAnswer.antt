-- A decoder has one answer to a piece, and is one decoder afterwards.
use Rattle.std.proofs.Common.{◌≡◌, ℕ, ◌+◌, ◌<◌, ◌^◌, Bool, false, true, List, [], ◌++◌, length, take, drop, Option, Some, None, Result, Ok, Err, option_map, refl, sym, ap, ◌∙◌, arith, inl, inr}
use Rattle.std.proofs.lemmas.List.{append_cancel_left, append_assoc, append-nil, length-append, length-drop, take-append-drop, take_all}
use Rattle.std.proofs.lemmas.List.Elements.{All-nil}
use Rattle.gl_numbers.specs.Bytes.{le32}
use Rattle.gl_numbers.proofs.Bytes.{Same, le32-one}
use Rattle.command_stream.specs.declared.bad.Bad.{Bad}
use Rattle.command_stream.specs.declared.bad.Bad.TheVariants as bad
use Rattle.command_stream.specs.declared.command.Command.{Command}
use Rattle.gl_numbers.specs.Fields.{Parts}
use Rattle.command_stream.specs.declared.operation.Operation.{Operation}
use Rattle.command_stream.specs.Commands.{parts_of, command_encoding, Fits, stream_start}
use Rattle.command_stream.specs.Operations.{number_of, has_shape}
use Rattle.command_stream.specs.DecoderState.{DecoderState, IsPart, IsPartOfCommand, IsRefused, start_taken, HasBadStart}
use Rattle.command_stream.specs.Decoding.{Takes, Feeds}
use Rattle.command_stream.proofs.OneEncoding.{SameCommand, command_encoding-one, same_fronts}
use Rattle.command_stream.proofs.Pieces.{length-two, length-start}
use Rattle.command_stream.proofs.Table.{number-fits, allows-within, shape-allowed}
use Rattle.command_stream.proofs.Decoding.{state, part-not-whole, whole-not-refused, parts-one}

-- a result with what its command says
abbrev pub said_by : Result (ℕ × Option Command) Bad → Result (ℕ × Option (Parts Operation)) Bad
said_by (Ok (n, found)) = Ok (n, option_map parts_of found)
said_by (Err e) = Err e

-- the bytes that a decoder has, with the piece after them
abbrev with_piece : DecoderState → List ℕ → List ℕ
with_piece old piece = start_taken old.started ++ (old.begun ++ piece)

-- those bytes where no command is whole
part-is : (old : DecoderState) (piece : List ℕ) (new : DecoderState) (n : ℕ) → Takes old piece new n None
    → with_piece old piece ≡ start_taken new.started ++ new.begun
part-is old piece new n t =
    let all : take n piece ≡ piece = take_all n piece (omega (arith, t.ends)) in
    ap (λ x. start_taken old.started ++ (old.begun ++ x)) (sym all) ∙ t.bytes

-- those bytes where a command is whole
whole-is : (old : DecoderState) (piece : List ℕ) (new : DecoderState) (n : ℕ) (c : Command) → Takes old piece new n (Some c)
    → with_piece old piece ≡ stream_start ++ (command_encoding c ++ drop n piece)
whole-is old piece new n c t =
    let start : List ℕ = start_taken old.started in
    let split : with_piece old piece ≡ (start ++ (old.begun ++ take n piece)) ++ drop n piece =
    ap (λ x. start ++ (old.begun ++ x)) (sym (take-append-drop n piece))
    ∙ ap (λ x. start ++ x) (sym (append_assoc old.begun (take n piece) (drop n piece)))
    ∙ sym (append_assoc start (old.begun ++ take n piece) (drop n piece)) in
    let bytes : start ++ (old.begun ++ take n piece) ≡ stream_start ++ command_encoding c =
    t.bytes ∙ ap (λ b. start_taken b ++ (command_encoding c ++ new.begun)) t.ends.1
    ∙ ap (λ x. stream_start ++ (command_encoding c ++ x)) t.ends.2
    ∙ ap (λ x. stream_start ++ x) (append-nil (command_encoding c)) in
    split ∙ ap (λ x. x ++ drop n piece) bytes ∙ append_assoc stream_start (command_encoding c) (drop n piece)

-- a proper part of a command has no header that is refused
part-not-refused : (bytes : List ℕ) → IsPartOfCommand bytes → IsRefused bytes → ⊥
part-not-refused bytes (inl short) r = omega (arith, short, ap length r.are, length-two r.number r.len r.rest)
part-not-refused bytes (inr p) r =
    let fits : p.len < 2 ^ 32 = omega (arith, allows-within p.operation p.len p.allowed) in
    let first : Same (number_of p.operation) r.number (le32 p.len ++ p.part) (le32 r.len ++ r.rest) = le32-one _ _ _ _ (number-fits p.operation) r.number_fits (sym p.are ∙ r.are) in
    let second : Same p.len r.len p.part r.rest = le32-one _ _ _ _ fits r.len_fits first.rest in
    let shape : has_shape r.number r.len ≡ true =
    ap (λ n. has_shape n r.len) (sym first.word) ∙ ap (has_shape (number_of p.operation)) (sym second.word)
    ∙ shape-allowed p.operation p.len p.allowed in
    let no : false ≡ true = sym r.refused ∙ shape in
    absurd cc

-- no command is whole, or one is
part-or-whole : (now : Bool) (x rest : List ℕ) (c : Command) → IsPart now x → Fits c
    → start_taken now ++ x ≡ stream_start ++ (command_encoding c ++ rest) → ⊥
part-or-whole true x rest c part fits e = part-not-whole x rest c part fits (append_cancel_left stream_start _ _ e)
part-or-whole false x rest c part fits e = omega (arith, part, length-start, ap length e, length-append stream_start (command_encoding c ++ rest))

-- no command is whole, or a header is refused
part-or-refused : (now : Bool) (x bytes : List ℕ) → IsPart now x → IsRefused bytes → start_taken now ++ x ≡ stream_start ++ bytes → ⊥
part-or-refused true x bytes part r e =
    let same : x ≡ bytes = append_cancel_left stream_start _ _ e in
    part-not-refused bytes (rw same at part) r
part-or-refused false x bytes part r e = omega (arith, part, length-start, ap length e, length-append stream_start bytes)

-- other bytes stand in place of the stream's header, or it is whole
other-or-start : (old : DecoderState) (piece rest : List ℕ) → HasBadStart old.started old.begun piece
    → with_piece old piece ≡ stream_start ++ rest → ⊥
other-or-start old piece rest b e =
    let bytes : old.begun ++ piece ≡ stream_start ++ rest = rw b.early at e in
    b.other (same_fronts b.first stream_start _ _ (b.size ∙ sym length-start) (sym b.are ∙ bytes)).0

-- other bytes stand in place of the stream's header, or it isn't whole
other-or-part : (old : DecoderState) (piece x : List ℕ) (now : Bool) → HasBadStart old.started old.begun piece → IsPart now x
    → with_piece old piece ≡ start_taken now ++ x → ⊥
other-or-part old piece x true b part e = other-or-start old piece x b e
other-or-part old piece x false b part e =
    let bytes : old.begun ++ piece ≡ x = rw b.early at e in
    omega (arith, part, b.size, ap length bytes, ap length b.are, length-append b.first b.rest)

-- two decoders with equal parts are one
same-state : (p q : DecoderState) → p.started ≡ q.started → p.begun ≡ q.begun → p.taken ≡ q.taken → p ≡ q
same-state p q s b t =
    let first : p ≡ state q.started p.begun p.taken = ap (λ x. state x p.begun p.taken) s in
    let second : p ≡ state q.started q.begun p.taken = first ∙ ap (λ x. state q.started x p.taken) b in
    second ∙ ap (state q.started q.begun) t

-- a piece is answered in one way
pub feeds-one : (old p q : DecoderState) (piece : List ℕ) (r s : Result (ℕ × Option Command) Bad) → Feeds old piece p r
    → Feeds old piece q s
    → (said_by r ≡ said_by s) × (p ≡ q)
feeds-one old p q piece (Ok (n, None)) (Ok (m, None)) f g =
    let count : n ≡ m = f.ends ∙ sym g.ends in
    let same = parts-one [] [] p.started q.started p.begun q.begun (All-nil Fits) (All-nil Fits) (λ e. refl) (λ e. refl) f.rest g.rest (sym (part-is old piece p n f) ∙ part-is old piece q m g) in
    (ap (λ k. Ok (k, None)) count, same-state p q same.1 same.2 (f.counted ∙ ap (λ k. old.taken + k) count ∙ sym g.counted))
feeds-one old p q piece (Ok (n, Some c)) (Ok (m, Some d)) f g =
    let same : SameCommand c d (drop n piece) (drop m piece) =
    command_encoding-one c d (drop n piece) (drop m piece) f.ends.0 g.ends.0 (append_cancel_left stream_start _ _ (sym (whole-is old piece p n c f) ∙ whole-is old piece q m d g)) in
    let count : n ≡ m = omega (arith, f.within, g.within, ap length same.rest, length-drop n piece, length-drop m piece) in (
      ap (λ k. Ok (k, Some (parts_of c))) count ∙ ap (λ k. Ok (m, Some k)) same.command,
      same-state p q (f.ends.1 ∙ sym g.ends.1) (f.ends.2 ∙ sym g.ends.2) (f.counted ∙ ap (λ k. old.taken + k) count ∙ sym g.counted),
    )
feeds-one old p q piece (Ok (n, None)) (Ok (m, Some d)) f g =
    absurd (part-or-whole p.started p.begun (drop m piece) d f.rest g.ends.0 (sym (part-is old piece p n f) ∙ whole-is old piece q m d g))
feeds-one old p q piece (Ok (n, Some c)) (Ok (m, None)) f g =
    absurd (part-or-whole q.started q.begun (drop n piece) c g.rest f.ends.0 (sym (part-is old piece q m g) ∙ whole-is old piece p n c f))
feeds-one old p q piece (Ok (n, None)) (Err bad.Version) f g = absurd (other-or-part old piece p.begun p.started g.1 f.rest (part-is old piece p n f))
feeds-one old p q piece (Ok (n, Some c)) (Err bad.Version) f g = absurd (other-or-start old piece (command_encoding c ++ drop n piece) g.1 (whole-is old piece p n c f))
feeds-one old p q piece (Err bad.Version) (Ok (n, None)) f g = absurd (other-or-part old piece q.begun q.started f.1 g.rest (part-is old piece q n g))
feeds-one old p q piece (Err bad.Version) (Ok (n, Some c)) f g = absurd (other-or-start old piece (command_encoding c ++ drop n piece) f.1 (whole-is old piece q n c g))
feeds-one old p q piece (Ok (n, None)) (Err (bad.Command at)) f g = absurd (part-or-refused p.started p.begun g.1.bytes f.rest g.1.refused (sym (part-is old piece p n f) ∙ g.1.are))
feeds-one old p q piece (Err (bad.Command at)) (Ok (n, None)) f g = absurd (part-or-refused q.started q.begun f.1.bytes g.rest f.1.refused (sym (part-is old piece q n g) ∙ f.1.are))
feeds-one old p q piece (Ok (n, Some c)) (Err (bad.Command at)) f g =
    absurd (whole-not-refused g.1.bytes (drop n piece) c g.1.refused f.ends.0 (append_cancel_left stream_start _ _ (sym g.1.are
    ∙ whole-is old piece p n c f)))
feeds-one old p q piece (Err (bad.Command at)) (Ok (n, Some c)) f g =
    absurd (whole-not-refused f.1.bytes (drop n piece) c f.1.refused g.ends.0 (append_cancel_left stream_start _ _ (sym f.1.are
    ∙ whole-is old piece q n c g)))
feeds-one old p q piece (Err bad.Version) (Err bad.Version) f g = (refl, f.0 ∙ sym g.0)
feeds-one old p q piece (Err bad.Version) (Err (bad.Command at)) f g = absurd (other-or-start old piece g.1.bytes f.1 g.1.are)
feeds-one old p q piece (Err (bad.Command at)) (Err bad.Version) f g = absurd (other-or-start old piece f.1.bytes g.1 f.1.are)
feeds-one old p q piece (Err (bad.Command a)) (Err (bad.Command b)) f g = (ap (λ k. Err (bad.Command k)) (f.2 ∙ sym g.2), f.0 ∙ sym g.0)
