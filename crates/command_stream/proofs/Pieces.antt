-- Bytes that were begun, and a piece after them.
use Rattle.std.proofs.Common.{◌≡◌, ℕ, ◌+◌, ◌-◌, ◌<◌, ◌≤◌, ◌^◌, List, [], ◌++◌, length, take, drop, Some, None, Bool, true, false, refl, sym, ap, ◌∙◌, arith, append_assoc, length-append, length-drop, le_refl, inl, inr}
use Rattle.std.proofs.lemmas.List.{take-append-drop, take-append-le, take_all, length-take-le}
use Rattle.std.proofs.Math.Seq.{take-append_seam, take-append-add, take-add}
use Rattle.gl_numbers.specs.Bytes.{le32}
use Rattle.gl_numbers.proofs.Bytes.{Same, le32-one, length-le32}
use Rattle.command_stream.specs.declared.operation.Operation.{Operation}
use Rattle.command_stream.specs.Operations.{number_of, allows}
use Rattle.command_stream.specs.Commands.{stream_start}
use Rattle.command_stream.specs.DecoderState.{IsPart, IsPartOfCommand, IsCounted, start_taken, HasBadCommand}
use Rattle.command_stream.specs.Taking.{Judges, IsWhole, TakesIn}
use Rattle.command_stream.specs.declared.taking.Taken.{Taken}
use Rattle.command_stream.specs.declared.taking.Taken.TheVariants.{OtherStart, OtherCommand, Part, Whole}
use Rattle.command_stream.proofs.Table.{number-fits, allows-within}

-- a list that begins another one is the prefix of it
pub prefix_of : (h w x y : List ℕ) → length h ≤ length w → w ++ x ≡ h ++ y → take (length h) w ≡ h
prefix_of h w x y short e = sym (take-append-le (length h) w x short) ∙ ap (take (length h)) e ∙ take-append_seam h y

-- a list is its first bytes and the rest
pub first-is : (n : ℕ) (xs first : List ℕ) → first ≡ take n xs → xs ≡ first ++ drop n xs
first-is n xs first e = sym (take-append-drop n xs) ∙ ap (λ t. t ++ drop n xs) (sym e)

-- the first eight bytes where they were all begun
pub first-begun : (begun piece first : List ℕ) → 8 ≤ length begun → first ≡ take 8 begun → begun ++ piece ≡ first ++ drop 8 (begun ++ piece)
first-begun begun piece first long e = first-is 8 (begun ++ piece) first (e ∙ sym (take-append-le 8 begun piece long))

-- the first bytes where some of them were begun
take-after : (n : ℕ) (begun piece : List ℕ) → length begun ≤ n → take n (begun ++ piece) ≡ begun ++ take (n - length begun) piece
take-after n begun piece short =
    let sum : n ≡ length begun + (n - length begun) = omega (arith, short) in
    ap (λ m. take m (begun ++ piece)) sum ∙ take-append-add begun piece (n - length begun)

-- the first eight bytes where fewer were begun
pub first-both : (begun piece mid first : List ℕ) → length begun ≤ 8 → 8 - length begun ≤ length piece → length first ≡ 8
    → take (0 + length begun) mid ≡ begun
    → take (length begun + length (take (8 - length begun) piece)) first ≡ take (length begun) mid ++ take (8 - length begun) piece
    → begun ++ piece ≡ first ++ drop 8 (begun ++ piece)
first-both begun piece mid first short more size prefix whole =
    let zero : length begun ≡ 0 + length begun = omega arith in
    let eight : length begun + length (take (8 - length begun) piece) ≡ 8 = omega (arith, short, more, length-take-le (8 - length begun) piece more) in
    let all : take 8 first ≡ first = ap (λ n. take n first) (sym size) ∙ take_all (length first) first (le_refl (length first)) in
    let parts : take 8 first ≡ begun ++ take (8 - length begun) piece = ap (λ n. take n first) (sym eight) ∙ whole
    ∙ ap (λ t. t ++ take (8 - length begun) piece) (ap (λ n. take n mid) zero ∙ prefix) in
    first-is 8 (begun ++ piece) first (sym all ∙ parts ∙ sym (take-after 8 begun piece short))

-- the end of the stream's header
pub start-ends : (begun piece first : List ℕ) → length begun ≤ 8 → length first ≡ 8 → begun ++ piece ≡ first ++ drop 8 (begun ++ piece)
    → begun ++ take (8 - length begun) piece ≡ first
start-ends begun piece first short size e =
    sym (take-after 8 begun piece short) ∙ ap (λ n. take n (begun ++ piece)) (sym size) ∙ ap (take (length first)) e
    ∙ take-append_seam first (drop 8 (begun ++ piece))

-- a header that is refused
pub bad-command : (begun piece first : List ℕ) → begun ++ piece ≡ first ++ drop 8 (begun ++ piece) → Judges first None
    → HasBadCommand true begun piece
bad-command begun piece first e j = record {
  bytes = begun ++ piece;
  are = refl;
  refused = record {
    number = j.number;
    len = j.len;
    rest = drop 8 (begun ++ piece);
    number_fits = j.number_fits;
    len_fits = j.len_fits;
    are = e ∙ ap (λ h. h ++ drop 8 (begun ++ piece)) j.are ∙ append_assoc (le32 j.number) (le32 j.len) (drop 8 (begun ++ piece));
    refused = j.refused;
  };
}

-- the length of the stream's header
pub length-start : length stream_start ≡ 8
unfolding le32
length-start = refl

-- a header's length
length-header : (number len : ℕ) → length (le32 number ++ le32 len) ≡ 8
length-header number len = length-append (le32 number) (le32 len) ∙ omega (arith, length-le32 number, length-le32 len)

-- the length of a header and what follows it
pub length-two : (number len : ℕ) (rest : List ℕ) → length (le32 number ++ (le32 len ++ rest)) ≡ 8 + length rest
length-two number len rest = length-append (le32 number) (le32 len ++ rest)
    ∙ omega (arith, length-le32 number, length-le32 len, length-append (le32 len) rest)

-- two words at the prefix of a list are read in one way
words-one : (m n k l : ℕ) (x y : List ℕ) → m < 2 ^ 32 → n < 2 ^ 32 → k < 2 ^ 32 → l < 2 ^ 32
    → le32 m ++ (le32 k ++ x) ≡ le32 n ++ (le32 l ++ y) → k ≡ l
words-one m n k l x y m_fits n_fits k_fits l_fits e =
    let first : Same m n (le32 k ++ x) (le32 l ++ y) = le32-one m n _ _ m_fits n_fits e in
    let second : Same k l x y = le32-one k l x y k_fits l_fits first.rest in
    second.word

-- a part of a command is shorter than the command
pub part-within : (begun piece first : List ℕ) (operation : Operation) (len : ℕ) → begun ++ piece ≡ first ++ drop 8 (begun ++ piece)
    → Judges first (Some (operation, len)) → IsPartOfCommand begun → length begun < 8 + len
part-within begun piece first operation len e j (inl short) = omega (arith, short)
part-within begun piece first operation len e j (inr p) =
    let fits : len < 2 ^ 32 = omega (arith, allows-within operation len j.1) in
    let part_fits : p.len < 2 ^ 32 = omega (arith, allows-within p.operation p.len p.allowed) in
    let rest : List ℕ = drop 8 (begun ++ piece) in
    let left : begun ++ piece ≡ le32 (number_of p.operation) ++ (le32 p.len ++ (p.part ++ piece)) =
    ap (λ t. t ++ piece) p.are ∙ append_assoc (le32 (number_of p.operation)) (le32 p.len ++ p.part) piece
    ∙ ap (λ t. le32 (number_of p.operation) ++ t) (append_assoc (le32 p.len) p.part piece) in
    let right : begun ++ piece ≡ le32 (number_of operation) ++ (le32 len ++ rest) =
    e ∙ ap (λ t. t ++ rest) j.0 ∙ append_assoc (le32 (number_of operation)) (le32 len) rest in
    let same : p.len ≡ len = words-one (number_of p.operation) (number_of operation) p.len len (p.part ++ piece) rest (number-fits p.operation) (number-fits operation) part_fits fits (sym left ∙ right) in
    let size : length begun ≡ 8 + length p.part = ap length p.are ∙ length-two (number_of p.operation) p.len p.part in
    omega (arith, same, size, p.short)

-- a whole command
pub whole : (operation : Operation) (len more : ℕ) (begun piece first bytes : List ℕ) → begun ++ piece ≡ first ++ drop 8 (begun ++ piece)
    → Judges first (Some (operation, len)) → bytes ≡ begun ++ take more piece → length bytes ≡ 8 + len → IsWhole operation bytes
whole operation len more begun piece first bytes e j are size =
    let after : bytes ++ drop more piece ≡ begun ++ piece =
    ap (λ t. t ++ drop more piece) are ∙ append_assoc begun (take more piece) (drop more piece)
    ∙ ap (λ t. begun ++ t) (take-append-drop more piece) in
    let eight : length first ≡ 8 = ap length j.0 ∙ length-header (number_of operation) len in
    let prefix : take 8 bytes ≡ first = ap (λ n. take n bytes) (sym eight)
    ∙ prefix_of first bytes (drop more piece) (drop 8 (begun ++ piece)) (omega (arith, eight, size)) (after ∙ e) in
    let left : length (drop 8 bytes) ≡ len = length-drop 8 bytes ∙ omega (arith, size) in
    record {
      size = omega (arith, size);
      are = first-is 8 bytes first (sym prefix) ∙ ap (λ t. t ++ drop 8 bytes) j.0
          ∙ append_assoc (le32 (number_of operation)) (le32 len) (drop 8 bytes)
          ∙ ap (λ n. le32 (number_of operation) ++ (le32 n ++ drop 8 bytes)) (sym left);
      allowed = ap (allows operation) left ∙ j.1;
    }

-- what stands after the stream's header
pub after-start : (begun piece : List ℕ) (n : ℕ) → begun ++ take n piece ≡ stream_start → begun ++ piece ≡ stream_start ++ drop n piece
after-start begun piece n e =
    ap (λ t. begun ++ t) (sym (take-append-drop n piece)) ∙ sym (append_assoc begun (take n piece) (drop n piece))
    ∙ ap (λ t. t ++ drop n piece) e

-- what is taken after the stream's header
pub taken-after-start : (begun piece : List ℕ) (n more : ℕ) → begun ++ take n piece ≡ stream_start
    → begun ++ take (n + more) piece ≡ stream_start ++ take more (drop n piece)
taken-after-start begun piece n more e =
    ap (λ t. begun ++ t) (take-add n more piece) ∙ sym (append_assoc begun (take n piece) (take more (drop n piece)))
    ∙ ap (λ t. t ++ take more (drop n piece)) e

-- what isn't a whole command after the stream's header
pub after : (piece old new : List ℕ) (held n : ℕ) (t : Taken) → take held old ++ take n piece ≡ stream_start
    → TakesIn true old 0 (drop n piece) new t → ((operation : Operation) (more size : ℕ) → t ≡ Whole operation more size → ⊥)
    → TakesIn false old held piece new t
after piece old new held n OtherStart e t other =
    let early : true ≡ false = t.1.early in
    absurd cc
after piece old new held n OtherCommand e t other = (
  t.0,
  record {
    bytes = t.1.bytes;
    are = after-start (take held old) piece n e ∙ t.1.are;
    refused = t.1.refused;
  },
)
after piece old new held n (Part now_started now_held) e t other = (
  t.0,
  t.1,
  record {
    bytes = after-start (take held old) piece n e
        ∙ t.2.bytes;
    rest = t.2.rest;
  },
)
after piece old new held n (Whole operation more size) e t other = absurd (other operation more size refl)

-- a list that was written over by one of its length
pub written-over : (n : ℕ) (old new : List ℕ) → n ≡ length new → take n (new ++ drop (length new) old) ≡ new
written-over n old new e = ap (λ m. take m (new ++ drop (length new) old)) e ∙ take-append_seam new (drop (length new) old)

-- the lengths on both sides
lengths : (started now : Bool) (begun piece next : List ℕ) → start_taken started ++ (begun ++ piece) ≡ start_taken now ++ next
    → length (start_taken started) + (length begun + length piece) ≡ length (start_taken now) + length next
lengths started now begun piece next e =
    ap (λ n. length (start_taken started) + n) (sym (length-append begun piece))
    ∙ sym (length-append (start_taken started) (begun ++ piece)) ∙ ap length e
    ∙ length-append (start_taken now) next

-- the count after a piece without the end of a command
pub counted-part : (started now : Bool) (begun piece next : List ℕ) (taken : ℕ) → IsCounted started begun taken → IsPart now next
    → start_taken started ++ (begun ++ piece) ≡ start_taken now ++ next → IsCounted now next (taken + length piece)
counted-part false false begun piece next taken counted part e = omega (arith, counted, lengths false false begun piece next e)
counted-part false true begun piece next taken counted part e = omega (arith, counted, length-start, lengths false true begun piece next e)
counted-part true true begun piece next taken counted part e = omega (arith, counted, length-start, lengths true true begun piece next e)
counted-part true false begun piece next taken counted part e = omega (arith, part, length-start, lengths true false begun piece next e)

-- the count after a whole command
pub counted-whole : (started : Bool) (begun piece command : List ℕ) (taken n : ℕ) → IsCounted started begun taken → n ≤ length piece
    → start_taken started ++ (begun ++ take n piece) ≡ stream_start ++ command → IsCounted true [] (taken + n)
counted-whole false begun piece command taken n counted within e =
    omega (arith, counted, length-start, length-take-le n piece within, lengths false true begun (take n piece) command e)
counted-whole true begun piece command taken n counted within e = omega (arith, counted)
