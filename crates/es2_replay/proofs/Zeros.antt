-- Bytes with zeros after those that were written: what more zeros and what a write make of them.
use Rattle.std.proofs.Common.{◌≡◌, ℕ, ◌+◌, ◌-◌, ◌<◌, ◌≤◌, List, ◌++◌, length, take, drop, refl, sym, ap, ◌∙◌, arith, append_assoc, length-append}
use Rattle.std.specs.Prelude.{replicate}
use Rattle.std.proofs.Math.Seq.{drop-append-add}
use Rattle.std.proofs.lemmas.List.{take-append-le, drop-append-le, drop-replicate, replicate-append-replicate, length-replicate, length-take-le, length-drop}

-- the bytes of a buffer of this size, of which these were written
abbrev pub padded_to : ℕ → List ℕ → List ℕ
padded_to size written = written ++ replicate (size - length written) 0

-- so many bytes there are
pub length_padded : (written : List ℕ) (size : ℕ) → length written ≤ size → length (padded_to size written) ≡ size
length_padded written size p =
    let zeros : List ℕ = replicate (size - length written) 0 in
    let long : length zeros ≡ size - length written = length-replicate (size - length written) 0 in
    let both = length-append written zeros in
    omega (arith, p, long, both)

-- zeros that are written are the zeros that were there
pub reached : (written : List ℕ) (size len : ℕ) → len ≤ size → length written ≤ size
    → padded_to size (written ++ replicate (len - length written) 0) ≡ padded_to size written
reached written size len p q =
    let more : List ℕ = replicate (len - length written) 0 in
    let long : length (written ++ more) ≡ length written + (len - length written) =
    length-append written more ∙ ap (λ n. length written + n) (length-replicate (len - length written) 0) in
    let whole : (len - length written) + (size - length (written ++ more)) ≡ size - length written = omega (arith, p, q, long) in
    append_assoc written more (replicate (size - length (written ++ more)) 0)
    ∙ ap (λ (l : List ℕ). written ++ l) (replicate-append-replicate (len - length written) (size - length (written ++ more)) 0)
    ∙ ap (λ n. written ++ replicate n 0) whole

-- a part over bytes that were written
pub over_written : (written part : List ℕ) (size offset : ℕ) → offset + length part ≤ length written
    → padded_to size (take offset written ++ (part ++ drop (offset + length part) written))
    ≡ take offset (padded_to size written) ++ (part ++ drop (offset + length part) (padded_to size written))
over_written written part size offset within =
    let zeros : List ℕ = replicate (size - length written) 0 in
    let rest = drop (offset + length part) written in
    let now = take offset written ++ (part ++ rest) in
    let head : length (take offset written) ≡ offset = length-take-le offset written (omega (arith, within)) in
    let end : length rest ≡ length written - (offset + length part) = length-drop (offset + length part) written in
    let two = length-append part rest in
    let all = length-append (take offset written) (part ++ rest) in
    let long : length now ≡ length written = omega (arith, within, head, end, two, all) in
    let first : take offset (written ++ zeros) ≡ take offset written = take-append-le offset written zeros (omega (arith, within)) in
    let last : drop (offset + length part) (written ++ zeros) ≡ rest ++ zeros =
    drop-append-le (offset + length part) written zeros within in
    rw (first, last) (ap (λ n. now ++ replicate (size - n) 0) long
    ∙ append_assoc (take offset written) (part ++ rest) zeros
    ∙ ap (λ (l : List ℕ). take offset written ++ l) (append_assoc part rest zeros))

-- a part that ends past the bytes that were written
pub over_zeros : (written part : List ℕ) (size offset : ℕ) → offset ≤ length written → length written ≤ offset + length part
    → offset + length part ≤ size
    → padded_to size (take offset written ++ part)
    ≡ take offset (padded_to size written) ++ (part ++ drop (offset + length part) (padded_to size written))
over_zeros written part size offset within past fits =
    let zeros : List ℕ = replicate (size - length written) 0 in
    let n = offset + length part - length written in
    let place : length written + n ≡ offset + length part = omega (arith, past) in
    let long : length (take offset written ++ part) ≡ offset + length part =
    length-append (take offset written) part ∙ ap (λ k. k + length part) (length-take-le offset written within) in
    let first : take offset (written ++ zeros) ≡ take offset written = take-append-le offset written zeros within in
    let left : (size - length written) - n ≡ size - (offset + length part) = omega (arith, past, fits) in
    let last : drop (offset + length part) (written ++ zeros) ≡ replicate (size - (offset + length part)) 0 =
    ap (λ k. drop k (written ++ zeros)) (sym place) ∙ drop-append-add written zeros n ∙ drop-replicate n (size - length written) 0
    ∙ ap (λ k. replicate k 0) left in
    rw (first, last) (ap (λ k. (take offset written ++ part) ++ replicate (size - k) 0) long
    ∙ append_assoc (take offset written) part (replicate (size - (offset + length part)) 0))
