-- The bytes of a session are of one list of calls.
use Rattle.std.proofs.Common.{◌≡◌, zero, suc, List, [], ◌∷◌, ◌++◌, map, refl, sym, ◌∙◌, arith, append_assoc, append-nil}
use Rattle.std.specs.Prelude.{All}
use Rattle.std.specs.List.{flat_map}
use Rattle.std.proofs.lemmas.List.{append_cancel_left}
use Rattle.call_records.specs.declared.calls.Call.{Call}
use Rattle.call_records.specs.Records.{encoding, parts_of, session, session_start, closing_record, Fits}
use Rattle.call_records.proofs.OneEncoding.{encoding-one, encoding-not_closing}

-- lists of calls with the same records say the same
pub records-one : (a b : List Call) → All Fits a → All Fits b → flat_map encoding a ++ closing_record ≡ flat_map encoding b ++ closing_record
    → map parts_of a ≡ map parts_of b
records-one [] [] fits_a fits_b e = refl
records-one [] (y ∷ ys) fits_a fits_b e =
    absurd (encoding-not_closing y (flat_map encoding ys ++ closing_record) [] (sym (append_assoc (encoding y) (flat_map encoding ys) closing_record) ∙ sym e ∙ sym (append-nil closing_record)))
records-one (x ∷ xs) [] fits_a fits_b e =
    absurd (encoding-not_closing x (flat_map encoding xs ++ closing_record) [] (sym (append_assoc (encoding x) (flat_map encoding xs) closing_record) ∙ e ∙ sym (append-nil closing_record)))
records-one (x ∷ xs) (y ∷ ys) fits_a fits_b e =
    let one = encoding-one x y (flat_map encoding xs ++ closing_record) (flat_map encoding ys ++ closing_record) (fits_a 0 x (omega arith)) (fits_b 0 y (omega arith))
    (sym (append_assoc (encoding x) (flat_map encoding xs) closing_record) ∙ e ∙ append_assoc (encoding y) (flat_map encoding ys) closing_record) in
    let rest = records-one xs ys (λ k d within. fits_a (suc k) d (omega arith)) (λ k d within. fits_b (suc k) d (omega arith)) one.rest in
    cc (one.call, rest)

-- sessions with the same bytes are of one list of calls
pub session-one : (a b : List Call) → All Fits a → All Fits b → session a ≡ session b → map parts_of a ≡ map parts_of b
session-one a b fits_a fits_b e =
    records-one a b fits_a fits_b (append_cancel_left session_start (flat_map encoding a ++ closing_record) (flat_map encoding b ++ closing_record) e)

-- a fact about what each element is mapped to
pub All-map : {X Y : Type 0} (f : X → Y) (P : Y → Type 0) (xs : List X) → All (λ x. P (f x)) xs → All P (map f xs)
All-map f P [] all k d within = absurd (omega arith)
All-map f P (x ∷ xs) all zero d within = all 0 x (omega arith)
All-map f P (x ∷ xs) all (suc k) d within = All-map f P xs (λ j e before. all (suc j) e (omega arith)) k d (omega arith)
