-- A whole session is refused nowhere.
use Rattle.std.proofs.Common.{◌≡◌, ℕ, suc, ◌+◌, ◌≤◌, ◌^◌, ◌⊎◌, Option, Some, List, [], ◌∷◌, ◌++◌, length, Result, Err, IsOk, refl, sym, ap, ◌∙◌, arith, inl, inr, append_assoc, length-append}
use Rattle.std.specs.Prelude.{All, codes}
use Rattle.gl_numbers.specs.Bytes.{le32}
use Rattle.gl_numbers.proofs.Bytes.{length-le32}
use Rattle.call_records.specs.declared.reading.TheConstants.{SESSION_VERSION}
use Rattle.std.specs.List.{flat_map}
use Rattle.std.proofs.lemmas.List.{append_cancel_left}
use Rattle.wire_io.specs.Sources.{WhereTold}
use Rattle.call_records.specs.declared.calls.Call.{Call}
use Rattle.call_records.specs.declared.reading.Step.{Step}
use Rattle.call_records.specs.declared.reading.ReadEnd.{ReadEnd}
use Rattle.call_records.specs.declared.reading.ReadEnd.TheVariants.{ReadFault}
use Rattle.call_records.specs.Records.{encoding, session, session_start, closing_record, Fits}
use Rattle.call_records.proofs.OneEncoding.{answered, next_rest, started}
use Rattle.session_run.specs.Serving.{records_of, place_after}
use Rattle.session_run.specs.Reads.{RefusesReading}
use Rattle.session_run.proofs.Telling.{both}

-- what is left of a session's records after some were taken
pub record RestOf (rest : List ℕ) : Type 0 where
  pub todo : List Call
  pub fits : All Fits todo
  pub left : rest ≡ flat_map encoding todo ++ closing_record

pub rest_of : (calls todo : List Call) (rest : List ℕ) → All Fits calls → All Fits todo
    → records_of calls ++ rest ≡ flat_map encoding todo ++ closing_record → RestOf rest
rest_of [] todo rest took fits e = record { todo = todo; fits = fits; left = e }
rest_of (call ∷ calls) todo rest took fits e =
    let next = next_rest todo 0 (flat_map encoding todo ++ closing_record) (records_of calls ++ rest) call fits (took 0 call (omega arith)) refl
    (sym e ∙ append_assoc (encoding call) (records_of calls) rest) in
    rest_of calls next.rest rest (λ k d within. took (suc k) d (omega arith)) next.fits next.left

-- a session's header has two words
pub start-length : length session_start ≡ 8
unfolding session_start
start-length = length-append (codes "WGLR") (le32 SESSION_VERSION) ∙ ap (λ n. 4 + n) (length-le32 SESSION_VERSION)

-- only the source's failure refuses
pub only_fault : {T : Type 0} (end : ReadEnd) → IsOk {T = T} {E = ReadEnd} (Err end) ⊎ (◌≡◌ {A = Result T ReadEnd} (Err end) (Err ReadFault)) → end ≡ ReadFault
only_fault end (inl ok) = absurd cc
only_fault end (inr fault) = cc

-- a whole session is refused only where the source failed
pub complete : (calls : List Call) (old new : List ℕ) (end : ReadEnd) → All Fits calls → old ≡ session calls → length (session calls) ≤ 2 ^ 62
    → RefusesReading end old new → end ≡ ReadFault
complete calls old new end fits e short (inl refused) = only_fault {T = Unit {0}} end (started calls old new (Err end) e refused).answered
complete calls old new end fits e short (inr r) =
    let same = append_cancel_left session_start (records_of r.calls ++ r.rest) (flat_map encoding calls ++ closing_record) (sym r.before ∙ e) in
    let rest = rest_of r.calls calls r.rest r.fits fits same in
    let whole = ap length e in
    let parts = ap length r.before ∙ length-append session_start (records_of r.calls ++ r.rest) in
    let more = length-append (records_of r.calls) r.rest in
    let start : length session_start ≡ 8 = start-length in
    only_fault {T = Step} end (answered rest.todo (place_after r.calls) r.rest new (Err end) rest.fits rest.left (omega (arith, whole, parts, more, start, short)) r.refused)

-- the same, where the source tells what is left
pub complete_told : (calls : List Call) (old new : Option (List ℕ)) (end : ReadEnd) → All Fits calls → old ≡ Some (session calls) → length (session calls) ≤ 2 ^ 62
    → WhereTold (RefusesReading end) old new → end ≡ ReadFault
complete_told calls old new end fits e short told =
    let b = both (RefusesReading end) (session calls) old new e told in
    complete calls (session calls) b.rest end fits refl short b.holds
