-- One more call at the end of those that were taken.
use Rattle.std.proofs.Common.{◌≡◌, zero, suc, true, List, [], ◌∷◌, ◌++◌, length, map, take, refl, sym, ap, subst, ◌∙◌, arith, inl, inr, append-nil, append_assoc, length-append}
use Rattle.std.specs.Prelude.{All}
use Rattle.std.specs.Option.{option_to_list}
use Rattle.std.proofs.lemmas.List.{map-append, take-append-le, take_all}
use Rattle.std.proofs.lemmas.Grind.{flat_map-append}
use Rattle.std.proofs.lemmas.Bool.{cases_lt}
use Rattle.std.proofs.lemmas.List.Elements.{All-append}
use Rattle.call_records.specs.declared.calls.Call.{Call}
use Rattle.call_records.specs.Records.{encoding, Fits}
use Rattle.call_records.specs.Replies.{reply_encoding}
use Rattle.gl_model.specs.PageState.{PageState, first_page}
use Rattle.gl_context.specs.PageStep.{MayBeOutOfMemory, is_out_of_memory}
use Rattle.gl_context.specs.PageRun.{Taken, step_taken, page_after, replies, shots, OutOfMemoryAllowed, all_sent}
use Rattle.gl_context.specs.Sent.{sent}
use Rattle.session_run.specs.Serving.{calls_of, records_of, answers_of, answered_by, HasRoomAfter, HeadersWithin, AreTaken}

pub page_after-push : (w : PageState) (ts : List Taken) (t : Taken) → page_after w (ts ++ t ∷ []) ≡ (step_taken (page_after w ts) t).page
unfolding page_after
page_after-push w [] t = refl
page_after-push w (s ∷ ts) t = page_after-push (step_taken w s).page ts t

pub replies-push : (w : PageState) (ts : List Taken) (t : Taken) → replies w (ts ++ t ∷ []) ≡ replies w ts ++ (step_taken (page_after w ts) t).reply ∷ []
unfolding replies page_after
replies-push w [] t = refl
replies-push w (s ∷ ts) t = ap (λ rs. (step_taken w s).reply ∷ rs) (replies-push (step_taken w s).page ts t)

pub shots-push : (w : PageState) (ts : List Taken) (t : Taken) → shots w (ts ++ t ∷ []) ≡ shots w ts ++ option_to_list (step_taken (page_after w ts) t).made
unfolding shots page_after
shots-push w [] t = append-nil (option_to_list (step_taken w t).made)
shots-push w (s ∷ ts) t =
    ap (λ l. option_to_list (step_taken w s).made ++ l) (shots-push (step_taken w s).page ts t)
    ∙ sym (append_assoc (option_to_list (step_taken w s).made) (shots (step_taken w s).page ts)
    (option_to_list (step_taken (page_after (step_taken w s).page ts) t).made))

pub all_sent-push : (w : PageState) (ts : List Taken) (t : Taken)
    → all_sent w (ts ++ t ∷ []) ≡ all_sent w ts ++ sent (page_after w ts) t.call t.out_of_memory
unfolding all_sent page_after
all_sent-push w [] t = append-nil (sent w t.call t.out_of_memory)
all_sent-push w (s ∷ ts) t =
    ap (λ cs. sent w s.call s.out_of_memory ++ cs) (all_sent-push (step_taken w s).page ts t)
    ∙ sym (append_assoc (sent w s.call s.out_of_memory) (all_sent (step_taken w s).page ts)
    (sent (page_after (step_taken w s).page ts) t.call t.out_of_memory))

pub OutOfMemoryAllowed-push : (w : PageState) (ts : List Taken) (t : Taken) → OutOfMemoryAllowed w ts
    → (t.out_of_memory ≡ true → MayBeOutOfMemory (page_after w ts) t.call) → OutOfMemoryAllowed w (ts ++ t ∷ [])
unfolding OutOfMemoryAllowed page_after
OutOfMemoryAllowed-push w [] t allowed may = (may, tt)
OutOfMemoryAllowed-push w (s ∷ ts) t allowed may = (allowed.0, OutOfMemoryAllowed-push (step_taken w s).page ts t allowed.1 may)

-- one more call
pub calls_of-push : (ts : List Taken) (t : Taken) → calls_of (ts ++ t ∷ []) ≡ calls_of ts ++ t.call ∷ []
calls_of-push ts t = map-append (λ (s : Taken). s.call) ts (t ∷ [])

-- one more record
pub records_of-push : (ts : List Taken) (t : Taken) → records_of (calls_of (ts ++ t ∷ [])) ≡ records_of (calls_of ts) ++ encoding t.call
records_of-push ts t =
    ap records_of (calls_of-push ts t)
    ∙ flat_map-append encoding (calls_of ts) (t.call ∷ [])
    ∙ ap (λ l. records_of (calls_of ts) ++ l) (append-nil (encoding t.call))

-- one more reply
pub answered_by-push : (ts : List Taken) (t : Taken)
    → answered_by (ts ++ t ∷ []) ≡ answered_by ts ++ reply_encoding (step_taken (page_after first_page ts) t).reply
answered_by-push ts t =
    ap answers_of (replies-push first_page ts t)
    ∙ flat_map-append reply_encoding (replies first_page ts) ((step_taken (page_after first_page ts) t).reply ∷ [])
    ∙ ap (λ l. answered_by ts ++ l) (append-nil (reply_encoding (step_taken (page_after first_page ts) t).reply))

-- one more header within the bound
pub headers-push : (calls : List Call) (call : Call) → HeadersWithin calls → HasRoomAfter calls → HeadersWithin (calls ++ call ∷ [])
headers-push calls call within room k before =
    elim (cases_lt k (length calls)) [
      | inl first ↦ subst HasRoomAfter (sym (take-append-le k calls (call ∷ []) (omega arith))) (within k first)
      | inr last ↦
          let whole : take k (calls ++ call ∷ []) ≡ calls =
          take-append-le k calls (call ∷ []) (omega (arith, before, length-append calls (call ∷ []))) ∙ take_all k calls last in
          subst HasRoomAfter (sym whole) room
    ]

-- a list of one
pub only : (t : Taken) → Fits t.call → All (λ s. Fits s.call) (t ∷ [])
only t one zero d within = one
only t one (suc k) d within = absurd (omega arith)

-- one more call that has a record
pub fits-push : (ts : List Taken) (t : Taken) → All (λ s. Fits s.call) ts → Fits t.call → All (λ s. Fits s.call) (ts ++ t ∷ [])
fits-push ts t fits one = All-append (λ s. Fits s.call) ts (t ∷ []) fits (only t one)

-- one more call, and whether memory ran out for it
pub AreTaken-push : (ts : List Taken) (t : Taken) → AreTaken ts → Fits t.call → HasRoomAfter (calls_of ts)
    → (t.out_of_memory ≡ true → MayBeOutOfMemory (page_after first_page ts) t.call)
    → t.out_of_memory ≡ is_out_of_memory (step_taken (page_after first_page ts) t).reply → AreTaken (ts ++ t ∷ [])
AreTaken-push ts t are fits room may said =
    let reply = (step_taken (page_after first_page ts) t).reply in
    let both : map (λ (s : Taken). s.out_of_memory) ts ++ t.out_of_memory ∷ [] ≡ map is_out_of_memory (replies first_page ts) ++ is_out_of_memory reply ∷ [] =
    cc (are.out_of_memory, said) in
    record {
      fits = fits-push ts t are.fits fits;
      headers = subst HeadersWithin (sym (calls_of-push ts t)) (headers-push (calls_of ts) t.call are.headers room);
      out_of_memory =
          map-append (λ (s : Taken). s.out_of_memory) ts (t ∷ []) ∙ both
          ∙ sym (map-append is_out_of_memory (replies first_page ts) (reply ∷ [])) ∙ ap (map is_out_of_memory) (sym (replies-push first_page ts t));
      allowed = OutOfMemoryAllowed-push first_page ts t are.allowed may;
    }
