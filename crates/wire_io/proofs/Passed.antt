-- What a buffer's reads and writes do to the known bytes, one after another.
use Rattle.std.proofs.Common.{◌≡◌, ℕ, ◌+◌, ◌-◌, List, [], ◌++◌, length, take, drop, Option, Some, None, sym, ◌∙◌, ap, append_assoc}
use Rattle.std.proofs.lemmas.List.{take-append-drop, drop-drop, take_rest}
use Rattle.std.specs.Io.KnownBytes.{Keeps, Appends}
use Rattle.wire_io.specs.Buffers.{Passes}

-- one more part was sent
pub passes_more : (old mid new : Option (List ℕ)) (waited xs : List ℕ) (s n : ℕ) → Passes old mid waited [] (drop s xs)
    → Appends mid new (take n (take (length xs - s) (drop s xs))) → Passes old new waited [] (drop (s + n) xs)
passes_more None mid new waited xs s n p q = tt
passes_more (Some x) None new waited xs s n p q = absurd p
passes_more (Some x) (Some m) None waited xs s n p q = absurd q
passes_more (Some x) (Some m) (Some y) waited xs s n p q =
    let part : take n (take (length xs - s) (drop s xs)) ≡ take n (drop s xs) = ap (take n) (take_rest xs s) in
    let sent : y ≡ m ++ take n (drop s xs) = q ∙ ap (λ l. m ++ l) part in
    let rest : drop s xs ≡ take n (drop s xs) ++ drop (s + n) xs = sym (take-append-drop n (drop s xs)) ∙ ap (λ l. take n (drop s xs) ++ l) (drop-drop n s xs) in
    p ∙ ap (λ l. m ++ l) rest ∙ sym (append_assoc m (take n (drop s xs)) (drop (s + n) xs)) ∙ ap (λ l. l ++ drop (s + n) xs) (sym sent)

-- a write that failed sent nothing
pub passes_kept : (old mid new : Option (List ℕ)) (waited waits : List ℕ) → Passes old mid waited [] waits → Keeps mid new
    → Passes old new waited [] waits
passes_kept None mid new waited waits p q = tt
passes_kept (Some x) None new waited waits p q = absurd p
passes_kept (Some x) (Some m) None waited waits p q = absurd q
passes_kept (Some x) (Some m) (Some y) waited waits p q = p ∙ ap (λ l. l ++ waits) (sym q)
