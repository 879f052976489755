-- Known bytes over several reads or writes.
use Rattle.std.proofs.Common.{◌≡◌, ℕ, ◌+◌, ◌-◌, ◌≤◌, List, ◌++◌, length, take, drop, Option, Some, None, Result, Ok, Err, IsErr, sym, ◌∙◌, ap, arith, append_assoc, length-append}
use Rattle.std.proofs.Math.Seq.{take-add, take-append-add}
use Rattle.std.proofs.lemmas.List.{length-take-le, take-append-le, take_rest}
use Rattle.std.specs.Io.KnownBytes.{prepend_known, append_known}
use Rattle.wire_io.specs.Sinks.{Sends}

-- bytes taken, and then more
pub taken_twice : (old mid new : Option (List ℕ)) (a b : List ℕ) → old ≡ prepend_known a mid → mid ≡ prepend_known b new
    → old ≡ prepend_known (a ++ b) new
taken_twice old mid None a b p q = p ∙ ap (prepend_known a) q
taken_twice old mid (Some x) a b p q = p ∙ ap (prepend_known a) q ∙ ap Some (sym (append_assoc a b x))

-- bytes appended, and then more
pub sent_twice : (old mid new : Option (List ℕ)) (a b : List ℕ) → mid ≡ append_known old a → new ≡ append_known mid b
    → new ≡ append_known old (a ++ b)
sent_twice None mid new a b p q = q ∙ ap (λ k. append_known k b) p
sent_twice (Some x) mid new a b p q = q ∙ ap (λ k. append_known k b) p ∙ ap Some (append_assoc x a b)

-- one more part of the piece was filled
pub filled_more : (old mid new : Option (List ℕ)) (filled n : ℕ) (piece part rest : List ℕ) → filled ≤ length piece → n ≤ length part
    → old ≡ prepend_known (take filled piece) mid → mid ≡ prepend_known (take n part) new
    → old ≡ prepend_known (take (filled + n) (take filled piece ++ (part ++ rest))) new
filled_more old mid new filled n piece part rest within fits p q =
    let whole : length (take filled piece) ≡ filled = length-take-le filled piece within in
    let prefix : take (filled + n) (take filled piece ++ (part ++ rest)) ≡ take filled piece ++ take n part =
    ap (λ k. take (k + n) (take filled piece ++ (part ++ rest))) (sym whole) ∙ take-append-add (take filled piece) (part ++ rest) n ∙ ap (λ l. take filled piece ++ l) (take-append-le n part rest fits) in
    rw prefix (taken_twice old mid new _ _ p q)

-- one more part of the piece was sent
pub sent_more : (old mid new : Option (List ℕ)) (sent n : ℕ) (piece : List ℕ)
    → mid ≡ append_known old (take sent piece) → new ≡ append_known mid (take n (take (length piece - sent) (drop sent piece)))
    → new ≡ append_known old (take (sent + n) piece)
sent_more old mid new sent n piece p q =
    rw take-add (sent_twice old mid new _ _ p (q ∙ ap (λ l. append_known mid (take n l)) (take_rest piece sent)))

-- a write that ends what was begun sends both parts
pub sends_then : {T E : Type 0} (old mid new : Option (List ℕ)) (result : Result T E) (a b : List ℕ) → mid ≡ append_known old a
    → Sends mid new result b → Sends old new result (a ++ b)
sends_then old mid new (Ok x) a b p q = sent_twice old mid new a b p q
sends_then old mid new (Err e) a b p q =
    let all = take-append-add a b q.0 in
    (length a + q.0, omega (arith, length-append a b, q.1), rw all (sent_twice old mid new a (take q.0 b) p q.2))

-- a write that failed in the first part failed in both
pub sends_stop : {T U E F : Type 0} (old new : Option (List ℕ)) (first : Result T E) (result : Result U F) (a b : List ℕ) → Sends old new first a
    → IsErr first → IsErr result → Sends old new result (a ++ b)
sends_stop old new (Ok x) result a b p f e = absurd cc
sends_stop old new (Err x) (Ok y) a b p f e = absurd cc
sends_stop old new (Err x) (Err y) a b p f e =
    (p.0, omega (arith, length-append a b, p.1), rw (take-append-le p.0 a b p.1) p.2)
