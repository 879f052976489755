-- Words that are sent before more bytes.
use Rattle.std.proofs.Common.{◌≡◌, ℕ, List, [], ◌++◌, Option, Result, IsErr, append_assoc, append-nil}
use Rattle.std.specs.Io.KnownBytes.{append_known}
use Rattle.wire_io.specs.Sinks.{Sends}
use Rattle.wire_io.proofs.Known.{sends_then, sends_stop}

pub two_then : {T E : Type 0} (old mid new : Option (List ℕ)) (result : Result T E) (a b rest : List ℕ) → mid ≡ append_known old (a ++ b)
    → Sends mid new result rest → Sends old new result (a ++ (b ++ rest))
two_then old mid new result a b rest p q = rw (← append_assoc) (sends_then old mid new result (a ++ b) rest p q)

pub two_stop : {T U E F : Type 0} (old new : Option (List ℕ)) (first : Result T E) (result : Result U F) (a b rest : List ℕ) → Sends old new first (a ++ b)
    → IsErr first → IsErr result → Sends old new result (a ++ (b ++ rest))
two_stop old new first result a b rest p f e = rw (← append_assoc) (sends_stop old new first result (a ++ b) rest p f e)

pub three_then : {T E : Type 0} (old mid new : Option (List ℕ)) (result : Result T E) (a b c rest : List ℕ) → mid ≡ append_known old (a ++ (b ++ c))
    → Sends mid new result rest → Sends old new result (a ++ (b ++ (c ++ rest)))
three_then old mid new result a b c rest p q =
    let joined : (a ++ (b ++ c)) ++ rest ≡ a ++ (b ++ (c ++ rest)) = simp append_assoc in
    rw (← joined) (sends_then old mid new result (a ++ (b ++ c)) rest p q)

pub three_stop : {T U E F : Type 0} (old new : Option (List ℕ)) (first : Result T E) (result : Result U F) (a b c rest : List ℕ) → Sends old new first (a ++ (b ++ c))
    → IsErr first → IsErr result → Sends old new result (a ++ (b ++ (c ++ rest)))
three_stop old new first result a b c rest p f e =
    let joined : (a ++ (b ++ c)) ++ rest ≡ a ++ (b ++ (c ++ rest)) = simp append_assoc in
    rw (← joined) (sends_stop old new first result (a ++ (b ++ c)) rest p f e)

-- two words, and nothing after them
pub two_whole : {T E : Type 0} (old new : Option (List ℕ)) (result : Result T E) (a b : List ℕ) → Sends old new result (a ++ b)
    → Sends old new result (a ++ (b ++ []))
two_whole old new result a b p = rw append-nil p
