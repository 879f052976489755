-- Readings: what stands at the front of a list of tokens, with the tokens that follow it.
use Rattle.std.specs.Prelude.{ℕ, zero, suc, if◌then◌else◌, nat_lt, List, length, Option, Some, None}
use Rattle.glsl_tree.specs.Token.{PlainToken}

-- what a list begins with, and the tokens that follow
abbrev pub Reads : Type 0 → Type 0
Reads A = List PlainToken → Option (A × List PlainToken)

-- what is read after what was read
abbrev pub after : {A B : Type 0} → Option (A × List PlainToken) → (A → Reads B) → Option (B × List PlainToken)
after None next = None
after (Some found) next = next found.0 found.1

-- what is read after a mark, or after a word, that must stand there
abbrev pub past : {B : Type 0} → Option (List PlainToken) → Reads B → Option (B × List PlainToken)
past None next = None
past (Some rest) next = next rest

-- what is made of what was read
abbrev pub made : {A B : Type 0} → (A → B) → Option (A × List PlainToken) → Option (B × List PlainToken)
made make None = None
made make (Some found) = Some (make found.0, found.1)

-- what is read with one level of height less; nothing where none is left
abbrev pub below : {B : Type 0} → ℕ → (ℕ → Option B) → Option B
below zero next = None
below (suc n) next = next n

-- one turn of a loop: it stops in front of the list, or it reads on
pub data Turn (S : Type 0) : Type 0 where
  Stop : Turn S
  Go : Option (S × List PlainToken) → Turn S

-- a turn that reads on where something is found
abbrev pub turn_on : {B S : Type 0} → Option B → (B → Option (S × List PlainToken)) → Turn S
turn_on None next = Stop
turn_on (Some b) next = Go (next b)

-- what fewer turns than this read; each one that reads on takes a token or more
unfoldable pub turns : {S : Type 0} → (S → List PlainToken → Turn S) → ℕ → S → Reads S
turns turn zero s list = None
turns turn (suc k) s list = elim (turn s list) [
  | Stop ↦ Some (s, list)
  | Go found ↦ after found (λ t rest. if nat_lt (length rest) (length list) then turns turn k t rest else None)
]

-- what a loop reads from a state on
abbrev pub looped : {S : Type 0} → (S → List PlainToken → Turn S) → S → Reads S
looped turn s list = turns turn (suc (length list)) s list
