-- Replies as bytes (this project's own format).
use Rattle.std.specs.Prelude.{ℕ, ◌<◌, ◌≤◌, ◌^◌, List, [], ◌++◌, length}
use Rattle.std.specs.List.{flat_map, All}
use Rattle.gl_numbers.specs.Bytes.{le32}
use Rattle.call_records.specs.declared.replies.Value as Values
use Rattle.call_records.specs.declared.replies.Value.TheVariants.{Nothing, Number, Text, Active}
use Rattle.call_records.specs.declared.replies.Value.TheVariants as Value
use Rattle.call_records.specs.declared.replies.Reply.{Reply}

-- the number of the value's kind
abbrev pub tag_of : Values.Value → ℕ
tag_of Nothing = 0
tag_of (Number n) = 1
tag_of (Value.List words) = 2
tag_of (Text name) = 3
tag_of (Active size kind name) = 4

-- the value's content: a list and a name begin with their length
abbrev pub content_of : Values.Value → List ℕ
content_of Nothing = []
content_of (Number n) = le32 n
content_of (Value.List words) = le32 (length words) ++ flat_map le32 words
content_of (Text name) = le32 (length name) ++ name
content_of (Active size kind name) = le32 size ++ (le32 kind ++ (le32 (length name) ++ name))

-- the code raised, the tag, and the content
abbrev pub reply_encoding : Reply → List ℕ
reply_encoding reply = le32 reply.raised ++ (le32 (tag_of reply.value) ++ content_of reply.value)

-- the value is one that a reply can hold: its numbers are words, a list has at most 16 of them, a name at most 256 bytes
abbrev pub IsValue : Values.Value → Type 0
IsValue Nothing = Unit {0}
IsValue (Number n) = n < 2 ^ 32
IsValue (Value.List words) = (length words ≤ 16) × All (λ word. word < 2 ^ 32) words
IsValue (Text name) = length name ≤ 256
IsValue (Active size kind name) = (size < 2 ^ 32) × (kind < 2 ^ 32) × (length name ≤ 256)

-- the code raised is a word, and the value is one that a reply can hold
abbrev pub IsReply : Reply → Type 0
IsReply reply = (reply.raised < 2 ^ 32) × IsValue reply.value
