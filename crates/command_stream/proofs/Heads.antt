-- What is sent of a command whose fields are words: its header, the words, and then its tail.
use Rattle.std.proofs.Common.{◌≡◌, ℕ, ◌+◌, ◌*◌, ◌≤◌, List, [], ◌∷◌, ◌++◌, length, map, Option, Result, sym, ap, subst, ◌∙◌, arith, append_assoc, append-nil}
use Rattle.std.specs.List.{flat_map}
use Rattle.std.proofs.lemmas.Grind.{flat_map-append}
use Rattle.gl_numbers.specs.Bytes.{le32}
use Rattle.gl_numbers.specs.Fields.{Word, body_encoding}
use Rattle.wire_io.specs.Sinks.{Sends}
use Rattle.command_stream.specs.declared.operation.Operation.{Operation}
use Rattle.command_stream.specs.Operations.{number_of, body_max}
use Rattle.command_stream.specs.Commands.{with_words, encoding_of}
use Rattle.gl_numbers.proofs.FieldsOfCommands.{body-words, length-body_words}

-- a header and words, and then a tail
pub head-tail : (number len : ℕ) (words tail : List ℕ) → len ≡ 4 * length words + length tail
    → (le32 number ++ (le32 len ++ flat_map le32 words)) ++ tail
    ≡ le32 number ++ (le32 (length (body_encoding (map Word words) tail)) ++ body_encoding (map Word words) tail)
head-tail number len words tail size =
    append_assoc (le32 number) (le32 len ++ flat_map le32 words) tail
    ∙ ap (λ t. le32 number ++ t) (append_assoc (le32 len) (flat_map le32 words) tail
    ∙ ap (λ b. le32 len ++ b) (sym (body-words words tail))
    ∙ ap (λ n. le32 n ++ body_encoding (map Word words) tail) (size ∙ sym (length-body_words words tail)))

-- a header and words, with nothing after them
pub head-words : (number len : ℕ) (words : List ℕ) → len ≡ 4 * length words
    → le32 number ++ (le32 len ++ flat_map le32 words)
    ≡ le32 number ++ (le32 (length (body_encoding (map Word words) [])) ++ body_encoding (map Word words) [])
head-words number len words size = sym (append-nil (le32 number ++ (le32 len ++ flat_map le32 words)))
    ∙ head-tail number len words [] (omega (arith, size))

-- what is sent of them
pub sends-words : {E : Type 0} (old new : Option (List ℕ)) (result : Result (Unit {0}) E) (operation : Operation) (number len : ℕ) (words : List ℕ)
    → number ≡ number_of operation → len ≡ 4 * length words → Sends old new result (le32 number ++ (le32 len ++ flat_map le32 words))
    → Sends old new result (encoding_of (with_words operation words []))
sends-words old new result operation number len words is size sent =
    let same : le32 number ++ (le32 len ++ flat_map le32 words) ≡ encoding_of (with_words operation words []) =
    head-words number len words size
    ∙ ap (λ n. le32 n ++ (le32 (length (body_encoding (map Word words) [])) ++ body_encoding (map Word words) [])) is in
    subst (Sends old new result) same sent

-- and of them with a tail
pub sends-tail : {E : Type 0} (old new : Option (List ℕ)) (result : Result (Unit {0}) E) (operation : Operation) (number len : ℕ) (words tail : List ℕ)
    → number ≡ number_of operation → len ≡ 4 * length words + length tail
    → Sends old new result ((le32 number ++ (le32 len ++ flat_map le32 words)) ++ tail)
    → Sends old new result (encoding_of (with_words operation words tail))
sends-tail old new result operation number len words tail is size sent =
    let same : (le32 number ++ (le32 len ++ flat_map le32 words)) ++ tail ≡ encoding_of (with_words operation words tail) =
    head-tail number len words tail size
    ∙ ap (λ n. le32 n ++ (le32 (length (body_encoding (map Word words) tail)) ++ body_encoding (map Word words) tail)) is in
    subst (Sends old new result) same sent

-- few words and a short tail are a short body
pub short-words : (words tail : List ℕ) → 4 * length words + length tail ≤ body_max → length (body_encoding (map Word words) tail) ≤ body_max
short-words words tail short = omega (arith, length-body_words words tail, short)

-- a header and words, and then a second header and words with a tail
head-joined : (number len : ℕ) (words : List ℕ) (second left : ℕ) (others tail : List ℕ) → len ≡ 4 * length words → left ≡ 4 * length others + length tail
    → (le32 number ++ (le32 len ++ flat_map le32 (words ++ second ∷ left ∷ others))) ++ tail
    ≡ (le32 number ++ (le32 (length (body_encoding (map Word words) [])) ++ body_encoding (map Word words) []))
    ++ (le32 second ++ (le32 (length (body_encoding (map Word others) tail)) ++ body_encoding (map Word others) tail))
head-joined number len words second left others tail size rest =
    let head : List ℕ = le32 number ++ (le32 len ++ flat_map le32 words) in
    let after : List ℕ = le32 second ++ (le32 left ++ flat_map le32 others) in
    ap (λ b. (le32 number ++ (le32 len ++ b)) ++ tail) (flat_map-append le32 words (second ∷ left ∷ others))
    ∙ ap (λ b. b ++ tail) (sym (append_assoc (le32 number) (le32 len ++ flat_map le32 words) after
    ∙ ap (λ b. le32 number ++ b) (append_assoc (le32 len) (flat_map le32 words) after)))
    ∙ append_assoc head after tail
    ∙ ap (λ b. b ++ (after ++ tail)) (head-words number len words size)
    ∙ ap (λ b. (le32 number ++ (le32 (length (body_encoding (map Word words) [])) ++ body_encoding (map Word words) [])) ++ b)
    (head-tail second left others tail rest)

-- what is sent of two commands whose headers and words are one write, where a tail follows the second's
pub sends-joined : {E : Type 0} (old new : Option (List ℕ)) (result : Result (Unit {0}) E) (first : Operation) (number len : ℕ) (words : List ℕ)
    (operation : Operation) (second left : ℕ) (others tail : List ℕ)
    → number ≡ number_of first → second ≡ number_of operation → len ≡ 4 * length words → left ≡ 4 * length others + length tail
    → Sends old new result ((le32 number ++ (le32 len ++ flat_map le32 (words ++ second ∷ left ∷ others))) ++ tail)
    → Sends old new result (encoding_of (with_words first words []) ++ encoding_of (with_words operation others tail))
sends-joined old new result first number len words operation second left others tail is same size rest sent =
    let joined : (le32 number ++ (le32 len ++ flat_map le32 (words ++ second ∷ left ∷ others))) ++ tail
    ≡ encoding_of (with_words first words []) ++ encoding_of (with_words operation others tail) =
    head-joined number len words second left others tail size rest
    ∙ ap (λ n. (le32 n ++ (le32 (length (body_encoding (map Word words) [])) ++ body_encoding (map Word words) []))
    ++ (le32 second ++ (le32 (length (body_encoding (map Word others) tail)) ++ body_encoding (map Word others) tail))) is
    ∙ ap (λ n. encoding_of (with_words first words []) ++ (le32 n ++ (le32 (length (body_encoding (map Word others) tail)) ++ body_encoding (map Word others) tail))) same in
    subst (Sends old new result) joined sent
