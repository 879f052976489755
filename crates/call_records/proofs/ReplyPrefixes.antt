-- What begins a reply's bytes, and what can't begin them.
use Rattle.std.proofs.Common.{◌≡◌, ℕ, ◌+◌, ◌*◌, ◌<◌, ◌≤◌, ◌^◌, List, [], ◌∷◌, ◌++◌, length, take, drop, set, suc, refl, sym, ◌∙◌, ap, arith, append_assoc, append-nil, length-append, lit<}
use Rattle.std.specs.List.{flat_map}
use Rattle.std.proofs.Math.Seq.{take-suc-set}
use Rattle.std.proofs.lemmas.List.{drop-drop, take-append-drop, length-take-le}
use Rattle.std.proofs.lemmas.Grind.{flat_map-append}
use Rattle.std.proofs.lemmas.List.Concat.{flat_map-cons}
use Rattle.gl_numbers.specs.Bytes.{le32}
use Rattle.gl_numbers.proofs.Bytes.{length-le32, le32-one, drop-le32}
use Rattle.call_records.specs.declared.replies.TheConstants.{TAG_NUMBER}
use Rattle.call_records.specs.declared.replies.Value as Values
use Rattle.call_records.specs.declared.replies.Value.TheVariants.{Nothing, Number, Text, Active}
use Rattle.call_records.specs.declared.replies.Value.TheVariants as Value
use Rattle.call_records.specs.declared.replies.Reply.{Reply}
use Rattle.call_records.specs.Replies.{tag_of, content_of, reply_encoding, IsValue, IsReply}

-- four bytes a word
pub length-words : (words : List ℕ) → length (flat_map le32 words) ≡ 4 * length words
length-words [] = refl
length-words (word ∷ words) =
    let rest = length-words words in
    rw (flat_map-cons le32 word words) (omega (arith, length-append (le32 word) (flat_map le32 words), length-le32 word, rest))

-- a list's length, and its words
pub list_size : (words : List ℕ) (n : ℕ) → length words ≡ n → 4 + 4 * n ≡ length (le32 (length words) ++ flat_map le32 words)
list_size words n e =
    omega (arith, e, length-append (le32 (length words)) (flat_map le32 words), length-le32 (length words), length-words words)

-- a prefix that was filled is as long as before
pub held_prefix : (into held : List ℕ) (n : ℕ) → length into ≡ length (take n held) → n ≤ length held → length (take n (into ++ drop n held)) ≡ n
held_prefix into held n e within =
    let prefix : length into ≡ n = e ∙ length-take-le n held within in
    length-take-le n (into ++ drop n held) (omega (arith, prefix, length-append into (drop n held)))

-- one more word
pub words-suc : (into : List ℕ) (i word : ℕ) → i < length into → flat_map le32 (take (i + 1) (set into i word)) ≡ flat_map le32 (take i into) ++ le32 word
words-suc into i word in_range =
    let one : flat_map le32 (word ∷ []) ≡ le32 word = flat_map-cons le32 word [] ∙ append-nil (le32 word) in
    let next : i + 1 ≡ suc i = omega arith in
    ap (λ k. flat_map le32 (take k (set into i word))) next ∙ ap (flat_map le32) (take-suc-set into i word in_range) ∙ flat_map-append le32 (take i into) (word ∷ []) ∙ ap (λ l. flat_map le32 (take i into) ++ l) one

-- one more word was read
pub words_more : (bytes into : List ℕ) (i word : ℕ) → i < length into → bytes ≡ flat_map le32 (take i into) ++ drop (4 * i) bytes
    → drop (4 * i) bytes ≡ le32 word ++ drop 4 (drop (4 * i) bytes)
    → bytes ≡ flat_map le32 (take (i + 1) (set into i word)) ++ drop (4 * (i + 1)) bytes
words_more bytes into i word in_range e p =
    let left : drop 4 (drop (4 * i) bytes) ≡ drop (4 * (i + 1)) bytes = drop-drop 4 (4 * i) bytes ∙ ap (λ k. drop k bytes) (omega arith) in
    let prefix : (flat_map le32 (take i into) ++ le32 word) ++ drop (4 * (i + 1)) bytes ≡ flat_map le32 (take (i + 1) (set into i word)) ++ drop (4 * (i + 1)) bytes =
    ap (λ l. l ++ drop (4 * (i + 1)) bytes) (sym (words-suc into i word in_range)) in
    e ∙ ap (λ l. flat_map le32 (take i into) ++ l) (p ∙ ap (λ l. le32 word ++ l) left) ∙ sym (append_assoc (flat_map le32 (take i into)) (le32 word) (drop (4 * (i + 1)) bytes)) ∙ prefix

-- a word, and then a part
pub one_prefix : (bytes part : List ℕ) (a size : ℕ) → bytes ≡ le32 a ++ drop 4 bytes → drop 4 bytes ≡ part ++ drop size (drop 4 bytes)
    → bytes ≡ (le32 a ++ part) ++ drop (4 + size) bytes
one_prefix bytes part a size p q =
    p ∙ ap (λ l. le32 a ++ l) q ∙ sym (append_assoc (le32 a) part (drop size (drop 4 bytes))) ∙ ap (λ l. (le32 a ++ part) ++ l) (drop-drop size 4 bytes)

-- two words, and then a part
pub two_prefix : (bytes part : List ℕ) (a b size : ℕ) → bytes ≡ le32 a ++ drop 4 bytes → drop 4 bytes ≡ le32 b ++ drop 4 (drop 4 bytes)
    → drop 8 bytes ≡ part ++ drop size (drop 8 bytes) → bytes ≡ (le32 a ++ (le32 b ++ part)) ++ drop (8 + size) bytes
two_prefix bytes part a b size p q r =
    let inner : drop 4 bytes ≡ (le32 b ++ part) ++ drop (4 + size) (drop 4 bytes) =
    one_prefix (drop 4 bytes) part b size q (drop-drop 4 4 bytes ∙ r ∙ ap (λ l. part ++ drop size l) (sym (drop-drop 4 4 bytes))) in
    let wide : 4 + (4 + size) ≡ 8 + size = omega arith in
    rw (← wide) (one_prefix bytes (le32 b ++ part) a (4 + size) p inner)

-- a name, after its length
pub name_prefix : (bytes name : List ℕ) (n : ℕ) → bytes ≡ le32 n ++ drop 4 bytes → n ≤ length (drop 4 bytes) → name ≡ take n (drop 4 bytes)
    → bytes ≡ (le32 (length name) ++ name) ++ drop (4 + n) bytes
name_prefix bytes name n p within e =
    let size : length name ≡ n = ap length e ∙ length-take-le n (drop 4 bytes) within in
    let part : drop 4 bytes ≡ name ++ drop n (drop 4 bytes) = rw e (sym (take-append-drop n (drop 4 bytes))) in
    rw size (one_prefix bytes name n n p part)

-- what stands after the first word
pub after_one : (bytes part rest : List ℕ) (a : ℕ) → bytes ≡ (le32 a ++ part) ++ rest → drop 4 bytes ≡ part ++ rest
after_one bytes part rest a e = ap (drop 4) (e ∙ append_assoc (le32 a) part rest) ∙ drop-le32 a (part ++ rest)

-- what stands after the first two words
pub after_two : (bytes part rest : List ℕ) (a b : ℕ) → bytes ≡ (le32 a ++ (le32 b ++ part)) ++ rest → drop 8 bytes ≡ part ++ rest
after_two bytes part rest a b e =
    sym (drop-drop 4 4 bytes) ∙ after_one (drop 4 bytes) part rest b (after_one bytes (le32 b ++ part) rest a e)

-- the first word is one
pub word_one : (bytes part rest : List ℕ) (a b : ℕ) → a < 2 ^ 32 → b < 2 ^ 32 → bytes ≡ le32 a ++ drop 4 bytes → bytes ≡ (le32 b ++ part) ++ rest → a ≡ b
word_one bytes part rest a b p q e f =
    let same = le32-one a b (drop 4 bytes) (part ++ rest) p q (sym e ∙ f ∙ append_assoc (le32 b) part rest) in
    same.word

-- bytes that are too few for a word
pub no_word : (bytes part rest : List ℕ) (a : ℕ) → length bytes < 4 → bytes ≡ (le32 a ++ part) ++ rest → ⊥
no_word bytes part rest a short e =
    omega (arith, short, ap length e, length-append (le32 a ++ part) rest, length-append (le32 a) part, length-le32 a)

-- bytes that are too few for two words
pub no_words : (bytes part rest : List ℕ) (a b : ℕ) → length bytes < 8 → bytes ≡ (le32 a ++ (le32 b ++ part)) ++ rest → ⊥
no_words bytes part rest a b short e =
    omega (arith, short, ap length e, length-append (le32 a ++ (le32 b ++ part)) rest, length-append (le32 a) (le32 b ++ part), length-append (le32 b) part, length-le32 a, length-le32 b)

-- a count that is too high
pub no_count : (bytes part rest : List ℕ) (most n count : ℕ) → most < 2 ^ 32 → n < 2 ^ 32 → bytes ≡ le32 n ++ drop 4 bytes → most < n → count ≤ most
    → bytes ≡ (le32 count ++ part) ++ rest → ⊥
no_count bytes part rest most n count m p e over within f =
    let same = word_one bytes part rest n count p (omega (arith, m, within)) e f in
    omega (arith, same, over, within)

-- a part that is cut short
pub no_part : (bytes part rest : List ℕ) (most n count scale : ℕ) → most < 2 ^ 32 → n < 2 ^ 32 → bytes ≡ le32 n ++ drop 4 bytes → count ≤ most
    → length (drop 4 bytes) < scale * n → length part ≡ scale * count → bytes ≡ (le32 count ++ part) ++ rest → ⊥
no_part bytes part rest most n count scale m p e within short size f =
    let same = word_one bytes part rest n count p (omega (arith, m, within)) e f in
    let left = ap length (after_one bytes part rest count f) ∙ length-append part rest in
    let wide : scale * n ≡ scale * count = ap (λ k. scale * k) same in
    omega (arith, left, short, size, wide)

-- each tag is a word
pub tag_fits : (value : Values.Value) → tag_of value < 2 ^ 32
tag_fits Nothing = lit< tt
tag_fits (Number n) = lit< tt
tag_fits (Value.List words) = lit< tt
tag_fits (Text name) = lit< tt
tag_fits (Active size kind name) = lit< tt

-- a number that is cut short
pub no_number : (bytes : List ℕ) (tag : ℕ) → length bytes < 4 → tag ≡ TAG_NUMBER → (value : Values.Value) (rest : List ℕ) → tag_of value ≡ tag
    → bytes ≡ content_of value ++ rest → ⊥
no_number bytes tag short t Nothing rest same e = absurd (omega (arith, t, same))
no_number bytes tag short t (Number n) rest same e = no_word bytes [] rest n short (rw append-nil e)
no_number bytes tag short t (Value.List words) rest same e = absurd (omega (arith, t, same))
no_number bytes tag short t (Text name) rest same e = absurd (omega (arith, t, same))
no_number bytes tag short t (Active size kind name) rest same e = absurd (omega (arith, t, same))

-- a value that doesn't begin the bytes after the code and the tag
pub no_reply : (bytes : List ℕ) (raised tag : ℕ) → tag < 2 ^ 32 → bytes ≡ le32 raised ++ drop 4 bytes → drop 4 bytes ≡ le32 tag ++ drop 4 (drop 4 bytes)
    → ((value : Values.Value) (rest : List ℕ) → IsValue value → tag_of value ≡ tag → drop 8 bytes ≡ content_of value ++ rest → ⊥)
    → (reply : Reply) (rest : List ℕ) → IsReply reply → bytes ≡ reply_encoding reply ++ rest → ⊥
no_reply bytes raised tag p e f none reply rest is g =
    let tagged = after_one bytes (le32 (tag_of reply.value) ++ content_of reply.value) rest reply.raised g in
    let same = word_one (drop 4 bytes) (content_of reply.value) rest tag (tag_of reply.value) p (tag_fits reply.value) f tagged in
    none reply.value rest is.1 (sym same) (after_two bytes (content_of reply.value) rest reply.raised (tag_of reply.value) g)
