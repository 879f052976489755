-- A row of which no texel changes is converted to itself.
use Rattle.std.proofs.Common.{◌≡◌, ◌≤◌, ◌<◌, ◌+◌, ◌*◌, ◌/◌, ◌%◌, ℕ, zero, suc, Bool, true, false, List, [], ◌∷◌, ◌++◌, length, take, drop, get_or, refl, sym, ap, ◌∙◌, arith, length-drop}
use Rattle.std.specs.Prelude.{IsTrue, ◌&&◌}
use Rattle.std.proofs.lemmas.List.{get_or-drop, get_or-take, length-take-le, take-append-drop}
use Rattle.gl_numbers.specs.declared.texture_words.Format.{Format}
use Rattle.gl_numbers.specs.declared.texture_words.Format.TheVariants.{Alpha, Rgb, Rgba, Luminance, LuminanceAlpha}
use Rattle.gl_numbers.specs.declared.texture_words.TexelType.{TexelType}
use Rattle.gl_numbers.specs.declared.texture_words.TexelType.TheVariants.{UnsignedByte, UnsignedShort4444, UnsignedShort5551, UnsignedShort565}
use Rattle.texel_rules.specs.declared.layouts.Layout.{Layout}
use Rattle.texel_rules.specs.declared.layouts.Texel.{Texel}
use Rattle.texel_rules.specs.Layouts.{IsAllowed, bytes_of, goes_with, texel_bytes}
use Rattle.texel_rules.specs.Texels.{converted, full_alpha, is_premultiplied, le16, packed, packed_by, premultiplied_by, texel_by, texel_of, word_of}
use Rattle.texel_rules.specs.UploadedTexels.{IsWhole, converted_row}
use Rattle.texel_rules.proofs.Conversion.{converted_row-first, converted_row-none, some_bytes, whole-first, whole-rest}

-- each number is a byte
abbrev pub AreBytes : List ℕ → Type 0
AreBytes bytes = (k : ℕ) → k < length bytes → get_or bytes k 0 < 256

-- the two bytes of a word that is one of them and 256 times the other
le16-is : (w x y : ℕ) → x < 256 → y < 256 → w ≡ x + 256 * y → le16 w ≡ x ∷ y ∷ []
le16-is w x y low high e =
    let first : w % 256 ≡ x = omega arith in
    let second : w / 256 ≡ y = omega arith in
    cc

repacked_4444 : (x y w : ℕ) → x < 256 → y < 256 → w ≡ x + 256 * y
    → w / 4096 % 16 * 4096 + w / 256 % 16 * 256 + w / 16 % 16 * 16 + w / 1 % 16 ≡ x + 256 * y
repacked_4444 x y w low high e = omega arith

repacked_5551 : (x y w : ℕ) → x < 256 → y < 256 → w ≡ x + 256 * y
    → w / 2048 % 32 * 2048 + w / 64 % 32 * 64 + w / 2 % 32 * 2 + w / 1 % 2 ≡ x + 256 * y
repacked_5551 x y w low high e = omega arith

repacked_565 : (x y w : ℕ) → x < 256 → y < 256 → w ≡ x + 256 * y
    → w / 2048 % 32 * 2048 + w / 32 % 64 * 32 + w / 1 % 32 ≡ x + 256 * y
repacked_565 x y w low high e = omega arith

one_is : (b : List ℕ) → length b ≡ 1 → get_or b 0 0 ∷ [] ≡ b
one_is [] e = absurd (omega (arith, e))
one_is (x ∷ []) e = refl
one_is (x ∷ y ∷ b) e = absurd (omega (arith, e))

two_is : (b : List ℕ) → length b ≡ 2 → get_or b 0 0 ∷ get_or b 1 0 ∷ [] ≡ b
two_is [] e = absurd (omega (arith, e))
two_is (x ∷ b) e = ap (λ l. x ∷ l) (one_is b (omega (arith, e)))

three_is : (b : List ℕ) → length b ≡ 3 → get_or b 0 0 ∷ get_or b 1 0 ∷ get_or b 2 0 ∷ [] ≡ b
three_is [] e = absurd (omega (arith, e))
three_is (x ∷ b) e = ap (λ l. x ∷ l) (two_is b (omega (arith, e)))

four_is : (b : List ℕ) → length b ≡ 4 → get_or b 0 0 ∷ get_or b 1 0 ∷ get_or b 2 0 ∷ get_or b 3 0 ∷ [] ≡ b
four_is [] e = absurd (omega (arith, e))
four_is (x ∷ b) e = ap (λ l. x ∷ l) (three_is b (omega (arith, e)))

-- the two bytes of a word are those that it was read from
word_again : (b : List ℕ) (w : ℕ) → length b ≡ 2 → AreBytes b → w ≡ word_of b → le16 w ≡ b
word_again b w two bytes e = le16-is w (get_or b 0 0) (get_or b 1 0) (bytes 0 (omega (arith, two))) (bytes 1 (omega (arith, two))) e ∙ two_is b two

-- a texel that is taken apart is packed to the same bytes
repacked : (kind : TexelType) (format : Format) → IsTrue (goes_with kind format) → (b : List ℕ) → length b ≡ bytes_of kind format → AreBytes b
    → packed_by kind format (texel_by kind format b) ≡ b
repacked UnsignedByte Alpha goes b one bytes = one_is b one
repacked UnsignedByte Luminance goes b one bytes = one_is b one
repacked UnsignedByte LuminanceAlpha goes b one bytes = two_is b one
repacked UnsignedByte Rgb goes b one bytes = three_is b one
repacked UnsignedByte Rgba goes b one bytes = four_is b one
repacked UnsignedShort4444 Rgba goes b one bytes =
    word_again b _ one bytes (repacked_4444 (get_or b 0 0) (get_or b 1 0) (word_of b) (bytes 0 (omega (arith, one))) (bytes 1 (omega (arith, one))) refl)
repacked UnsignedShort5551 Rgba goes b one bytes =
    word_again b _ one bytes (repacked_5551 (get_or b 0 0) (get_or b 1 0) (word_of b) (bytes 0 (omega (arith, one))) (bytes 1 (omega (arith, one))) refl)
repacked UnsignedShort565 Rgb goes b one bytes =
    word_again b _ one bytes (repacked_565 (get_or b 0 0) (get_or b 1 0) (word_of b) (bytes 0 (omega (arith, one))) (bytes 1 (omega (arith, one))) refl)
repacked kind format goes b one bytes = absurd cc

same_colours : (full : ℕ) (format : Format) (t : Texel) → is_premultiplied format ≡ false → premultiplied_by full format t ≡ t
same_colours full Rgba t plain = absurd cc
same_colours full LuminanceAlpha t plain = absurd cc
same_colours full Alpha t plain = refl
same_colours full Luminance t plain = refl
same_colours full Rgb t plain = refl

-- a texel that isn't premultiplied is converted to itself
converted-same : (layout : Layout) (on : Bool) (b : List ℕ) → IsAllowed layout → length b ≡ texel_bytes layout → AreBytes b
    → (on && is_premultiplied layout.format) ≡ false → converted layout on b ≡ b
converted-same layout false b allowed one bytes plain = repacked layout.kind layout.format allowed b one bytes
converted-same layout true b allowed one bytes plain =
    ap (packed layout) (same_colours (full_alpha layout.kind) layout.format (texel_of layout b) plain) ∙ repacked layout.kind layout.format allowed b one bytes

are_bytes-take : (n : ℕ) (row : List ℕ) → n ≤ length row → AreBytes row → AreBytes (take n row)
are_bytes-take n row long bytes k within =
    let small : k < n = omega (arith, within, length-take-le n row long) in rw (get_or-take n row k 0 small) (bytes k (omega arith))

are_bytes-drop : (n : ℕ) (row : List ℕ) → AreBytes row → AreBytes (drop n row)
are_bytes-drop n row bytes k within = rw (get_or-drop n row k 0) (bytes (n + k) (omega (arith, within, length-drop n row)))

copied_by : (fuel : ℕ) (layout : Layout) (on : Bool) (row : List ℕ) → length row ≤ fuel → IsAllowed layout → IsWhole layout row → AreBytes row
    → (on && is_premultiplied layout.format) ≡ false → converted_row layout on row ≡ row
copied_by fuel layout on [] short allowed whole bytes plain = converted_row-none layout on
copied_by zero layout on (x ∷ row) short allowed whole bytes plain = absurd (omega (arith, short))
copied_by (suc fuel) layout on (x ∷ row) short allowed whole bytes plain =
    let long : texel_bytes layout ≤ length (x ∷ row) = whole-first layout (x ∷ row) whole (omega arith) in
    let some : 0 < texel_bytes layout = some_bytes layout in
    let first : converted layout on (take (texel_bytes layout) (x ∷ row)) ≡ take (texel_bytes layout) (x ∷ row) =
    converted-same layout on (take (texel_bytes layout) (x ∷ row)) allowed (length-take-le (texel_bytes layout) (x ∷ row) long) (are_bytes-take (texel_bytes layout) (x ∷ row) long bytes) plain in
    let rest : converted_row layout on (drop (texel_bytes layout) (x ∷ row)) ≡ drop (texel_bytes layout) (x ∷ row) =
    copied_by fuel layout on (drop (texel_bytes layout) (x ∷ row)) (omega (arith, short, some, length-drop (texel_bytes layout) (x ∷ row))) allowed
    (whole-rest layout (x ∷ row) whole long) (are_bytes-drop (texel_bytes layout) (x ∷ row) bytes) plain in
    converted_row-first layout on (x ∷ row) long ∙ ap (λ a. a ++ converted_row layout on (drop (texel_bytes layout) (x ∷ row))) first
    ∙ ap (λ a. take (texel_bytes layout) (x ∷ row) ++ a) rest ∙ take-append-drop (texel_bytes layout) (x ∷ row)

-- a row of which no texel is premultiplied is converted to itself
pub copied : (layout : Layout) (on : Bool) (row : List ℕ) → IsAllowed layout → IsWhole layout row → AreBytes row
    → (on && is_premultiplied layout.format) ≡ false → row ≡ converted_row layout on row
copied layout on row allowed whole bytes plain = sym (copied_by (length row) layout on row (omega arith) allowed whole bytes plain)

-- nothing is premultiplied, or nothing of this format is
pub never_on : (on plain : Bool) → on ≡ false → (on && plain) ≡ false
never_on true plain off = absurd cc
never_on false plain off = refl

pub never_of : (on plain : Bool) → plain ≡ false → (on && plain) ≡ false
never_of true plain off = off
never_of false plain off = refl
