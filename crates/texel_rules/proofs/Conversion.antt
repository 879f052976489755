-- Rows converted texel by texel, from the first on.
use Rattle.std.proofs.Common.{◌≡◌, ◌≤◌, ◌<◌, ◌+◌, ◌-◌, ◌⊎◌, inl, inr, ◌/◌, ◌%◌, ℕ, suc, Bool, List, [], ◌++◌, length, take, drop, refl, sym, ap, ◌∙◌, arith, length-drop, append_assoc, append-nil}
use Rattle.std.specs.List.{flat_map}
use Rattle.std.specs.Simd.{first_chunks}
use Rattle.std.proofs.lemmas.Bool.{cases_lt}
use Rattle.std.proofs.lemmas.List.{drop-drop}
use Rattle.std.proofs.lemmas.Slice.{take-put_mid}
use borrow.Rule.Slice.PartMut.{put_mid}
use Rattle.std.proofs.Math.Nat.{div-eq-sub-div, mod-eq-sub-mod, mod-eq_of_lt}
use Rattle.gl_numbers.specs.declared.texture_words.Format.{Format}
use Rattle.gl_numbers.specs.declared.texture_words.Format.TheVariants.{Alpha, Rgb, Rgba, Luminance, LuminanceAlpha}
use Rattle.gl_numbers.specs.declared.texture_words.TexelType.{TexelType}
use Rattle.gl_numbers.specs.declared.texture_words.TexelType.TheVariants.{UnsignedByte, UnsignedShort4444, UnsignedShort5551, UnsignedShort565}
use Rattle.texel_rules.specs.declared.layouts.Layout.{Layout}
use Rattle.texel_rules.specs.declared.layouts.Texel.{Texel}
use Rattle.texel_rules.specs.Layouts.{bytes_of, texel_bytes}
use Rattle.texel_rules.specs.Texels.{converted, packed, packed_by}
use Rattle.texel_rules.specs.UploadedTexels.{IsWhole, converted_row, texels_of}

bytes_some : (kind : TexelType) (format : Format) → 0 < bytes_of kind format
bytes_some UnsignedByte Alpha = omega arith
bytes_some UnsignedByte Rgb = omega arith
bytes_some UnsignedByte Rgba = omega arith
bytes_some UnsignedByte Luminance = omega arith
bytes_some UnsignedByte LuminanceAlpha = omega arith
bytes_some UnsignedShort4444 format = omega arith
bytes_some UnsignedShort5551 format = omega arith
bytes_some UnsignedShort565 format = omega arith

-- a texel has a byte
pub some_bytes : (layout : Layout) → 0 < texel_bytes layout
some_bytes layout = bytes_some layout.kind layout.format

packed_length_by : (kind : TexelType) (format : Format) (t : Texel) → length (packed_by kind format t) ≡ bytes_of kind format
packed_length_by UnsignedByte Alpha t = refl
packed_length_by UnsignedByte Rgb t = refl
packed_length_by UnsignedByte Rgba t = refl
packed_length_by UnsignedByte Luminance t = refl
packed_length_by UnsignedByte LuminanceAlpha t = refl
packed_length_by UnsignedShort4444 format t = refl
packed_length_by UnsignedShort5551 format t = refl
packed_length_by UnsignedShort565 format t = refl

-- a texel is packed into its bytes
pub packed_length : (layout : Layout) (t : Texel) → length (packed layout t) ≡ texel_bytes layout
packed_length layout t = packed_length_by layout.kind layout.format t

-- the first texel of a row, and those after it
pub converted_row-first : (layout : Layout) (on : Bool) (row : List ℕ) → texel_bytes layout ≤ length row
    → converted_row layout on row ≡ converted layout on (take (texel_bytes layout) row) ++ converted_row layout on (drop (texel_bytes layout) row)
unfolding converted_row texels_of
converted_row-first layout on row long =
    let n = texel_bytes layout in
    let count : length row / n ≡ suc (length (drop n row) / n) = rw length-drop (omega (arith, div-eq-sub-div (some_bytes layout) long)) in
    ap (λ k. flat_map (converted layout on) (first_chunks n k row)) count

converted_row-first_by : (layout : Layout) (on : Bool) (row : List ℕ) (n : ℕ) → n ≡ texel_bytes layout → n ≤ length row
    → converted_row layout on row ≡ converted layout on (take n row) ++ converted_row layout on (drop n row)
converted_row-first_by layout on row n size long = rw size (converted_row-first layout on row (omega arith))

converted_none : (kind : TexelType) (format : Format) (on : Bool) → converted_row (record { format = format; kind = kind }) on [] ≡ []
unfolding converted_row texels_of
converted_none UnsignedByte Alpha on = refl
converted_none UnsignedByte Rgb on = refl
converted_none UnsignedByte Rgba on = refl
converted_none UnsignedByte Luminance on = refl
converted_none UnsignedByte LuminanceAlpha on = refl
converted_none UnsignedShort4444 format on = refl
converted_none UnsignedShort5551 format on = refl
converted_none UnsignedShort565 format on = refl

-- a row of no texel
pub converted_row-none : (layout : Layout) (on : Bool) → converted_row layout on [] ≡ []
converted_row-none layout on = converted_none layout.kind layout.format on

mod-rest : (m n : ℕ) → 0 < n → n ≤ m → m % n ≡ 0 → (m - n) % n ≡ 0
mod-rest m n some long e = sym (mod-eq-sub-mod long) ∙ e

-- whole texels are left after the first
pub whole-rest : (layout : Layout) (row : List ℕ) → IsWhole layout row → texel_bytes layout ≤ length row → IsWhole layout (drop (texel_bytes layout) row)
whole-rest layout row whole long =
    rw length-drop (mod-rest (length row) (texel_bytes layout) (some_bytes layout) long whole)

long_by : (m n : ℕ) → (m < n) ⊎ (n ≤ m) → m % n ≡ 0 → 0 < m → n ≤ m
long_by m n (inl less) whole more = absurd (omega (arith, mod-eq_of_lt less))
long_by m n (inr long) whole more = long

whole_long : (m n : ℕ) → 0 < n → m % n ≡ 0 → 0 < m → n ≤ m
whole_long m n some whole more = long_by m n (cases_lt m n) whole more

-- what is left of whole texels has a texel, if it has a byte
pub whole-first : (layout : Layout) (row : List ℕ) → IsWhole layout row → 0 < length row → texel_bytes layout ≤ length row
whole-first layout row whole more = whole_long (length row) (texel_bytes layout) (some_bytes layout) whole more

-- one more texel of a row is converted
pub turn : (layout : Layout) (on : Bool) (row into piece : List ℕ) (at n : ℕ) → n ≡ texel_bytes layout → at + n ≤ length row → length into ≡ length row
    → piece ≡ converted layout on (take n (drop at row))
    → take at into ++ converted_row layout on (drop at row) ≡ converted_row layout on row → length piece ≡ n
    → take (at + n) (put_mid at (at + n - at) into piece) ++ converted_row layout on (drop (at + n) row) ≡ converted_row layout on row
turn layout on row into piece at n size within same is so_far long =
    let within_into : at ≤ length into = omega arith in
    let left : n ≤ length (drop at row) = rw length-drop (omega arith) in
    let next : drop n (drop at row) ≡ drop (at + n) row = drop-drop n at row in
    let step = converted_row-first_by layout on (drop at row) n size left in
    let first : converted_row layout on (drop at row) ≡ piece ++ converted_row layout on (drop (at + n) row) = cc in
    ap (λ x. x ++ converted_row layout on (drop (at + n) row)) (take-put_mid at (at + n - at) into piece (at + n) (omega arith) within_into)
    ∙ append_assoc (take at into) piece (converted_row layout on (drop (at + n) row))
    ∙ ap (λ x. take at into ++ x) (sym first) ∙ so_far

-- no texel is left
pub finished : (layout : Layout) (on : Bool) (into front rest whole : List ℕ) → rest ≡ [] → front ≡ into
    → front ++ converted_row layout on rest ≡ whole → into ≡ whole
finished layout on into front rest whole none same done =
    let last : converted_row layout on rest ≡ [] = ap (converted_row layout on) none ∙ converted_row-none layout on in
    sym same ∙ sym (append-nil front) ∙ ap (λ x. front ++ x) (sym last) ∙ done
