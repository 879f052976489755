-- A row that lies in a view is converted to the uploaded texels of the row.
use Rattle.std.proofs.Common.{◌≡◌, ◌≤◌, ◌<◌, ◌+◌, ◌-◌, ◌*◌, ◌/◌, ℕ, zero, suc, Bool, true, false, List, ◌++◌, length, take, drop, refl, sym, ap, ◌∙◌, arith, add-one, length-drop}
use Rattle.std.specs.Prelude.{◌==◌, ◌||◌, if◌then◌else◌}
use Rattle.std.proofs.lemmas.Bool.{eqb-true}
use Rattle.std.specs.List.{flat_map, range_with_len}
use Rattle.std.specs.Simd.{first_chunks}
use Rattle.std.proofs.Math.Nat.{div-eq_of_lt, zero-mul, mul-div_cancel, mul-le-mul_right, suc-mul}
use Rattle.std.proofs.lemmas.List.{drop-drop, drop-take, length-take-le, take-take}
use Rattle.texel_rules.specs.declared.uploads.Upload.{Upload}
use Rattle.texel_rules.specs.Layouts.{texel_bytes}
use Rattle.texel_rules.specs.Texels.{converted}
use Rattle.texel_rules.specs.UploadedTexels.{IsUpload, converted_row, pitch, row_bytes, source_row, texels_of, uploaded_row, view_bytes}
use Rattle.texel_rules.proofs.Conversion.{some_bytes}

-- the texels of a part of a view, by their places, and as pieces of the part
by_places : (f : List ℕ → List ℕ) (n p : ℕ) (view : List ℕ) (k s : ℕ)
    → flat_map (λ x. f (take n (drop (p + x * n) view))) (range_with_len s k) ≡ flat_map f (first_chunks n k (take (k * n) (drop (p + s * n) view)))
by_places f n p view zero s = refl
by_places f n p view (suc k) s =
    let more : suc k * n ≡ n + k * n = omega (arith, suc-mul k n) in
    let next : p + s * n + n ≡ p + (s + 1) * n = rw add-one (omega (arith, suc-mul s n)) in
    let part : List ℕ = drop (p + s * n) view in
    let first : take n (take (suc k * n) part) ≡ take n part = take-take n (suc k * n) part (omega (arith, more)) in
    let rest : drop n (take (suc k * n) part) ≡ take (k * n) (drop (p + (s + 1) * n) view) =
    ap (λ m. drop n (take m part)) more ∙ drop-take n (k * n) part ∙ ap (take (k * n)) (drop-drop n (p + s * n) view ∙ ap (λ m. drop m view) next) in
    ap (λ a. f (take n part) ++ a) (by_places f n p view k (s + 1))
    ∙ ap (λ a. f a ++ flat_map f (first_chunks n k (take (k * n) (drop (p + (s + 1) * n) view)))) (sym first)
    ∙ ap (λ a. f (take n (take (suc k * n) part)) ++ flat_map f (first_chunks n k a)) (sym rest)

-- a row of a view, converted
pub converted-uploaded : (upload : Upload) (view : List ℕ) (y m : ℕ) → m ≡ upload.width * texel_bytes upload.layout
    → source_row upload.height upload.flip y * pitch upload + m ≤ length view
    → converted_row upload.layout upload.premultiply (take m (drop (source_row upload.height upload.flip y * pitch upload) view)) ≡ uploaded_row upload view y
unfolding converted_row texels_of
converted-uploaded upload view y m size there =
    let n : ℕ = texel_bytes upload.layout in
    let p : ℕ = source_row upload.height upload.flip y * pitch upload in
    let f : List ℕ → List ℕ = converted upload.layout upload.premultiply in
    let fits : m ≤ length (drop p view) = omega (arith, length-drop p view, there) in
    let count : length (take m (drop p view)) / n ≡ upload.width =
    ap (λ k. k / n) (length-take-le m (drop p view) fits ∙ size) ∙ mul-div_cancel upload.width (some_bytes upload.layout) in
    let start : drop (p + 0 * n) view ≡ drop p view = ap (λ k. drop k view) (omega arith) in
    ap (λ k. flat_map f (first_chunks n k (take m (drop p view)))) count
    ∙ ap (λ k. flat_map f (first_chunks n upload.width (take k (drop p view)))) size
    ∙ ap (λ a. flat_map f (first_chunks n upload.width (take (upload.width * n) a))) (sym start)
    ∙ sym (by_places f n p view upload.width 0)

source-less : (height : ℕ) (flip : Bool) (y : ℕ) → y < height → source_row height flip y ≤ height - 1
source-less height true y row = omega (arith, row)
source-less height false y row = omega (arith, row)

there_by : (upload : Upload) (y k : ℕ) → IsUpload upload → y < upload.height
    → (thin : Bool) → (upload.width == 0) ≡ thin → (flat : Bool) → (upload.height == 0) ≡ flat
    → (if thin || flat then 0 else (upload.height - 1) * pitch upload + row_bytes upload) ≤ k
    → source_row upload.height upload.flip y * pitch upload + row_bytes upload ≤ k
there_by upload y k image row true e flat f all =
    let none : row_bytes upload ≡ 0 = ap (λ w. w * texel_bytes upload.layout) (eqb-true upload.width 0 e) ∙ zero-mul (texel_bytes upload.layout) in
    let less : 0 + (upload.alignment - 1) < upload.alignment = omega (arith, image.aligned) in
    let apart : pitch upload ≡ 0 =
    ap (λ r. (r + (upload.alignment - 1)) / upload.alignment * upload.alignment) none ∙ ap (λ q. q * upload.alignment) (div-eq_of_lt less) ∙ zero-mul upload.alignment in
    let place : source_row upload.height upload.flip y * pitch upload ≡ source_row upload.height upload.flip y * 0 =
    ap (λ p. source_row upload.height upload.flip y * p) apart in
    omega (arith, place, none)
there_by upload y k image row false e true f all = absurd (omega (arith, row, eqb-true upload.height 0 f))
there_by upload y k image row false e false f all =
    omega (arith, all, mul-le-mul_right (pitch upload) (source-less upload.height upload.flip y row))

-- each row lies in a view that has the bytes of the image
pub row-there : (upload : Upload) (y k : ℕ) → IsUpload upload → y < upload.height → view_bytes upload ≤ k
    → source_row upload.height upload.flip y * pitch upload + row_bytes upload ≤ k
row-there upload y k image row all = there_by upload y k image row (upload.width == 0) refl (upload.height == 0) refl all
