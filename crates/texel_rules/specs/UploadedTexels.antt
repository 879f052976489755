-- The texels of an image that a page hands over as bytes (OpenGL ES 2.0 sections 3.6.1 and 3.6.2, WebGL 1.0 section 5.14.8).
use Rattle.std.specs.Prelude.{ℕ, ◌+◌, ◌-◌, ◌*◌, ◌/◌, ◌%◌, ◌≡◌, ◌<◌, ◌≤◌, ◌==◌, ◌||◌, Bool, if◌then◌else◌, List, length, take, drop}
use Rattle.std.specs.List.{flat_map, range_with_len}
use Rattle.std.specs.Simd.{first_chunks}
use Rattle.gl_numbers.specs.Limits.{image_side_max}
use Rattle.texel_rules.specs.declared.layouts.Layout.{Layout}
use Rattle.texel_rules.specs.declared.uploads.Upload.{Upload}
use Rattle.texel_rules.specs.Layouts.{IsAllowed, texel_bytes}
use Rattle.texel_rules.specs.Texels.{converted}

-- these bytes are whole texels
abbrev pub IsWhole : Layout → List ℕ → Type 0
IsWhole layout row = length row % texel_bytes layout ≡ 0

-- the texels of a row, each as its bytes
unfoldable pub texels_of : Layout → List ℕ → List (List ℕ)
texels_of layout row = first_chunks (texel_bytes layout) (length row / texel_bytes layout) row

-- a row with each of its texels converted
unfoldable pub converted_row : Layout → Bool → List ℕ → List ℕ
converted_row layout premultiply row = flat_map (converted layout premultiply) (texels_of layout row)

-- the row of the bytes that is row y of the image: the same, or counted from the last with UNPACK_FLIP_Y_WEBGL
abbrev pub source_row : ℕ → Bool → ℕ → ℕ
source_row height flip y = if flip then height - 1 - y else y

-- an image within the limits: a layout that is allowed, the sides of a texture, and an alignment of at most 8 bytes
pub record IsUpload (upload : Upload) : Type 0 where
  pub allowed : IsAllowed upload.layout
  pub wide : upload.width ≤ image_side_max
  pub high : upload.height ≤ image_side_max
  pub aligned : 0 < upload.alignment
  pub near : upload.alignment ≤ 8

-- how many bytes the texels of a row have
abbrev pub row_bytes : Upload → ℕ
row_bytes upload = upload.width * texel_bytes upload.layout

-- from one row to the next, in bytes: the least multiple of UNPACK_ALIGNMENT that is at least a row's (OpenGL ES 2.0 section 3.6.1)
abbrev pub pitch : Upload → ℕ
pitch upload = (row_bytes upload + (upload.alignment - 1)) / upload.alignment * upload.alignment

-- how many bytes an image without its last row's padding has; none where a side is 0
abbrev pub view_bytes : Upload → ℕ
view_bytes upload = if (upload.width == 0) || (upload.height == 0) then 0 else (upload.height - 1) * pitch upload + row_bytes upload

-- texel x of row y of an image: taken from its row of the bytes and converted
abbrev pub uploaded_texel : Upload → List ℕ → ℕ → ℕ → List ℕ
uploaded_texel upload view y x =
    converted upload.layout upload.premultiply
    (take (texel_bytes upload.layout) (drop (source_row upload.height upload.flip y * pitch upload + x * texel_bytes upload.layout) view))

-- row y of an image: its texels from the left
abbrev pub uploaded_row : Upload → List ℕ → ℕ → List ℕ
uploaded_row upload view y = flat_map (uploaded_texel upload view y) (range_with_len 0 upload.width)

-- the bytes are the uploaded texels of row y of an image
abbrev pub UploadedTexels : Upload → List ℕ → ℕ → List ℕ → Type 0
UploadedTexels upload view y bytes = bytes ≡ uploaded_row upload view y
