-- The part of the view is whole texels, and those of the row.
use Rattle.std.proofs.Common.{◌≡◌, ◌≤◌, ◌+◌, ◌-◌, ◌*◌, ◌∙◌, length, take, drop, ap, arith}
use Rattle.texel_rules.specs.UploadedTexels.{converted_row, pitch, source_row}
use Rattle.texel_rules.proofs.Uploading.{converted-uploaded, row-there}
use Rattle.texel_rules.proofs.uploads.upload_row.Goals as goal

pub slice_bounds-from-end : goal.slice_bounds-from-end
slice_bounds-from-end c =
    let upload = c.args.upload.now in
    let place = c.row_place-place.ensures ∙ ap (λ p. source_row upload.height upload.flip c.args.y * p) c.pitch.ensures in
    omega (arith, place, c.requires.one, row-there upload c.args.y (length c.args.view.now) c.requires.image c.requires.row c.requires.all)

pub returns : goal.returns
returns c =
    let upload = c.args.upload.now in
    let view = c.args.view.now in
    let size = length c.args.into.now in
    let at = c.row_place-place.result in
    let place = c.row_place-place.ensures ∙ ap (λ p. source_row upload.height upload.flip c.args.y * p) c.pitch.ensures in
    let there : source_row upload.height upload.flip c.args.y * pitch upload + size ≤ length view =
    omega (arith, c.requires.one, row-there upload c.args.y (length view) c.requires.image c.requires.row c.requires.all) in
    let wide : at + size - at ≡ size = omega arith in
    c.plain_row.ensures
    ∙ ap (λ n. converted_row upload.layout upload.premultiply (take n (drop at view))) wide
    ∙ ap (λ n. converted_row upload.layout upload.premultiply (take size (drop n view))) place
    ∙ converted-uploaded upload view c.args.y size c.requires.one there
