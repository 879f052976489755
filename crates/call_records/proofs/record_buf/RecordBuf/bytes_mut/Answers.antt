-- The buffer's bytes are lent.
use Rattle.std.proofs.Common.{◌≡◌, List, ℕ, ◌++◌, length, take, drop, refl, sym, ap, ◌∙◌}
use Rattle.call_records.proofs.record_buf.RecordBuf.bytes_mut.Goals as goal

pub returns : goal.returns
returns c =
    let lent = c.as_mut_slice.ensures.value in
    let same : c.self.inside.bytes.items ≡ c.args.self.now = c.self.view_is in
    let count : c.self.inside.bytes.len ≡ length c.args.self.now = sym c.as_mut_slice.ensures.len ∙ ap length (lent ∙ same) in (
      (
        refl,
        λ w. ap (λ n. take n (w ++ drop (length w) c.self.inside.bytes.items)) count ∙ ap (λ (old : List ℕ). take (length c.args.self.now) (w ++ drop (length w) old)) same,
      ),
      record { writes_back = tt; value = lent ∙ same; len = ap length (lent ∙ same) },
    )
