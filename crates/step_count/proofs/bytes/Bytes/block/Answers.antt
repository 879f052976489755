-- A last block is all that is left.
use Rattle.std.proofs.Common.{◌≡◌, take}
use Rattle.std.proofs.lemmas.List.{take_all}
use Rattle.step_count.proofs.bytes.Bytes.block.Goals as goal

pub returns-then-rest-le-BLOCK_BYTES-clause-value : goal.returns-then-rest-le-BLOCK_BYTES-clause-value
returns-then-rest-le-BLOCK_BYTES-clause-value g c =
    let rest = c.split_at.result.1.now in
    let whole : take 64 rest ≡ rest = take_all 64 rest c.if-rest-le-BLOCK_BYTES.true in
    cc (whole, c.split_at.ensures.back)
