-- A buffer of this target stays as it is.
use Rattle.std.proofs.Common.{rules, ◌≡◌, Some}
use Rattle.buffer_store.proofs.Firsts.{claimed_same}
use Rattle.buffer_store.proofs.by_handle.ByHandle.claim.Goals as goal

pub returns-in-Some-clause-ok : goal.returns-in-Some-clause-ok
returns-in-Some-clause-ok c =
    let same : c.in-Some.first ≡ c.args.target = search rules in
    let is : c.at.result.now.first_target ≡ Some c.args.target = cc in
    claimed_same _ _ _ _ c.at.ensures is
