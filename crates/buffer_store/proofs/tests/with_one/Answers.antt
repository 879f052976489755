-- No buffer is there at first, and then the one that was just made.
use Rattle.std.proofs.Common.{refl}
use Rattle.std.specs.Ordering.{nat_cmp}
use Rattle.std.specs.FinMap.{get-empty}
use Rattle.buffer_store.proofs.Shelf.{is_there}
use Rattle.buffer_store.proofs.tests.with_one.Goals as goal

pub add-requires : goal.add-requires
add-requires g c = rw c.new-buffers.ensures (rw (get-empty nat_cmp) refl)

pub bind-requires : goal.bind-requires
bind-requires g c x e = rw c.in-Ok.ensures.ok (is_there _ _ _ _ e)
