-- Neither binding is of the buffer that is gone.
use Rattle.buffer_store.proofs.Firsts.{AreBoundFirst-unbind}
use Rattle.buffer_store.proofs.buffers.Buffers.gone.Goals as goal

pub invariant_of-self : goal.invariant_of-self
invariant_of-self c = rw (c.remove.ensures, c.unbind.ensures) (AreBoundFirst-unbind _ _ _ c.self.invariant)
