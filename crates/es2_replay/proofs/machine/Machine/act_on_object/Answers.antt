-- A name that isn't refused isn't made yet.
use Rattle.es2_replay.proofs.Names.{not-made}
use Rattle.es2_replay.proofs.machine.Machine.act_on_object.Goals as goal

pub make_buffer-requires : goal.make_buffer-requires
make_buffer-requires c = not-made c.args.self.now c.in-MakeBuffer.name (rw c.in-MakeBuffer.is at c.requires)
