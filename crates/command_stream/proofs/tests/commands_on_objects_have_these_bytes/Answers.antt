-- The commands written are short.
use Rattle.std.proofs.Common.{[], ◌∷◌, lit≤}
use Rattle.command_stream.proofs.Heads.{short-words}
use Rattle.command_stream.proofs.tests.commands_on_objects_have_these_bytes.Goals as goal

pub is_written-requires : goal.is_written-requires
is_written-requires g c = short-words (3 ∷ []) [] (lit≤ tt)

pub is_written-requires-2 : goal.is_written-requires-2
is_written-requires-2 g c = short-words (3 ∷ []) [] (lit≤ tt)
