-- A replay from the driver's start.
use Rattle.std.proofs.Common.{ℕ, false, [], sym, subst}
use Rattle.wire_io.specs.Sources.{WhereTold}
use Rattle.session_run.specs.Playing.{SoFar}
use Rattle.session_run.specs.ReplayOutcomes.{CountedStream}
use Rattle.session_run.proofs.Playing.{so_far-none}
use Rattle.session_run.proofs.ReplayReading.{told_whole, told_stopped}
use Rattle.session_run.proofs.replay.replay_all.Goals as goal

pub read_stream-requires : goal.read_stream-requires
read_stream-requires g c =
    let machine = c.new-machine.result in
    let begun = so_far-none machine c.new-machine.ensures.state c.new-machine.ensures.count in
    subst (λ d. SoFar [] d machine c.none-tally.result) (sym c.in-Ok.ensures)
    (subst (λ t. SoFar [] (record { started = false; begun = []; taken = 0 }) machine t) (sym c.none-tally.ensures) begun)

pub returns-in-Ok-read_stream-clause-played : goal.returns-in-Ok-read_stream-clause-played
returns-in-Ok-read_stream-clause-played g c =
    subst (λ (n : ℕ). WhereTold (CountedStream n c.read_stream.new.tally) (g.S.Source.left c.args.input.now) (g.S.Source.left c.read_stream.new.input)) (sym c.count.ensures)
    (told_whole (g.S.Source.left c.args.input.now) (g.S.Source.left c.read_stream.new.input) c.read_stream.new.decoder c.read_stream.new.machine c.read_stream.new.tally c.in-Ok-read_stream.ensures.reads)

pub returns-clause-played : goal.returns-clause-played
returns-clause-played g c = told_stopped _ _ c.in-Err.end c.in-Err.ensures.reads
