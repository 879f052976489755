-- flush and finish send nothing.
use Rattle.gl_context.specs.DrawRows.{draw_row}
use Rattle.gl_context.proofs.Sending.{sends_quiet}
use Rattle.gl_context.proofs.acts.DrawCallActs.act.Goals as goal

pub returns-clause-sends : goal.returns-clause-sends
returns-clause-sends g c w k sound =
    rw c.quiet.ensures (sends_quiet (draw_row w c.args.self.now) w _ _ c.draw.result (c.draw.ensures.acts w k))
