-- The item of a name is at the place that the name has.
use Rattle.std.proofs.Common.{◌∙◌, ap, sym}
use Rattle.program_link.specs.Items.{named}
use Rattle.program_link.proofs.ByBytes.{find-placed, find-unplaced, got}
use Rattle.program_link.proofs.items.ByName.get.Goals as goal

pub returns-in-Some : goal.returns-in-Some
returns-in-Some c =
    got c.get-in-Some.result c.self.inside.items.now c.in-Some.place.now c.get-in-Some.ensures.lookup.0 c.get-in-Some.ensures.lookup.1
    ∙ sym (find-placed c.self.inside.places.entries c.self.inside.items.now c.args.name.now c.in-Some.place.now c.self.invariant
    (sym c.in-Some.ensures.value))
    ∙ ap (λ l. named l c.args.name.now) c.self.view_is

pub returns-in-None : goal.returns-in-None
returns-in-None c =
    sym (find-unplaced c.self.inside.places.entries c.self.inside.items.now c.args.name.now c.self.invariant
    (sym c.in-None.ensures.value))
    ∙ ap (λ l. named l c.args.name.now) c.self.view_is
