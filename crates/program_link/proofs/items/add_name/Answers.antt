-- A name that had no value goes last.
use Rattle.std.proofs.Common.{◌∙◌, ap, not}
use Rattle.program_link.specs.Places.{place_of_name}
use Rattle.program_link.proofs.ByBytes.{is-none, name-placed}
use Rattle.program_link.proofs.items.add_name.Goals as goal

pub returns-in_ok-insert : goal.returns-in_ok-insert
returns-in_ok-insert g c =
    name-placed c.args.places.now.entries c.insert.new.self.entries c.in_ok-name.name c.args.name.now c.args.value
    c.in_ok-name.ensures.items
    (is-none c.get.result (place_of_name c.args.places.now.entries c.args.name.now) c.get.ensures.value
    (c.is_none.ensures ∙ ap not c.if-is_none.true))
    c.in_ok-insert.ensures.entries
