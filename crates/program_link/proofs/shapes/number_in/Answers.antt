-- A new shape has the next number.
use Rattle.std.proofs.Common.{◌∙◌, ◌+◌, ap, sym}
use Rattle.program_link.specs.Places.{place_of_name}
use Rattle.program_link.proofs.ByBytes.{placed-last}
use Rattle.program_link.proofs.Numbers.{keeps-next, numbering-next}
use Rattle.program_link.proofs.shapes.number_in.Goals as goal

pub returns-clause-numbering : goal.returns-clause-numbering
returns-clause-numbering c =
    let none = ap (place_of_name c.args.shapes.now.entries) (sym c.as_slice.ensures.value) ∙ sym c.in_default.ensures.value in
    numbering-next c.args.shapes.now.entries c.insert.new.self.entries c.args.words (c.len.result + 1) c.requires none
    (ap (λ n. n + 1) c.len.ensures.len)
    (c.in_ok-insert.ensures.entries ∙ placed-last c.args.shapes.now.entries c.args.words (c.len.result + 1) none)

pub returns-clause-kept : goal.returns-clause-kept
returns-clause-kept c =
    let none = ap (place_of_name c.args.shapes.now.entries) (sym c.as_slice.ensures.value) ∙ sym c.in_default.ensures.value in
    keeps-next c.args.shapes.now.entries c.insert.new.self.entries c.args.words (c.len.result + 1)
    (c.in_ok-insert.ensures.entries ∙ placed-last c.args.shapes.now.entries c.args.words (c.len.result + 1) none)
