-- One more structure has the number of its shape.
use Rattle.std.proofs.Common.{◌∙◌, ap, refl}
use Rattle.program_link.specs.Shapes.{shape}
use Rattle.program_link.proofs.Numbers.{keeps-same, keeps-then, numbered-end, numbered-start, numbered-step}
use Rattle.program_link.proofs.shapes.numbers.Goals as goal

pub loop-structure-init : goal.loop-structure-init
loop-structure-init c = record {
  numbering = c.requires;
  kept = keeps-same c.args.shapes.now.entries c.args.shapes.now.entries refl;
  numbered =
      numbered-start c.args.shapes.now.entries c.args.structs.now c.in_ok-numbers.numbers.items c.in_ok-numbers.ensures.items;
}

pub loop-structure-preserved : goal.loop-structure-preserved
loop-structure-preserved c = record {
  numbering = c.in_ok-number.ensures.numbering;
  kept =
      keeps-then c.args.shapes.now.entries c.loop-structure.shapes.entries c.number_in.new.shapes.entries c.loop-structure.invariant.kept
      c.in_ok-number.ensures.kept;
  numbered =
      numbered-step c.loop-structure.shapes.entries c.number_in.new.shapes.entries c.args.structs.now c.loop-structure.structure-index
      c.structure-item.result c.loop-structure.numbers.items c.push.new.self.items c.in_ok-words.words.items c.in_ok-number.number
      c.loop-structure-test.true c.structure-item.is
      (c.in_ok-words.ensures ∙ ap (λ l. shape l c.structure-item.result) c.deref.ensures.value)
      c.in_ok-number.ensures.number c.in_ok-number.ensures.kept c.in_ok-push.ensures.items c.loop-structure.invariant.numbered;
}

pub returns-clause-numbered : goal.returns-clause-numbered
returns-clause-numbered c =
    numbered-end c.loop-structure.shapes.entries c.args.structs.now c.loop-structure.structure-index c.loop-structure.numbers.items
    c.loop-structure-test.false c.loop-structure.invariant.numbered
