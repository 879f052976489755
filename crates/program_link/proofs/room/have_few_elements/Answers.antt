-- One more uniform is counted, or there are too many elements.
use Rattle.std.proofs.Common.{◌≤◌, arith, sym}
use Rattle.program_link.proofs.Rooms.{few-many, few-more, few-unused}
use Rattle.program_link.proofs.room.have_few_elements.Goals.{then-item+else-count-cells, else-item}
use Rattle.program_link.proofs.room.have_few_elements.Goals as goal

pub returns-then-count-cells : goal.returns-then-count-cells
returns-then-count-cells c =
    sym (few-many c.args.structures.now c.args.items.now c.loop-item.item-index c.item-item.result c.loop-item.count
    c.count-count.result c.args.cells _ c.loop-item-test.true c.item-item.is c.if-item.true c.count-count.ensures
    c.if-count-cells.true c.loop-item.invariant.counted)

pub loop-item-preserved : goal.loop-item-preserved
loop-item-preserved c =
    let within : c.if-item.count ≤ c.args.cells =
    elim c.if-item.branch [
      | then-item+else-count-cells w ↦ omega (arith, w.count-is, w.if-count-cells.false)
      | else-item w ↦ omega (arith, w.count-is, c.loop-item.invariant.within)
    ] in
    record {
      within = within;
      counted =
          elim c.if-item.branch [
            | then-item+else-count-cells w ↦
                few-more c.args.structures.now c.args.items.now c.loop-item.item-index c.item-item.result c.loop-item.count
                w.count-count.result c.if-item.count c.args.cells _ c.requires c.loop-item-test.true c.item-item.is w.if-item.true
                w.count-count.ensures w.count-is within c.loop-item.invariant.counted
            | else-item w ↦
                few-unused c.args.structures.now c.args.items.now c.loop-item.item-index c.item-item.result c.loop-item.count
                c.if-item.count _ c.loop-item-test.true c.item-item.is w.if-item.false w.count-is c.loop-item.invariant.counted
          ];
    }
