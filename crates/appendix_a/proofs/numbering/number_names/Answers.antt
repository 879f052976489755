-- A turn of the loop.
use Rattle.std.proofs.Common.{◌+◌, ◌∙◌, arith}
use Rattle.std.specs.Prelude.{None, [], ◌∷◌}
use Rattle.glsl_tree.specs.Statements.{item_tokens}
use Rattle.appendix_a.specs.Names.{names_from}
use Rattle.appendix_a.specs.Numbered.{names_in}
use Rattle.appendix_a.proofs.Lookups.{function-at}
use Rattle.appendix_a.proofs.NameTurns.{names-turn, samplers-turn}
use Rattle.appendix_a.proofs.PartTurns.{tokens_first, tokens_turn}
use Rattle.appendix_a.proofs.numbering.number_names.Goals as goal

pub item_names-requires-clause-room : goal.item_names-requires-clause-room
item_names-requires-clause-room c =
    tokens_first item_tokens c.args.table.now.items.now c.loop-n.n c.index-items-n.result c.loop-n.table.next 131073 c.loop-n-test.true c.index-items-n.is
    c.loop-n.invariant.next

pub item_names-requires-clause-function : goal.item_names-requires-clause-function
item_names-requires-clause-function c =
    function-at c.loop-n.table.items.now c.args.table.now.items.now c.loop-n.n c.index-items-n.result c.loop-n.invariant.items c.loop-n-test.true
    c.index-items-n.is

pub loop-n-preserved : goal.loop-n-preserved
loop-n-preserved c =
    let items = c.args.table.now.items.now in
    let d = c.index-items-n.result in
    let within = c.loop-n-test.true in
    let is = c.index-items-n.is in
    let known = c.sampler_at-sampler.ensures in
    let before = c.loop-n.invariant in
    let added = c.item_names.ensures in
    let room = tokens_first item_tokens items c.loop-n.n d c.loop-n.n 131072 within is before.count in
    record {
      names = names-turn items c.loop-n.n d c.sampler_at-sampler.result (names_in c.loop-n.table) (names_in c.item_names.new.table)
          (None ∷ names_from [] items) within is known added.names before.names;
      samplers = samplers-turn items c.loop-n.n d c.loop-n.samplers c.sampler_at-sampler.result within (omega (arith, room, added.some)) is known before.samplers;
      next = tokens_turn item_tokens items c.loop-n.n d c.loop-n.table.next c.item_names.new.table.next 131073 within is added.next before.next;
      count = tokens_turn item_tokens items c.loop-n.n d c.loop-n.n (c.loop-n.n + 1) 131072 within is (omega (arith, added.some)) before.count;
      items = added.items ∙ before.items;
    }
