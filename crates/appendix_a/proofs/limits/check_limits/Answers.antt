-- The walk in the place that the table tells of.
use Rattle.std.proofs.Common.{◌≡◌, ℕ, List, [], ◌∷◌, refl, ap, ◌∙◌, map}
use Rattle.std.specs.Prelude.{None}
use Rattle.glsl_tree.specs.declared.statements.Item.{Item}
use Rattle.appendix_a.specs.Ahead.{ahead_of}
use Rattle.appendix_a.specs.Loops.{indices}
use Rattle.appendix_a.specs.Names.{names_from}
use Rattle.appendix_a.specs.Site.{Site}
use Rattle.appendix_a.specs.Table.{named_in, of_entry}
use Rattle.appendix_a.proofs.Lookups.{limits-is, named-is}
use Rattle.appendix_a.proofs.limits.check_limits.Goals as goal

pub returns : goal.returns
returns c =
    let items = c.as_slice-items.result.now in
    let table = c.number_names.new.table in
    let held = c.names-names.result in
    let site : Site = record { named = named_in held; stage = c.args.stage; loops = indices c.no_loops-loops.result; header = None } in
    let told : map (of_entry held.items.now) held.entries.now ≡ None ∷ names_from [] items =
    ap (λ (all : List Item). map (of_entry all) held.entries.now) c.names-names.ensures.items
    ∙ ap (λ (entries : List ℕ). map (of_entry table.items.now) entries) c.names-names.ensures.entries
    ∙ c.number_names.ensures.names in
    limits-is c.args.unit.now c.args.facts.now c.args.stage items site (ahead_of c.ahead_in-ahead.result) c.each_item.new.ahead c.each_item.result
    c.as_slice-items.ensures
    (named-is c.args.unit.now held.items.now items held.entries.now (c.names-names.ensures.items ∙ c.number_names.ensures.items) c.as_slice-items.ensures told)
    refl c.no_loops-loops.ensures refl c.ahead_in-ahead.ensures c.each_item.ensures
