use Rattle.std.proofs.Common.{sym, ap, ◌∙◌}
use Rattle.glsl_tree.specs.Token.{plain_tokens}
use Rattle.glsl_preproc.specs.Expansion.{stray_hash}
use Rattle.glsl_preproc.proofs.Items.{some_items, none_left}
use Rattle.glsl_preproc.proofs.Lines.{stray_found, stray_next, stray_none}
use Rattle.glsl_preproc.proofs.hashes.stray_hash.Goals as goal

pub returns-then-is_hash : goal.returns-then-is_hash
returns-then-is_hash c = sym (stray_found c.loop-rest.rest.now c.index-rest-0.result (some_items _ _ c.is_empty.ensures c.loop-rest-test.true) c.index-rest-0.is (sym c.is_hash.ensures ∙ c.if-is_hash.true)) ∙ c.loop-rest.invariant

pub loop-rest-preserved : goal.loop-rest-preserved
loop-rest-preserved c = ap (λ l. stray_hash (plain_tokens l)) c.split_at.ensures.back
    ∙ sym (stray_next c.loop-rest.rest.now c.index-rest-0.result (some_items _ _ c.is_empty.ensures c.loop-rest-test.true) c.index-rest-0.is (sym c.is_hash.ensures ∙ c.if-is_hash.false)) ∙ c.loop-rest.invariant

pub returns : goal.returns
returns c = sym (stray_none c.loop-rest.rest.now (none_left _ _ c.is_empty.ensures c.loop-rest-test.false)) ∙ c.loop-rest.invariant
