-- The two words of a session's header.
use Rattle.call_records.proofs.Refusals.{start_taken, start_magic, start_version}
use Rattle.call_records.proofs.reading.read_start.Goals as goal

pub returns-then-magic-ne-SESSION_MAGIC-clause-answers :
    goal.returns-then-magic-ne-SESSION_MAGIC-clause-answers
returns-then-magic-ne-SESSION_MAGIC-clause-answers g c =
    let range = c.in-Ok.ensures.range in
    start_magic _ _ _ _ range.0 range.1 c.in-Ok.ensures.taken c.if-magic-ne-SESSION_MAGIC.true

pub returns-then-version-ne-SESSION_VERSION-clause-answers :
    goal.returns-then-version-ne-SESSION_VERSION-clause-answers
returns-then-version-ne-SESSION_VERSION-clause-answers g c =
    let range = c.in-Ok.ensures.range in
    start_version _ _ _ _ range.0 range.1 c.in-Ok.ensures.taken c.if-magic-ne-SESSION_MAGIC.false c.if-version-ne-SESSION_VERSION.true

pub returns-clause-taken : goal.returns-clause-taken
returns-clause-taken g c =
    start_taken _ _ _ _ c.in-Ok.ensures.taken c.if-magic-ne-SESSION_MAGIC.false c.if-version-ne-SESSION_VERSION.false
