-- What the decoder took is added to what was taken, and what the machine applied to what was replayed.
use Rattle.std.proofs.Common.{◌≡◌, true, false, arith, sym, ◌∙◌}
use Rattle.session_run.proofs.Playing.{bounds, next-room, fed, played, late, refused, stops-one}
use Rattle.session_run.proofs.applying.step.Goals as goal
use Rattle.session_run.proofs.applying.step.Goals.{else-idle-via-then-idle+else-taken-gt-INPUT_MAX, else-idle-via-else-idle}

pub returns-then-taken-gt-INPUT_MAX-clause-steps : goal.returns-then-taken-gt-INPUT_MAX-clause-steps
returns-then-taken-gt-INPUT_MAX-clause-steps c = λ all s.
    (let idle = c.idle.ensures.0 c.if-idle.true in
    late all c.args.piece.now _ _ _ c.args.taken s idle.0 idle.1 c.requires.taken c.requires.some c.if-taken-gt-INPUT_MAX.true)

pub feed-requires : goal.feed-requires
feed-requires c =
    let b = bounds c.requires.playing.all _ _ _ c.requires.playing.so_far in
    omega (arith, b.taken)

pub play-requires-clause-count : goal.play-requires-clause-count
play-requires-clause-count c = (bounds c.requires.playing.all _ _ _ c.requires.playing.so_far).count

pub play-requires-clause-draws : goal.play-requires-clause-draws
play-requires-clause-draws c =
    let b = bounds c.requires.playing.all _ _ _ c.requires.playing.so_far in
    rw b.tallied (omega arith)

pub play-requires-clause-clears : goal.play-requires-clause-clears
play-requires-clause-clears c =
    let b = bounds c.requires.playing.all _ _ _ c.requires.playing.so_far in
    rw b.tallied (omega arith)

pub play-requires-clause-mipmaps : goal.play-requires-clause-mipmaps
play-requires-clause-mipmaps c =
    let b = bounds c.requires.playing.all _ _ _ c.requires.playing.so_far in
    rw b.tallied (omega arith)

pub returns-in-Ok-default-None-clause-steps : goal.returns-in-Ok-default-None-clause-steps
returns-in-Ok-default-None-clause-steps c = λ all s.
    (let room = next-room all _ _ _ s (λ started begun. elim c.else-idle.branch [
      | else-idle-via-then-idle+else-taken-gt-INPUT_MAX w ↦ omega (arith, w.if-taken-gt-INPUT_MAX.false, c.requires.taken)
      | else-idle-via-else-idle w ↦ absurd (let no : true ≡ false = sym (c.idle.ensures.1 (started, begun)) ∙ w.if-idle.false in cc)
    ]) in
    let taken = rw (c.in-Ok-default-None.is, c.in-Ok-default-None.field-0-1-is) at c.feed.follows.holds-at-none in
    (c.in-Ok-default-None.ensures.progress c.requires.some, c.in-Ok-default-None.ensures.within, fed all c.args.piece.now _ _ _ _ c.in-Ok-default-None.n s taken room))

pub returns-in-Ok-clause-steps : goal.returns-in-Ok-clause-steps
returns-in-Ok-clause-steps c = λ all s.
    (let room = next-room all _ _ _ s (λ started begun. elim c.else-idle.branch [
      | else-idle-via-then-idle+else-taken-gt-INPUT_MAX w ↦ omega (arith, w.if-taken-gt-INPUT_MAX.false, c.requires.taken)
      | else-idle-via-else-idle w ↦ absurd (let no : true ≡ false = sym (c.idle.ensures.1 (started, begun)) ∙ w.if-idle.false in cc)
    ]) in
    let taken = rw (c.in-Ok-default-Some.is, c.in-Ok-default-Some.field-0-1-is) at c.feed.follows.holds-at-none in (
      c.in-Ok-default-Some.ensures.progress c.requires.some,
      c.in-Ok-default-Some.ensures.within,
      played all c.args.piece.now _ _ _ _ _ _ c.in-Ok-default-Some.n c.in-Ok-default-Some.command s taken c.in-Ok.ensures room,
    ))

pub returns-in-Err-clause-steps : goal.returns-in-Err-clause-steps
returns-in-Err-clause-steps c = λ all s.
    (let room = next-room all _ _ _ s (λ started begun. elim c.else-idle.branch [
      | else-idle-via-then-idle+else-taken-gt-INPUT_MAX w ↦ omega (arith, w.if-taken-gt-INPUT_MAX.false, c.requires.taken)
      | else-idle-via-else-idle w ↦ absurd (let no : true ≡ false = sym (c.idle.ensures.1 (started, begun)) ∙ w.if-idle.false in cc)
    ]) in
    let taken = rw (c.in-Ok-default-Some.is, c.in-Ok-default-Some.field-0-1-is) at c.feed.follows.holds-at-none in
    stops-one all c.args.piece.now _ _ _ c.play.new.machine _ c.play.new.tally c.in-Ok-default-Some.n c.in-Ok-default-Some.command c.in-Err.end s taken c.in-Err.ensures room)

pub returns-in-Err-Command-clause-steps : goal.returns-in-Err-Command-clause-steps
returns-in-Err-Command-clause-steps c = λ all s.
    (let room = next-room all _ _ _ s (λ started begun. elim c.else-idle.branch [
      | else-idle-via-then-idle+else-taken-gt-INPUT_MAX w ↦ omega (arith, w.if-taken-gt-INPUT_MAX.false, c.requires.taken)
      | else-idle-via-else-idle w ↦ absurd (let no : true ≡ false = sym (c.idle.ensures.1 (started, begun)) ∙ w.if-idle.false in cc)
    ]) in
    let bad = rw (c.in-Err-Command.is, c.in-Err-Command.field-0-is) at c.feed.follows.holds-at-none in
    refused all c.args.piece.now _ _ _ c.in-Err-Command.at s bad.1 bad.2 room)
