-- Each piece that is read and taken joins what was taken before.
use Rattle.std.proofs.Common.{rules, ◌≡◌, ◌<◌, ◌++◌, length, take, true, false, arith, sym, ◌∙◌, length-append}
use Rattle.std.proofs.lemmas.List.{length-take-le}
use Rattle.session_run.proofs.Looping.{prepend-nothing}
use Rattle.session_run.proofs.Playing.{bounds}
use Rattle.session_run.proofs.ReplayReading.{read_none, read_more, read_stopped, read_failed, read_cut, not-read}
use Rattle.session_run.proofs.pieces.read_pieces.Goals as goal

pub loop-n-init : goal.loop-n-init
loop-n-init g c = record {
  so_far = λ all s. read_none all _ _ _ _ s (prepend-nothing _);
  counted = sym c.requires.taken;
  later = omega arith;
}

pub returns-in_default-clause-reads : goal.returns-in_default-clause-reads
returns-in_default-clause-reads g c = λ all s magic. read_failed all _ _ _ _ _ _ (c.loop-n.invariant.so_far all s) c.in_default.ensures.bytes

pub returns-else-idle-clause-reads : goal.returns-else-idle-clause-reads
returns-else-idle-clause-reads g c = λ all s magic.
    (let some : 0 < length c.read.new.into = search rules in
    read_cut all c.read.new.into c.in-Ok.n c.loop-n.taken _ _ _ _ _ _ (c.loop-n.invariant.so_far all s) c.if-n-eq0.true c.in-Ok.ensures.bytes.1
    (c.in-Ok.ensures.bytes.2 c.if-n-eq0.true some) magic c.loop-n.invariant.counted
    (λ started begun. absurd (let no : true ≡ false = sym (c.idle.ensures.1 (started, begun)) ∙ c.if-idle.false in cc)))

pub take_piece-requires-clause-playing : goal.take_piece-requires-clause-playing
take_piece-requires-clause-playing g c =
    let r = c.loop-n.invariant.so_far c.requires.playing.all c.requires.playing.so_far in
    record { all = c.requires.playing.all ++ r.got; so_far = r.so_far }

pub overflow_add-taken : goal.overflow_add-taken
overflow_add-taken g c =
    let all = c.requires.playing.all in
    let r = c.loop-n.invariant.so_far all c.requires.playing.so_far in
    let now = c.in-Ok-take_piece.ensures.takes (all ++ r.got) r.so_far in
    let b = bounds _ _ _ _ now in
    omega (
      arith,
      b.taken,
      c.loop-n.invariant.counted,
      r.so_far.decoded.counted,
      now.decoded.counted,
      length-append (all ++ r.got) (take c.in-Ok.n c.read.new.into),
      length-take-le c.in-Ok.n c.read.new.into c.in-Ok.ensures.bytes.0,
    )

pub loop-n-smaller : goal.loop-n-smaller
loop-n-smaller g c =
    let r = c.loop-n.invariant.so_far c.requires.playing.all c.requires.playing.so_far in
    let b = bounds _ _ _ _ r.so_far in
    omega (arith, b.taken, c.loop-n.invariant.counted, c.if-n-eq0.false)

pub loop-n-preserved : goal.loop-n-preserved
loop-n-preserved g c =
    let all = c.requires.playing.all in
    let r = c.loop-n.invariant.so_far all c.requires.playing.so_far in
    let now = c.in-Ok-take_piece.ensures.takes (all ++ r.got) r.so_far in
    record {
      so_far = λ any s.
          (let own = c.loop-n.invariant.so_far any s in
          read_more any (take c.in-Ok.n c.read.new.into) _ _ _ _ c.take_piece.new.decoder _ c.take_piece.new.machine _ c.take_piece.new.tally own c.in-Ok.ensures.bytes.1
          (c.in-Ok-take_piece.ensures.takes (any ++ own.got) own.so_far));
      counted = omega (
        arith,
        c.loop-n.invariant.counted,
        r.so_far.decoded.counted,
        now.decoded.counted,
        length-append (all ++ r.got) (take c.in-Ok.n c.read.new.into),
        length-take-le c.in-Ok.n c.read.new.into c.in-Ok.ensures.bytes.0,
      );
      later = omega (arith, c.loop-n.invariant.later, c.read.ensures.cause.later);
    }

pub returns-in-Err-clause-reads : goal.returns-in-Err-clause-reads
returns-in-Err-clause-reads g c = λ all s magic.
    (let r = c.loop-n.invariant.so_far all s in
    read_stopped all (take c.in-Ok.n c.read.new.into) _ _ _ _ _ _ c.in-Err.end r c.in-Ok.ensures.bytes.1 magic (c.in-Err.ensures.takes (all ++ r.got) r.so_far))

pub returns-in-Err-clause-cause : goal.returns-in-Err-clause-cause
returns-in-Err-clause-cause g c =
    let all = c.requires.playing.all in
    let r = c.loop-n.invariant.so_far all c.requires.playing.so_far in
    record {
      later = omega (arith, c.loop-n.invariant.later, c.read.ensures.cause.later);
      read = λ e. absurd (not-read _ c.in-Err.end (c.in-Err.ensures.takes (all ++ r.got) r.so_far) e);
    }
