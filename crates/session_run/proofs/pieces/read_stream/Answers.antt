-- The stream's header, and what follows it.
use Rattle.std.proofs.Common.{rules, ◌≡◌, ◌<◌, ◌^◌, [], length, arith}
use Rattle.command_stream.specs.declared.operation.TheConstants.{START_BYTES}
use Rattle.session_run.proofs.ReplayReading.{has_magic, other_magic, read_prefix, reads_behind, start_stopped, magic_read, not-read}
use Rattle.session_run.proofs.pieces.read_stream.Goals as goal

pub returns-then-u32_at-ne-STREAM_MAGIC-clause-reads :
    goal.returns-then-u32_at-ne-STREAM_MAGIC-clause-reads
returns-then-u32_at-ne-STREAM_MAGIC-clause-reads g c =
    let size : length c.read_full.new.into ≡ START_BYTES = search rules in
    let fits : c.u32_at.result < 2 ^ 32 = search rules in
    magic_read c.read_full.new.into _ _ (read_prefix c.in-Ok.n c.read_full.new.into _ _ size c.if-n-lt-START_BYTES.false c.in-Ok.ensures.bytes.1)
    (other_magic c.u32_at.result c.read_full.new.into c.u32_at.ensures fits c.if-u32_at-ne-STREAM_MAGIC.true (omega (arith, size)))

pub returns-in-Ok-take_piece-clause-reads : goal.returns-in-Ok-take_piece-clause-reads
returns-in-Ok-take_piece-clause-reads g c =
    let first = c.read_full.new.into in
    let size : length c.read_full.new.into ≡ START_BYTES = search rules in
    reads_behind first _ _ _ _ _ _ c.read_pieces.result (read_prefix c.in-Ok.n first _ _ size c.if-n-lt-START_BYTES.false c.in-Ok.ensures.bytes.1)
    (c.read_pieces.ensures.reads first (c.in-Ok-take_piece.ensures.takes [] c.requires)
    (has_magic c.u32_at.result first c.u32_at.ensures c.if-u32_at-ne-STREAM_MAGIC.false (omega (arith, size))))

pub returns-in-Err-clause-reads : goal.returns-in-Err-clause-reads
returns-in-Err-clause-reads g c =
    let first = c.read_full.new.into in
    let size : length c.read_full.new.into ≡ START_BYTES = search rules in
    start_stopped first _ _ c.in-Err.end (read_prefix c.in-Ok.n first _ _ size c.if-n-lt-START_BYTES.false c.in-Ok.ensures.bytes.1)
    (has_magic c.u32_at.result first c.u32_at.ensures c.if-u32_at-ne-STREAM_MAGIC.false (omega (arith, size))).1 (c.in-Err.ensures.takes [] c.requires)

pub returns-in-Err-clause-cause : goal.returns-in-Err-clause-cause
returns-in-Err-clause-cause g c = record {
  later = c.read_full.ensures.cause.later;
  read = λ e. absurd (not-read _ c.in-Err.end (c.in-Err.ensures.takes [] c.requires) e);
}
