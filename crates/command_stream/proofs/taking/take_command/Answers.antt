use Rattle.std.proofs.Common.{◌≡◌, ◌+◌, ◌-◌, ◌<◌, ◌≤◌, ◌++◌, List, ℕ, length, take, refl, ap, sym, ◌∙◌, arith}
use Rattle.std.proofs.lemmas.List.{length-take-le}
use Rattle.command_stream.specs.Operations.{body_max}
use Rattle.command_stream.specs.Commands.{stream_start}
use Rattle.command_stream.proofs.Pieces.{bad-command, part-within, whole}
use Rattle.command_stream.proofs.Table.{allows-within}
use Rattle.command_stream.proofs.taking.take_command.Goals as goal

pub returns-in_default-judge : goal.returns-in_default-judge
returns-in_default-judge c = (refl, bad-command _ _ _ c.in-Some.ensures.0 c.in_default-judge.ensures)

pub overflow_sub-more : goal.overflow_sub-more
overflow_sub-more c =
    let held : length (take c.args.held c.args.bytes.now) ≡ c.args.held = length-take-le c.args.held c.args.bytes.now c.requires.within in
    omega (arith, held, part-within _ _ _ c.in-Some-judge.operation c.in-Some-judge.len c.in-Some.ensures.0 c.in-Some-judge.ensures c.requires.begun)

pub returns : goal.returns
returns c =
    let begun : List ℕ = take c.args.held c.args.bytes.now in
    let len : ℕ = c.in-Some-judge.len in
    let more : ℕ = 8 + len - c.args.held in
    let held : length begun ≡ c.args.held = length-take-le c.args.held c.args.bytes.now c.requires.within in
    let within : c.args.held < 8 + len = omega (arith, held, part-within begun c.args.piece.now _ c.in-Some-judge.operation len c.in-Some.ensures.0 c.in-Some-judge.ensures c.requires.begun) in
    let short : len ≤ body_max = allows-within c.in-Some-judge.operation len c.in-Some-judge.ensures.1 in
    let brought : length (take more c.args.piece.now) ≡ more = length-take-le more c.args.piece.now c.if-piece-more.false in
    let sum : 8 + len ≡ c.args.held + length (take more c.args.piece.now) = omega (arith, brought, within) in
    let are : take (8 + len) c.hold-2.new.bytes ≡ begun ++ take more c.args.piece.now = ap (λ n. take n c.hold-2.new.bytes) sum
    ∙ c.hold-2.ensures.content in
    let room : 8 + len ≤ length c.hold-2.new.bytes = omega (arith, c.hold-2.ensures.size, c.requires.room, c.if-piece-more.false, within, short) in (
      c.hold-2.ensures.size,
      room,
      record {
        within = c.if-piece-more.false;
        some = omega (arith, within);
        bytes = ap (λ t. stream_start ++ t) (sym are);
        whole = whole c.in-Some-judge.operation len more begun c.args.piece.now _ (take (8 + len) c.hold-2.new.bytes) c.in-Some.ensures.0 c.in-Some-judge.ensures are
            (length-take-le (8 + len) c.hold-2.new.bytes room);
      },
    )
