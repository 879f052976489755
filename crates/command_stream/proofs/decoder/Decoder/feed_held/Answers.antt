use Rattle.std.proofs.Common.{◌≡◌, ◌++◌, take, drop, length, sym, ap, ◌∙◌, inl, arith}
use Rattle.command_stream.proofs.Pieces.{written-over, counted-part, counted-whole}
use Rattle.command_stream.proofs.decoder.Decoder.feed_held.Goals as goal

pub invariant_of-self-in-Part : goal.invariant_of-self-in-Part
invariant_of-self-in-Part c =
    let kept : take c.self.inside.held c.reach.new.bytes.items ≡ take c.self.inside.held c.self.inside.bytes.items =
    c.reach.ensures.kept c.self.inside.held c.self.invariant.within in
    let same : length c.take_in.new.bytes ≡ length c.as_mut_slice.result.now = c.in-Part.ensures.0 in
    let over : take c.reach.new.bytes.len (c.take_in.new.bytes ++ drop (length c.take_in.new.bytes) c.reach.new.bytes.items) ≡ c.take_in.new.bytes =
    written-over c.reach.new.bytes.len c.reach.new.bytes.items c.take_in.new.bytes (sym (same ∙ c.as_mut_slice.ensures.len)) in
    let size : length c.take_in.new.bytes ≡ length c.reach.new.bytes.items = same ∙ ap length c.as_mut_slice.ensures.value in
    rw over (record {
      room = omega (arith, c.reach.ensures.capacity, c.self.invariant.room);
      reached = omega (arith, size, c.reach.ensures.size);
      within = c.in-Part.ensures.1;
      part = c.in-Part.ensures.2.rest;
      counted = counted-part c.self.inside.started c.in-Part.started (take c.self.inside.held c.self.inside.bytes.items) c.args.piece.now (take c.in-Part.held c.take_in.new.bytes) c.self.inside.taken
          c.self.invariant.counted c.in-Part.ensures.2.rest (rw (c.as_mut_slice.ensures.value, kept) at c.in-Part.ensures.2.bytes);
    })

pub invariant_of-self-in-Whole : goal.invariant_of-self-in-Whole
invariant_of-self-in-Whole c =
    let kept : take c.self.inside.held c.reach.new.bytes.items ≡ take c.self.inside.held c.self.inside.bytes.items =
    c.reach.ensures.kept c.self.inside.held c.self.invariant.within in
    let same : length c.take_in.new.bytes ≡ length c.as_mut_slice.result.now = c.in-Whole.ensures.0 in
    let over : take c.reach.new.bytes.len (c.take_in.new.bytes ++ drop (length c.take_in.new.bytes) c.reach.new.bytes.items) ≡ c.take_in.new.bytes =
    written-over c.reach.new.bytes.len c.reach.new.bytes.items c.take_in.new.bytes (sym (same ∙ c.as_mut_slice.ensures.len)) in
    let size : length c.take_in.new.bytes ≡ length c.reach.new.bytes.items = same ∙ ap length c.as_mut_slice.ensures.value in
    rw over (record {
      room = omega (arith, c.reach.ensures.capacity, c.self.invariant.room);
      reached = omega (arith, size, c.reach.ensures.size);
      within = omega arith;
      part = inl (omega arith);
      counted = counted-whole c.self.inside.started (take c.self.inside.held c.self.inside.bytes.items) c.args.piece.now (take c.in-Whole.size c.take_in.new.bytes) c.self.inside.taken c.in-Whole.taken
          c.self.invariant.counted c.in-Whole.ensures.2.within (rw (c.as_mut_slice.ensures.value, kept) at c.in-Whole.ensures.2.bytes);
    })
