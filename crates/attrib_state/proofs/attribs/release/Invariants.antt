-- The attributes so far are without the buffer, and the others as they were.
use Rattle.std.proofs.Common.{◌≡◌, ◌++◌, map, take, drop}
use Rattle.attrib_state.specs.Effects.{out_of}
use Rattle.attrib_state.proofs.attribs.release.Given as goal

abbrev pub invariant-loop-attribute : goal.invariant-loop-attribute
invariant-loop-attribute l =
    l.attributes ≡ map (out_of l.h) (take l.attribute-index l.fn.attributes) ++ drop l.attribute-index l.fn.attributes
