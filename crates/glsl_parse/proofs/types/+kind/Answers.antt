-- A line of members, the lines before the first turn, and the end of the list.
use Rattle.std.proofs.Common.{ap, sym, arith, map}
use Rattle.glsl_tree.specs.Token.{plain_tokens}
use Rattle.glsl_tree.specs.Expressions.{highest}
use Rattle.glsl_tree.specs.Types.{member_height}
use Rattle.glsl_tree.specs.declared.declarations.Member.{roll-Member}
use Rattle.glsl_parse.specs.Readings.{looped}
use Rattle.glsl_parse.specs.TypeReadings.{member, more_members}
use Rattle.glsl_parse.proofs.TypeNodes.{line}
use Rattle.glsl_parse.proofs.Fronts.{no_type}
use Rattle.glsl_parse.proofs.types.+kind.Goals as goal

pub member-returns-clause-measured : goal.member-returns-clause-measured
member-returns-clause-measured t c =
    let high = (line (roll-Member (record { precision = c.precision_at-precision.result.0; kind = c.in_ok-kind.kind; names = c.in_ok-names.names }))).high in
    omega (arith, high, c.max.ensures, c.in_ok-kind.ensures.measured, c.in_ok-names.ensures.measured)

pub members-loop-alloc-init : goal.members-loop-alloc-init
unfolding highest
members-loop-alloc-init t c = record {
  reads = ap (λ all. looped (more_members (member c.args.below)) all (plain_tokens c.args.list.now)) c.new-all.ensures;
  measured = sym (ap (λ all. highest (map member_height all)) c.new-all.ensures);
  bounded = omega arith;
  shorter = omega arith;
}

pub type_specifier-returns-in_default-clause-found : goal.type_specifier-returns-in_default-clause-found
type_specifier-returns-in_default-clause-found t c = no_type c.args.room c.args.list.now c.in_default.ensures.cases
