-- The names of one more element have their slots.
use Rattle.std.proofs.Common.{◌∙◌, ◌+◌, ◌++◌, ap, arith, refl, subst}
use Rattle.program_link.specs.Flattening.{element_name}
use Rattle.program_link.specs.Places.{HasNumbers, place_after}
use Rattle.program_link.proofs.ByBytes.{elements-start, elements-step, first_names}
use Rattle.program_link.proofs.executable.add_slots.Goals as goal

pub loop-place-init : goal.loop-place-init
loop-place-init c = λ pairs so_far.
    elements-start c.args.slots.now.entries c.add_name.new.places.entries c.args.uniform.now pairs
    (λ q. c.in_ok-add_name.ensures q
    ∙ ap (λ n. place_after c.args.slots.now.entries n c.args.uniform.now.first q) c.as_slice-name.ensures)
    so_far

pub loop-place-preserved : goal.loop-place-preserved
loop-place-preserved c = λ pairs so_far.
    elements-step c.loop-place.slots.entries c.add_name-in-loop-place.new.places.entries c.args.uniform.now pairs c.loop-place.place
    (c.args.uniform.now.first + c.loop-place.place) c.in_ok-element.element.items
    (c.in_ok-element.ensures ∙ ap (λ n. element_name n c.loop-place.place) c.as_slice-name.ensures) refl
    (λ q. c.in_ok-add_name-2.ensures q
    ∙ ap (λ n. place_after c.loop-place.slots.entries n (c.args.uniform.now.first + c.loop-place.place) q) c.as_slice.ensures.value)
    (c.loop-place.invariant pairs so_far)

pub returns : goal.returns
returns c = λ pairs so_far.
    subst (λ n. HasNumbers c.loop-place.slots.entries (pairs ++ first_names c.args.uniform.now n))
    (omega (arith, c.loop-place-test.false, c.loop-place.auto.place-end)) (c.loop-place.invariant pairs so_far)
