use Rattle.std.proofs.Common.{◌≡◌, Some, None, cond, length, map, bytes_eq, option_copied, refl, sym, ap, ◌∙◌, arith}
use Rattle.std.proofs.lemmas.List.{length-map}
use Rattle.glsl_preproc.specs.NamePlaces.{index_of, place_of}
use Rattle.glsl_preproc.proofs.NamePlaces.{left_known, left_new, pushed, places_after}
use Rattle.glsl_preproc.proofs.names.Names.pop.Goals as goal

pub invariant_of-self-in_default-get : goal.invariant_of-self-in_default-get
invariant_of-self-in_default-get c =
    let names = map (λ v. v.items) c.pop.new.self.items in
    let x = c.in-Some.name.items in
    let place = place_of c.self.inside.places in
    let whole = pushed c.pop.new.self.items c.self.inside.names.items c.in-Some.name x c.in-Some.ensures.items refl in
    let none : place x ≡ None = ap place (sym c.as_slice.ensures.value) ∙ sym c.get.ensures.value ∙ ap option_copied c.in_default-get.is in
    left_known names x place (λ q. c.self.invariant q ∙ ap (λ l. index_of l q) whole) (λ e. absurd cc)

pub invariant_of-self-then-first-place : goal.invariant_of-self-then-first-place
invariant_of-self-then-first-place c =
    let names = map (λ v. v.items) c.pop.new.self.items in
    let x = c.in-Some.name.items in
    let place = place_of c.self.inside.places in
    let whole = pushed c.pop.new.self.items c.self.inside.names.items c.in-Some.name x c.in-Some.ensures.items refl in
    let same = length-map c.pop.new.self.items (λ v. v.items) in
    let at : place x ≡ Some c.in-Some-get.first.now = ap place (sym c.as_slice.ensures.value) ∙ sym c.in-Some-get.ensures.value in
    left_known names x place (λ q. c.self.invariant q ∙ ap (λ l. index_of l q) whole)
    (λ e. let is : c.in-Some-get.first.now ≡ length names = cc in absurd (omega (arith, c.if-first-place.true, c.len-place.ensures)))

pub invariant_of-self-2 : goal.invariant_of-self-2
invariant_of-self-2 c =
    let names = map (λ v. v.items) c.pop.new.self.items in
    let x = c.in-Some.name.items in
    let place = place_of c.self.inside.places in
    let whole = pushed c.pop.new.self.items c.self.inside.names.items c.in-Some.name x c.in-Some.ensures.items refl in
    let same = length-map c.pop.new.self.items (λ v. v.items) in
    let is : c.in-Some-get.first.now ≡ length names = omega (arith, c.if-first-place.false, c.len-place.ensures) in
    let at : place x ≡ Some (length names) = ap place (sym c.as_slice.ensures.value) ∙ sym c.in-Some-get.ensures.value ∙ ap Some is in
    let after = places_after c.as_slice-2.result.now c.self.inside.places c.remove-place.new.self None c.remove-place.ensures.updates in
    left_new names x place (place_of c.remove-place.new.self) (λ q. c.self.invariant q ∙ ap (λ l. index_of l q) whole) at
    (λ q. after q ∙ ap (λ b. cond (bytes_eq b q) None (place q)) c.as_slice-2.ensures.value)
