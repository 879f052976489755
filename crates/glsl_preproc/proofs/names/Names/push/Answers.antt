use Rattle.std.proofs.Common.{◌≡◌, Some, cond, length, map, bytes_eq, sym, ap, ◌∙◌, arith}
use Rattle.std.specs.List.{list_any}
use Rattle.std.proofs.lemmas.List.{length-map}
use Rattle.glsl_preproc.specs.NamePlaces.{index_of, place_of}
use Rattle.glsl_preproc.proofs.NamePlaces.{known, added, no_place, pushed, places_after}
use Rattle.glsl_preproc.proofs.names.Names.push.Goals as goal

pub invariant_of-self-then-contains : goal.invariant_of-self-then-contains
invariant_of-self-then-contains c q =
    let names = map (λ v. v.items) c.self.inside.names.items in
    let name = c.args.name.now in
    let among = ap (list_any (λ n. bytes_eq n name)) c.self.view_is ∙ sym c.contains.ensures ∙ c.if-contains.true in
    known names name (place_of c.self.inside.places) c.self.invariant among q
    ∙ sym (ap (λ l. index_of l q) (pushed c.self.inside.names.items c.push.new.self.items c.in_ok-copy.copy name c.in_ok-push.ensures.items c.in_ok-copy.ensures.items))

pub invariant_of-self-in-Ok : goal.invariant_of-self-in-Ok
invariant_of-self-in-Ok c q =
    let names = map (λ v. v.items) c.self.inside.names.items in
    let name = c.args.name.now in
    let place = place_of c.self.inside.places in
    let new = ap (list_any (λ n. bytes_eq n name)) c.self.view_is ∙ sym c.contains.ensures ∙ c.if-contains.false in
    let same = length-map c.self.inside.names.items (λ v. v.items) in
    let long : c.len-place.result ≡ length names = omega (arith, c.len-place.ensures) in
    let after = places_after c.in_ok-key.key.items c.self.inside.places c.insert.new.self _ c.in-Ok.ensures.updates in
    added names name place (place_of c.insert.new.self) c.self.invariant (no_place names name new)
    (λ p. after p ∙ (λ t. cond (bytes_eq (c.in_ok-key.ensures.items t) p) (Some (long t)) (place p))) q
    ∙ sym (ap (λ l. index_of l q) (pushed c.self.inside.names.items c.push-2.new.self.items c.in_ok-copy.copy name c.in_ok-push-2.ensures.items c.in_ok-copy.ensures.items))
