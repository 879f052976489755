-- The name of an array with its last three bytes.
use Rattle.std.proofs.Common.{◌≡◌, ◌≤◌, ◌∙◌, ◌++◌, ◌∷◌, [], arith, length, subst, sym}
use Rattle.std.specs.Prelude.{IfSome}
use Rattle.std.proofs.lemmas.List.{length-append}
use Rattle.program_link.proofs.Slots.{array-length, full-array, not-single, suffix-written}
use Rattle.program_link.proofs.executable.full_name.Goals as goal

pub returns-then-name-gt253-clause-fits : goal.returns-then-name-gt253-clause-fits
returns-then-name-gt253-clause-fits c =
    let size = array-length c.args.name.now c.args.kind (not-single c.args.kind.array c.if-kind-eq0.false) in
    (λ e. absurd cc, λ h. absurd (omega (arith, h, c.if-name-gt253.true, size)))

pub returns-clause-fits : goal.returns-clause-fits
returns-clause-fits c =
    let size = array-length c.args.name.now c.args.kind (not-single c.args.kind.array c.if-kind-eq0.false) in
    let within : length (c.args.name.now ++ 91 ∷ 48 ∷ 93 ∷ []) ≤ 256 =
    omega (arith, c.if-name-gt253.false, length-append c.args.name.now (91 ∷ 48 ∷ 93 ∷ [])) in (
      λ some. omega (arith, c.if-name-gt253.false, size),
      λ h. c.new-2.ensures.fits.1
          (subst (λ l. length l ≤ 256)
          (sym (suffix-written c.args.name.now c.copy_from_slice.new.self c.copy_from_slice-2.new.self _ _ c.copy_from_slice.ensures.after
          c.copy_from_slice-2.ensures.after)) within),
    )

pub returns-clause-value : goal.returns-clause-value
returns-clause-value c =
    subst (λ l. IfSome c.new-2.result (λ full. full ≡ l))
    (suffix-written c.args.name.now c.copy_from_slice.new.self c.copy_from_slice-2.new.self _ _ c.copy_from_slice.ensures.after
    c.copy_from_slice-2.ensures.after
    ∙ sym (full-array c.args.name.now c.args.kind (not-single c.args.kind.array c.if-kind-eq0.false)))
    c.new-2.ensures.value
