-- The map from the bytes of names has the binding.
use Rattle.std.proofs.Common.{◌≡◌, ◌∙◌, ap, subst, sym}
use Rattle.std.specs.FinMap.{from_entries, insert}
use Rattle.std.specs.Cmp.Lexicographic.{slice_cmp}
use Rattle.std.specs.Ordering.{nat_cmp}
use Rattle.std.specs.Result.{OnOk}
use Rattle.program_link.specs.Locations.{by_bytes}
use Rattle.program_link.proofs.BoundNames.{bound-inserted}
use Rattle.program_link.proofs.bindings.Bindings.set.Goals.{in-Ok-insert, in-Err}
use Rattle.program_link.proofs.bindings.Bindings.set.Goals as goal

pub returns-clause-ok : goal.returns-clause-ok
returns-clause-ok c =
    elim c.match-insert.branch [
      | in-Ok-insert w ↦
          subst (λ r. OnOk r (from_entries {R = slice_cmp nat_cmp} (by_bytes c.insert.new.self.entries)
          ≡ insert c.args.self.now c.args.name c.args.index)) (sym w.result-is)
          (ap (λ es. from_entries {R = slice_cmp nat_cmp} (by_bytes es)) w.in-Ok-insert.ensures.entries
          ∙ bound-inserted c.self.inside.by_name.entries c.in-Ok.key c.args.index
          ∙ (λ i. insert (c.self.view_is i) ((c.in-Ok.ensures.items ∙ c.as_slice.ensures.value) i) c.args.index))
      | in-Err w ↦
          subst (λ r. OnOk r (from_entries {R = slice_cmp nat_cmp} (by_bytes c.insert.new.self.entries)
          ≡ insert c.args.self.now c.args.name c.args.index)) (sym w.result-is) tt
    ]
