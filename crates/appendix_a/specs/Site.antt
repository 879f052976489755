-- What an expression stands in.
use Rattle.std.specs.Prelude.{ℕ, List, Option}
use Rattle.std.specs.Option.{option_map}
use Rattle.gl_numbers.specs.declared.kinds.Stage.{Stage}
use Rattle.appendix_a.specs.declared.site.Site as code
use Rattle.appendix_a.specs.Loops.{indices}
use Rattle.appendix_a.specs.Names.{Named}
use Rattle.appendix_a.specs.Table.{named_in}

-- what the declared names are by their numbers, the stage, the numbers of the indices of the loops around an expression, and the
-- name of the index in the header of whose loop it stands
pub record Site : Type 0 where
  pub named : ℕ → Option Named
  pub stage : Stage
  pub loops : List ℕ
  pub header : Option (List ℕ)

-- what the code keeps of it
abbrev pub site_of : code.Site → Site
site_of s = record {
  named = named_in s.names;
  stage = s.stage;
  loops = indices s.loops.now;
  header = option_map (λ name. name.now) s.header;
}
