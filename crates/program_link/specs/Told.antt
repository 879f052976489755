-- What always holds of how an executable is kept (this project's own).
use Rattle.std.specs.Prelude.{◌≡◌, ◌≤◌, All, List, length, map}
use Rattle.std.specs.List.{flat_map}
use Rattle.glsl_types.specs.declared.types.SlType.{SlType}
use Rattle.uniform_values.specs.Layout.{slot_count, slots_max}
use Rattle.program_link.specs.declared.active.Attribute.{Attribute}
use Rattle.program_link.specs.declared.active.Uniform.{Uniform}
use Rattle.program_link.specs.Flattening.{full_name}
use Rattle.program_link.specs.Linked.{slot_names}
use Rattle.program_link.specs.Places.{Entries, HasNumbers}
use Rattle.program_link.specs.Rules.{name_bytes_max}

-- names have their locations and slots, no name is too long, and there are no more slots than a program may have
pub record IsTold (attributes : List Attribute) (locations : Entries) (uniforms : List Uniform) (slots : Entries)
    (kinds : List SlType) : Type 0 where
  pub located : HasNumbers locations (map (λ a. (a.name, a.location)) attributes)
  pub slotted : HasNumbers slots (flat_map slot_names uniforms)
  pub attribute_names : All (λ a. length a.name ≤ name_bytes_max) attributes
  pub uniform_names : All (λ u. length (full_name u.name u.kind) ≤ name_bytes_max) uniforms
  pub types : kinds ≡ map (λ u. u.kind) uniforms
  pub few : slot_count kinds ≤ slots_max
