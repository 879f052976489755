-- What `link` returns.
use Rattle.std.specs.Prelude.{◌≡◌, ℕ, ◌*◌, ◌≤◌, true, false, Option, Some, None, Result, Ok, Err, List, [], ◌∷◌, Vec, map}
use Rattle.std.specs.declared.alloc.Global.{Global}
use Rattle.gl_numbers.specs.Limits.{fragment_uniform_vectors_max, vertex_uniform_vectors_max}
use Rattle.glsl_types.specs.declared.interface.Interface.{Interface}
use Rattle.program_link.specs.declared.errors.Link.{Link}
use Rattle.program_link.specs.declared.errors.Link.TheVariants as link
use Rattle.program_link.specs.declared.leaves.Leaf.{Leaf}
use Rattle.program_link.specs.Flattening.{elements_of}
use Rattle.program_link.specs.Items.{active_leaves, used_leaves}
use Rattle.program_link.specs.Kept.{kept_leaf}
use Rattle.program_link.specs.Linked.{Linked, linked}
use Rattle.program_link.specs.Locations.{Bound}
use Rattle.program_link.specs.Rules.{Breach, first_broken, link_rules, too_many_samplers, uniforms_differ, uniforms_lack_room, varyings_differ}

-- what a link makes exactly where no rule is broken, else the first rule that is; memory may run out
abbrev pub Links : Interface → Interface → Bound → Result Linked Link → Type 0
Links vertex fragment bound (Ok program) = (first_broken (link_rules vertex fragment bound) ≡ None) ×
    (program ≡ linked vertex fragment bound)
Links vertex fragment bound (Err (link.Rule number)) = first_broken (link_rules vertex fragment bound) ≡ Some number
Links vertex fragment bound (Err link.Memory) = Unit {0}

-- the rules on the interfaces, and those on the rows of uniforms and on samplers
abbrev pub interface_rules : Interface → Interface → List Breach
interface_rules vertex fragment = (4, varyings_differ vertex fragment) ∷ (5, uniforms_differ vertex fragment) ∷ []

abbrev pub uniform_rules : Interface → Interface → List Breach
uniform_rules vertex fragment =
    (8, uniforms_lack_room vertex_uniform_vectors_max vertex)
    ∷ (9, uniforms_lack_room fragment_uniform_vectors_max fragment)
    ∷ (10, too_many_samplers vertex fragment)
    ∷ []

-- what a link makes, or the number of the first rule that is broken
abbrev pub Outcome : Interface → Interface → Bound → Result Linked ℕ → Type 0
Outcome vertex fragment bound (Ok program) = (first_broken (link_rules vertex fragment bound) ≡ None) ×
    (program ≡ linked vertex fragment bound)
Outcome vertex fragment bound (Err number) = first_broken (link_rules vertex fragment bound) ≡ Some number

-- what stands for the uniforms that a shader uses, under the parts of their names that are kept, exactly where it has room in so many rows
abbrev pub FoundRoom : ℕ → Interface → Option (Vec Leaf Global) → Type 0
FoundRoom rows shader (Some leaves) =
    (uniforms_lack_room rows shader ≡ false) × (leaves.items ≡ map kept_leaf (used_leaves shader)) × (elements_of leaves.items ≤ 4 * rows)
FoundRoom rows shader None = uniforms_lack_room rows shader ≡ true

-- what stands for the active uniforms, or the number of the first of the rules on them that is broken
abbrev pub FoundActive : Interface → Interface → Result (Vec Leaf Global) ℕ → Type 0
FoundActive vertex fragment (Ok leaves) =
    (first_broken (uniform_rules vertex fragment) ≡ None) × (leaves.items ≡ map kept_leaf (active_leaves vertex fragment))
    × (elements_of leaves.items ≤ 65536)
FoundActive vertex fragment (Err number) = first_broken (uniform_rules vertex fragment) ≡ Some number
