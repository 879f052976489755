-- How things are found by name (this project's own): a map has the value of the first thing of each name.
use Rattle.std.specs.Prelude.{◌≡◌, ℕ, if◌then◌else◌, List, Option, Some, None, Vec}
use Rattle.std.specs.declared.alloc.Global.{Global}
use Rattle.std.specs.List.{position_from}
use Rattle.std.specs.Map.{lookup}
use Rattle.std.specs.Option.{option_or}
use Rattle.std.specs.Str.{bytes_eq}
use Rattle.glsl_types.specs.declared.interface.Item.{Item}
use Rattle.program_link.specs.Linked.{number_named}

-- the entries of a map from names
abbrev pub EntriesOf : Type 0 → Type 0
EntriesOf V = List (Vec ℕ Global × V)

abbrev pub Entries : Type 0
Entries = EntriesOf ℕ

-- the value of a name
abbrev pub place_of_name : {V : Type 0} → EntriesOf V → List ℕ → Option V
place_of_name entries name = lookup (λ key. bytes_eq name key.items) entries

-- the value of a name once another has one, if it had none
abbrev pub place_after : {V : Type 0} → EntriesOf V → List ℕ → V → List ℕ → Option V
place_after entries added value name = option_or (place_of_name entries name) (if bytes_eq name added then Some value else None)

-- each name finds the place of the first item of that name
abbrev pub FindsItems : Entries → List Item → Type 0
FindsItems entries items =
    (name : List ℕ) → place_of_name entries name ≡ position_from (λ item. bytes_eq name item.name) 0 items

-- each name has the number of the first of these that has it
abbrev pub HasNumbers : Entries → List (List ℕ × ℕ) → Type 0
HasNumbers entries pairs = (name : List ℕ) → place_of_name entries name ≡ number_named pairs name
