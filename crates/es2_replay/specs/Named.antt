-- Buffers by name, as the machine keeps them: some in a list of slots, and the others in a tree.
use Rattle.std.specs.Prelude.{ℕ, ◌+◌, ◌≤◌, Option, Some, None, List, length, get_or, ◌==◌, if◌then◌else◌}
use Rattle.std.specs.Option.{option_map, option_or}
use Rattle.std.specs.Ordering.{nat_cmp}
use Rattle.std.specs.Map.{lookup}
use Rattle.std.specs.BTreeMap.{is_at}
use Rattle.gl_model.specs.Buffers.{Buffer, take_target, take_data, patch}
use Rattle.es2_replay.specs.declared.buffer_object.Change.{Change}
use Rattle.es2_replay.specs.declared.buffer_object.Change.TheVariants.{Target, Data, Patch}

-- the buffers that are made: a name may have the slot of its number, and other names stand with their buffers
pub record Names : Type 0 where
  pub slots : List (Option Buffer)
  pub others : List (ℕ × Buffer)

-- what stands in the slot of a name
abbrev pub slot : {A : Type 0} → List (Option A) → ℕ → Option A
slot slots name = get_or slots name None

-- what stands with a name
abbrev pub entry : {A : Type 0} → List (ℕ × A) → ℕ → Option A
entry others name = lookup (is_at (nat_cmp name)) others

-- what is found in one place, or else in another
abbrev pub either : {A : Type 0} → (ℕ → Option A) → (ℕ → Option A) → ℕ → Option A
either first second name = option_or (first name) (second name)

-- the buffer of a name, where it is made
abbrev pub named : Names → ℕ → Option Buffer
named names = either (slot names.slots) (entry names.others)

-- the objects by name, where a name has this object, or none
abbrev pub placed : {A : Type 0} → Option A → ℕ → (ℕ → Option A) → ℕ → Option A
placed object name objects n = if n == name then object else objects n

-- the objects by name, where that of a name was changed, if it is made
abbrev pub changed : {A : Type 0} → (A → A) → ℕ → (ℕ → Option A) → ℕ → Option A
changed change name objects = placed (option_map change (objects name)) name objects

-- a buffer after a change
abbrev pub changed_by : Change → Buffer → Buffer
changed_by (Target target) buffer = take_target (Some target) buffer
changed_by (Data usage bytes) buffer = take_data usage bytes buffer
changed_by (Patch offset bytes) buffer = patch offset bytes.now buffer

-- a change that a buffer can take: bytes that are written over its own lie inside it
abbrev pub Fits : Change → Buffer → Type 0
Fits (Target target) buffer = Unit {0}
Fits (Data usage bytes) buffer = Unit {0}
Fits (Patch offset bytes) buffer = offset + length bytes.now ≤ length buffer.bytes
