-- Commands that say the same are alike for all that doesn't ask where a tail lies.
use Rattle.std.proofs.Common.{◌≡◌, ℕ, List, sym, ap, ◌∙◌}
use Rattle.gl_numbers.specs.Fields.{Parts, Value}
use Rattle.command_stream.specs.declared.operation.Operation.{Operation}
use Rattle.command_stream.specs.declared.operation.Operation.TheVariants as op
use Rattle.command_stream.specs.declared.command.Command.{Command}
use Rattle.command_stream.specs.declared.command.Command.TheVariants.{Object, Buffer}
use Rattle.command_stream.specs.Commands.{parts_of}
use Rattle.command_stream.proofs.ObjectRows.{object_in}
use Rattle.command_stream.proofs.BufferRows.{buffer_in}

-- the command of an operation with these values and this tail, at no place
abbrev pub command_said : Operation → List Value → List ℕ → Command
command_said (op.Object operation) values tail = Object (object_in operation values)
command_said (op.Buffer operation) values tail = Buffer (buffer_in operation values tail)

-- the command that says this, with its tail at no place
abbrev pub command_in : Parts Operation → Command
command_in parts = command_said parts.operation parts.values parts.tail

-- what a command at no place shares with each that says the same, those share with one another
pub said-alike : {X : Type 0} (f : Command → X) → ((c : Command) → f (command_in (parts_of c)) ≡ f c) → (a b : Command)
    → parts_of a ≡ parts_of b → f a ≡ f b
said-alike f placeless a b e = sym (placeless a) ∙ ap (λ p. f (command_in p)) e ∙ placeless b
