-- A new buffer, named and stored.
use Rattle.std.proofs.Common.{◌≡◌, ◌+◌, None, [], ◌∷◌, length, ap, ◌∙◌}
use Rattle.gl_numbers.specs.declared.kinds.Kind.TheVariants as kind
use Rattle.object_names.specs.Objects.{next_handle, driver_name}
use Rattle.call_records.specs.declared.replies.Value.TheVariants.{Number}
use Rattle.command_stream.specs.declared.command.Command.TheVariants as Command
use Rattle.command_stream.specs.declared.object_commands.ObjectCommand.TheVariants.{MakeBuffer}
use Rattle.gl_context.proofs.Acting.{acts-create}
use Rattle.gl_context.proofs.Tying.{tied-create}
use Rattle.gl_context.proofs.context.Context.make_buffer.Goals as goal

pub invariant_of-self-2 : goal.invariant_of-self-2
invariant_of-self-2 c =
    let e : c.in-Ok.made.0 ≡ next_handle c.self.inside.names = ap (λ p. p.0) c.in-Ok.ensures.value in
    rw (c.create.ensures.after, c.in-Ok-add.ensures.ok, c.in-Ok.ensures.ok, e) (tied-create c.self.inside.names c.self.inside.buffers None c.self.invariant)

pub returns-clause-acts : goal.returns-clause-acts
returns-clause-acts c w k sound =
    let k' = rw (← c.self.view_is) at k in
    let e : c.in-Ok.made.0 ≡ next_handle c.self.inside.names = ap (λ p. p.0) c.in-Ok.ensures.value in
    let named : c.in-Ok.made.1 ≡ driver_name kind.Buffer (next_handle c.self.inside.names) = ap (λ p. p.1) c.in-Ok.ensures.value in
    let next : next_handle c.self.inside.names ≡ length w.objects + 1 = ap (λ n. n + 1) k'.names.count in
    let acts = acts-create _ w None k' sound (λ h. absurd cc (c.in-Ok.ensures.spent.1 h)) in
    (acts.0, rw (c.create.ensures.after, c.in-Ok-add.ensures.ok, c.in-Ok.ensures.ok, e) acts.1, ap Number (e ∙ next), ap (λ n. Command.Object (MakeBuffer n) ∷ []) (named ∙ ap (driver_name kind.Buffer) next))
