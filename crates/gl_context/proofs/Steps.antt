-- What the context did with a call, from what the call did to the stores and what was sent.
use Rattle.std.proofs.Common.{◌≡◌, ℕ, Bool, true, false, Option, Some, None, List, [], Result, Ok, Err, refl, sym, ap, ◌∙◌, inl, inr}
use Rattle.std.specs.Prelude.{◌==◌}
use Rattle.std.specs.Io.KnownBytes.{append_known}
use Rattle.std.proofs.lemmas.List.Elements.{All-nil}
use Rattle.gl_numbers.specs.Errors.{code_of}
use Rattle.gl_numbers.specs.Refusals.{Rule, first_refusal}
use Rattle.gl_numbers.proofs.Refusing.{never_memory}
use Rattle.gl_numbers.specs.declared.errors.GlError.{GlError}
use Rattle.gl_numbers.specs.declared.errors.GlError.TheVariants.{Enum, Value, Operation, Memory, Framebuffer}
use Rattle.wire_io.specs.Sinks.{Sends}
use Rattle.call_records.specs.Records.{Fits}
use Rattle.call_records.specs.declared.calls.Call.{Call}
use Rattle.call_records.specs.declared.calls.Call.TheVariants as call
use Rattle.call_records.specs.declared.buffer_calls.BufferCall.{BufferCall}
use Rattle.call_records.specs.declared.buffer_calls.BufferCall.TheVariants.{BindBuffer, BufferData, BufferSubData, GetBufferParameter}
use Rattle.call_records.specs.declared.attrib_calls.AttribCall.{AttribCall}
use Rattle.call_records.specs.declared.attrib_calls.AttribCall.TheVariants.{AttribArray, VertexAttribPointer, VertexAttrib, GetVertexAttrib, GetVertexAttribOffset}
use Rattle.call_records.specs.declared.draw_calls.DrawCall.{DrawCall}
use Rattle.call_records.specs.declared.draw_calls.DrawCall.TheVariants.{Finish}
use Rattle.call_records.specs.declared.object_calls.ObjectCall.{ObjectCall}
use Rattle.call_records.specs.declared.object_calls.ObjectCall.TheVariants.{Create, Delete, IsKind}
use Rattle.call_records.specs.declared.object_calls.New.TheVariants as new
use Rattle.call_records.specs.declared.query_calls.QueryCall.{QueryCall}
use Rattle.call_records.specs.declared.query_calls.QueryCall.TheVariants.{IsEnabled, GetError, GetParameter}
use Rattle.call_records.specs.declared.texture_calls.TextureCall.{TextureCall}
use Rattle.call_records.specs.declared.texture_calls.TextureCall.TheVariants.{PixelStorei}
use Rattle.call_records.specs.declared.replies.Value.TheVariants.{Nothing}
use Rattle.call_records.specs.declared.replies.Reply.{Reply}
use Rattle.command_stream.specs.declared.command.Command.{Command}
use Rattle.command_stream.specs.Commands as Stream
use Rattle.gl_model.specs.Errors.{raise}
use Rattle.gl_model.specs.PageState.{PageState}
use Rattle.gl_model.specs.DriverState.{DriverState}
use Rattle.gl_model.proofs.Replaying.{replay-none}
use Rattle.gl_context.specs.Row.{Stepped, raised, refusal_of, step_judged}
use Rattle.gl_context.specs.PageStep.{row_of, step, MayBeOutOfMemory, is_out_of_memory}
use Rattle.gl_context.specs.ObjectRows.{object_row}
use Rattle.gl_context.specs.BufferRows.{buffer_row}
use Rattle.gl_context.specs.AttribRows.{attrib_row}
use Rattle.gl_context.specs.TextureRows.{texture_row}
use Rattle.gl_context.specs.QueryRows.{query_row}
use Rattle.gl_context.specs.RasterRows.{raster_row}
use Rattle.gl_context.specs.DrawRows.{draw_row}
use Rattle.gl_context.specs.Sent.{sent, bytes_of}
use Rattle.gl_context.specs.Follows.{IsGood}
use Rattle.gl_context.specs.Deeds.{HasReason}
use Rattle.gl_context.specs.Stands.{Kept, Keeps, IsSound, Agrees, Stands}
use Rattle.gl_context.specs.Steps.{Steps, Stops, RepliesOrStops}
use Rattle.wire_io.specs.declared.status.Failed.{Failed}
use Rattle.call_records.specs.Replies.{reply_encoding}
use Rattle.gl_context.specs.declared.context.WriteFault.{WriteFault}
use Rattle.gl_context.proofs.SentBytes.{nothing_sent, bind_words}
use Rattle.gl_context.proofs.Following.{good-quiet, good-create, good-delete, good-bind, good-data, good-sub_data}
use Rattle.gl_context.proofs.Parts.{keeps-errors}

-- each call on objects that acts is good
good-object : (w : PageState) (g : DriverState) (c : ObjectCall) → IsSound w → Agrees w g → refusal_of (object_row w c) ≡ None → IsGood g (object_row w c)
good-object w g (Create new.Buffer) sound agrees unrefused = good-create w g sound agrees unrefused
good-object w g (Delete kind handle) sound agrees unrefused = good-delete w g kind handle sound agrees
good-object w g (IsKind kind handle) sound agrees unrefused = good-quiet g (object_row w (IsKind kind handle)) sound agrees refl refl

-- each call on buffers that acts is good
good-buffer : (w : PageState) (g : DriverState) (c : BufferCall) → IsSound w → Agrees w g → Fits (call.Buffer c) → refusal_of (buffer_row w c) ≡ None → IsGood g (buffer_row w c)
good-buffer w g (BindBuffer target handle) sound agrees fits unrefused = good-bind w g target handle sound agrees (bind_words target handle fits) unrefused
good-buffer w g (BufferData target usage fill) sound agrees fits unrefused = good-data w g target usage fill sound agrees fits unrefused
good-buffer w g (BufferSubData target offset bytes) sound agrees fits unrefused = good-sub_data w g target offset bytes sound agrees fits unrefused
good-buffer w g (GetBufferParameter target name) sound agrees fits unrefused = good-quiet g (buffer_row w (GetBufferParameter target name)) sound agrees refl refl

-- each call on vertex attributes is good
good-attrib : (w : PageState) (g : DriverState) (c : AttribCall) → IsSound w → Agrees w g → IsGood g (attrib_row w c)
good-attrib w g (AttribArray index on) sound agrees = good-quiet g (attrib_row w (AttribArray index on)) sound agrees refl refl
good-attrib w g (VertexAttribPointer index size kind normalized stride offset) sound agrees =
    good-quiet g (attrib_row w (VertexAttribPointer index size kind normalized stride offset)) sound agrees refl refl
good-attrib w g (VertexAttrib index x y z w') sound agrees = good-quiet g (attrib_row w (VertexAttrib index x y z w')) sound agrees refl refl
good-attrib w g (GetVertexAttrib index name) sound agrees = good-quiet g (attrib_row w (GetVertexAttrib index name)) sound agrees refl refl
good-attrib w g (GetVertexAttribOffset index name) sound agrees = good-quiet g (attrib_row w (GetVertexAttribOffset index name)) sound agrees refl refl

-- each query is good
good-query : (w : PageState) (g : DriverState) (c : QueryCall) → IsSound w → Agrees w g → IsGood g (query_row w c)
good-query w g (IsEnabled word) sound agrees = good-quiet g (query_row w (IsEnabled word)) sound agrees refl refl
good-query w g GetError sound agrees = good-quiet g (query_row w GetError) sound agrees refl refl
good-query w g (GetParameter word) sound agrees = good-quiet g (query_row w (GetParameter word)) sound agrees refl refl

-- each call on textures is good
good-texture : (w : PageState) (g : DriverState) (c : TextureCall) → IsSound w → Agrees w g → IsGood g (texture_row w c)
good-texture w g (PixelStorei name value) sound agrees = good-quiet g (texture_row w (PixelStorei name value)) sound agrees refl refl

-- each call that draws, or asks that what was drawn be done, is good
good-draw : (w : PageState) (g : DriverState) (c : DrawCall) → IsSound w → Agrees w g → IsGood g (draw_row w c)
good-draw w g (Finish waits) sound agrees = good-quiet g (draw_row w (Finish waits)) sound agrees refl refl

-- each call that acts is good
pub good-call : (w : PageState) (g : DriverState) (c : Call) → IsSound w → Agrees w g → Fits c → refusal_of (row_of w c) ≡ None → IsGood g (row_of w c)
good-call w g (call.Object c) sound agrees fits unrefused = good-object w g c sound agrees unrefused
good-call w g (call.Buffer c) sound agrees fits unrefused = good-buffer w g c sound agrees fits unrefused
good-call w g (call.Attrib c) sound agrees fits unrefused = good-attrib w g c sound agrees
good-call w g (call.Texture c) sound agrees fits unrefused = good-texture w g c sound agrees
good-call w g (call.Query c) sound agrees fits unrefused = good-query w g c sound agrees
good-call w g (call.Raster c) sound agrees fits unrefused = good-quiet g (raster_row w c) sound agrees refl refl
good-call w g (call.Draw c) sound agrees fits unrefused = good-draw w g c sound agrees

-- the errors that rules raise aren't OUT_OF_MEMORY
other-code : (rules : List Rule) (error : GlError) → first_refusal rules ≡ Some error → (code_of error == 1285) ≡ false
other-code rules Enum e = refl
other-code rules Value e = refl
other-code rules Operation e = refl
other-code rules Memory e = absurd (never_memory rules e)
other-code rules Framebuffer e = refl

-- a call that raised an error, as a step
steps-raised : (w : PageState) (g : DriverState) (c : Call) (kept : Kept) (old : Option (List ℕ)) (error : GlError) (out_of_memory : Bool) → Stands kept w g
    → (code_of error == 1285) ≡ out_of_memory → (out_of_memory ≡ true → MayBeOutOfMemory w c)
    → step w c out_of_memory ≡ raised w error
    → Steps w g c (record kept { errors = raise error kept.errors }) old old (record { raised = code_of error; value = Nothing })
steps-raised w g c kept old error out_of_memory s code allowed stepped =
    let same : step w c (code_of error == 1285) ≡ raised w error = ap (step w c) code ∙ stepped in
    record {
      commands = [];
      driver = g;
      allowed = λ h. allowed (sym code ∙ h);
      replied = sym (ap (λ (r : Stepped). r.reply) same);
      sends = nothing_sent old;
      fit = All-nil Stream.Fits;
      replayed = rw same (replay-none g);
      stands = rw same (record {
        working = s.working;
        keeps = keeps-errors kept w (raise error kept.errors) (raise error w.errors) s.keeps (ap (raise error) s.keeps.errors);
        sound = s.sound;
        agrees = s.agrees;
      });
      exact = sym (ap (λ (r : Stepped). r.sends) same);
    }

-- a call that raises an error
pub steps-error : (w : PageState) (g : DriverState) (c : Call) (kept : Kept) (old : Option (List ℕ)) (error : GlError) → Stands kept w g
    → HasReason (row_of w c) error
    → Steps w g c (record kept { errors = raise error kept.errors }) old old (record { raised = code_of error; value = Nothing })
steps-error w g c kept old error s (inl refused) =
    steps-raised w g c kept old error false s (other-code (row_of w c).rules error refused) (λ no. absurd cc) (ap (step_judged w (row_of w c) false) refused)
steps-error w g c kept old error s (inr ran_out) =
    let code : (code_of error == 1285) ≡ true = rw ran_out.0 refl in
    steps-raised w g c kept old error true s code (λ h. ran_out.1) (ap (step_judged w (row_of w c) true) ran_out.1.unrefused ∙ (rw ran_out.0 refl))

-- a call that acted
pub steps-acted : (w : PageState) (g : DriverState) (c : Call) (before kept : Kept) (commands : List Command) (old new : Option (List ℕ)) (reply : Reply) → Stands before w g → Fits c
    → refusal_of (row_of w c) ≡ None → commands ≡ (row_of w c).commands → Keeps kept (row_of w c).next → kept.failed ≡ false
    → reply ≡ record { raised = 0; value = (row_of w c).value } → new ≡ append_known old (bytes_of commands)
    → Steps w g c kept old new reply
steps-acted w g c before kept commands old new reply s fits unrefused sends keeps working replied sent =
    let good = good-call w g c s.sound s.agrees fits unrefused in
    let code : is_out_of_memory reply ≡ false = rw replied refl in
    let acted : step w c (is_out_of_memory reply) ≡ step_judged w (row_of w c) false None = ap (step w c) code ∙ ap (step_judged w (row_of w c) false) unrefused in
    record {
      commands = commands;
      driver = good.follows.driver;
      allowed = λ h. absurd (let no : false ≡ true = sym code ∙ h in cc);
      replied = replied ∙ sym (ap (λ (r : Stepped). r.reply) acted);
      sends = sent;
      fit = rw sends good.fit;
      replayed = rw (acted, sends) good.follows.replayed;
      stands = rw acted (record { working = working; keeps = keeps; sound = good.sound; agrees = good.follows.agrees });
      exact = sends ∙ sym (ap (λ (r : Stepped). r.sends) acted);
    }

-- a call whose commands were cut short
pub stops-acted : (w : PageState) (g : DriverState) (c : Call) (before : Kept) (commands : List Command) (old new : Option (List ℕ)) (failed : WriteFault) → Stands before w g → Fits c
    → refusal_of (row_of w c) ≡ None → commands ≡ (row_of w c).commands → Sends {T = Unit {0}} old new (Err failed) (bytes_of commands)
    → Stops w g c old new failed
stops-acted w g c before commands old new failed s fits unrefused sends cut =
    let good = good-call w g c s.sound s.agrees fits unrefused in
    let acted : step w c false ≡ step_judged w (row_of w c) false None = ap (step_judged w (row_of w c) false) unrefused in
    record {
      commands = commands;
      driver = good.follows.driver;
      sends = cut;
      fit = rw sends good.fit;
      replayed = rw (acted, sends) good.follows.replayed;
      exact = sends ∙ sym (ap (λ (r : Stepped). r.sends) acted);
    }

-- a reply that was written, whole or in part
pub replied : (w : PageState) (g : DriverState) (call : Call) (kept : Kept) (stream0 stream out0 out : Option (List ℕ)) (reply : Reply)
    (result : Result (Unit {0}) Failed) → Steps w g call kept stream0 stream reply → Sends out0 out result (reply_encoding reply)
    → RepliesOrStops w g call kept stream0 stream out0 out result
replied w g call kept stream0 stream out0 out reply (Ok u) steps written = record { reply = reply; steps = steps; written = written }
replied w g call kept stream0 stream out0 out reply (Err e) steps written = inl (record { reply = reply; steps = steps; written = written })
