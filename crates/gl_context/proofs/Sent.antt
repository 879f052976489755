-- The commands of a call, as the context sends them.
use Rattle.std.proofs.Common.{◌≡◌, ℕ, Some, ap}
use Rattle.buffer_store.specs.declared.content.Content as Contents
use Rattle.call_records.specs.declared.buffer_calls.Fill.{Fill}
use Rattle.call_records.specs.declared.buffer_calls.Fill.TheVariants.{Size, Bytes}
use Rattle.gl_context.specs.BufferRows.{fill_sent}
use Rattle.gl_context.specs.Filled.{Fills, content_sent}

-- what fills a buffer is sent as the call says
pub content-fill : (target usage : ℕ) (fill : Fill) (filling : Contents.Content) → Fills fill (Some filling) → content_sent target usage filling ≡ fill_sent target usage fill
content-fill target usage (Size size) filling fills = ap (content_sent target usage) fills.1
content-fill target usage (Bytes bytes) filling fills = ap (content_sent target usage) fills
