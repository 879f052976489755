-- Calls as records: how each call is encoded, and how a session of them is (this project's own format).
use Rattle.std.specs.Prelude.{ℕ, List, ◌++◌, codes}
use Rattle.std.specs.List.{flat_map}
use Rattle.gl_numbers.specs.Bytes.{le32}
use Rattle.gl_numbers.specs.Fields.{Parts, among, body, record_encoding, FitsRow}
use Rattle.call_records.specs.Numbers.{body_max, closing_number, session_version}
use Rattle.call_records.specs.declared.operations.Operation.{Operation}
use Rattle.call_records.specs.declared.operations.Operation.TheVariants as Op
use Rattle.call_records.specs.declared.calls.Call.{Call}
use Rattle.call_records.specs.declared.calls.Call.TheVariants.{Object, Buffer, Attrib, Texture, Query, Raster, Draw}
use Rattle.call_records.specs.declared.raster_calls.RasterCall.TheVariants.{Color, DepthStencil, View}
use Rattle.call_records.specs.ObjectRecords.{object_parts}
use Rattle.call_records.specs.BufferRecords.{buffer_parts}
use Rattle.call_records.specs.AttribRecords.{attrib_parts}
use Rattle.call_records.specs.TextureRecords.{texture_parts}
use Rattle.call_records.specs.QueryRecords.{query_parts}
use Rattle.call_records.specs.ColorRecords.{color_parts}
use Rattle.call_records.specs.DepthStencilRecords.{depth_stencil_parts}
use Rattle.call_records.specs.ViewRecords.{view_parts}
use Rattle.call_records.specs.DrawRecords.{draw_parts}
use Rattle.call_records.specs.Operations.{row_of}

-- what a call says, apart from where its tail lies in memory: its operation, the values of its fields, and its tail
abbrev pub parts_of : Call → Parts Operation
parts_of (Object call) = among Op.Object (object_parts call)
parts_of (Buffer call) = among Op.Buffer (buffer_parts call)
parts_of (Attrib call) = among Op.Attrib (attrib_parts call)
parts_of (Texture call) = among Op.Texture (texture_parts call)
parts_of (Query call) = among Op.Query (query_parts call)
parts_of (Raster (Color call)) = among Op.Color (color_parts call)
parts_of (Raster (DepthStencil call)) = among Op.DepthStencil (depth_stencil_parts call)
parts_of (Raster (View call)) = among Op.View (view_parts call)
parts_of (Draw call) = among Op.Draw (draw_parts call)

-- the operation of a call
abbrev pub operation_of : Call → Operation
operation_of call = (parts_of call).operation

-- the operation's number
abbrev pub op_of : Call → ℕ
op_of call = (row_of (operation_of call)).number

-- the fields in order, and then the tail
abbrev pub body_of : Call → List ℕ
body_of call = body (parts_of call)

-- the operation, the body's length, and the body
abbrev pub encoding : Call → List ℕ
encoding call = record_encoding row_of (parts_of call)

-- the call has a record: its fields fit its row's letters, and its body is no longer than a body may be
abbrev pub Fits : Call → Type 0
Fits call = FitsRow row_of body_max (parts_of call)

-- the session's header: the text `WGLR`, and the version
unfoldable pub session_start : List ℕ
session_start = codes "WGLR" ++ le32 session_version

-- the record that closes a session: no operation, and no body
unfoldable pub closing_record : List ℕ
closing_record = le32 closing_number ++ le32 0

-- a session: the header, the calls' records in order, and the closing record
abbrev pub session : List Call → List ℕ
session calls = session_start ++ (flat_map encoding calls ++ closing_record)
