-- The laws of WhereTold under shorter names.
pub use Rattle.wire_io.proofs.WhereTold.{where_told as told, where_told-end as told_end, where_told-same as told_same, taken_none}
