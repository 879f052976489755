pub mod Rows
pub mod ObjectCommands
pub mod BufferCommands
pub mod Operations
pub mod Commands
pub mod DecoderState
pub mod Decoding
pub mod Taking
