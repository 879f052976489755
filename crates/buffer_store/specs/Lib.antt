pub mod StoredBuffer
pub mod Content
pub mod Held
pub mod Stored
pub mod Rules
pub mod Slots
pub mod Codes
