pub mod Parts
pub mod Agreeing
pub mod Sounding
pub mod SentBytes
pub mod Sent
pub mod Sending
pub mod Keeping
pub mod Tying
pub mod Acting
pub mod First
pub mod Following
pub mod Steps
mod Fours
