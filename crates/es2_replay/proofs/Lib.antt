pub mod Zeros
pub mod Slots
pub mod Names
pub mod Replaying
