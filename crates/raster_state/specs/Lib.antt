pub mod FirstWords
pub mod Rules
pub mod Effects
pub mod Codes
