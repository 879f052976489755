pub mod Attributes
pub mod Rules
pub mod Effects
pub mod Codes
