pub mod Texture
pub mod Stored
pub mod Rules
pub mod Codes
