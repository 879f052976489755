pub mod Layout
pub mod Kinds
pub mod Rules
pub mod Uniforms
pub mod Tails
pub mod Sound
