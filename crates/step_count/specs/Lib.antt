pub mod Ticks
pub mod Blocks
pub mod Content
