pub mod Objects
pub mod Room
