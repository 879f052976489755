pub mod Counting
pub mod WordsOf
pub mod Soundness
