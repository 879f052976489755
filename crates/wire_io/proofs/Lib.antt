pub mod Copying
pub mod Prefixes
pub mod Known
pub mod Passed
pub mod WhereTold
pub mod Told
