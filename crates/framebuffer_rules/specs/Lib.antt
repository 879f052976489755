pub mod Images
pub mod Targets
pub mod Codes
