pub mod Functions
pub mod Variables
