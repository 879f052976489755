pub mod Conversion
pub mod Copying
pub mod Uploading
