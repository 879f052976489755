pub mod Layouts
pub mod Texels
pub mod UploadedTexels
pub mod Levels
pub mod TextureComplete
pub mod FramebufferStatus
