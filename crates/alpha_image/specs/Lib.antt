pub mod ImageFault
pub mod ReadImage
pub mod Limits
