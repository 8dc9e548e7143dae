pub mod WriteImage
pub mod RunImage
pub mod ExecuteImage
pub mod MigrateImage
pub mod model
