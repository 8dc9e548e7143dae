pub mod ImageFronts
pub mod MigrateImages
pub mod RunImages
pub mod ExecuteImages
