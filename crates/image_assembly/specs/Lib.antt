pub mod Assemblies
pub mod Layouts
pub mod model
pub use Rattle.image_theorem.specs.program_images.Programs
pub use Rattle.frame_bounds.specs.frame_ranges.Ranges
pub use Rattle.frame_layout.specs.Names
pub use Rattle.image_theorem.specs.program_images.Leaving
