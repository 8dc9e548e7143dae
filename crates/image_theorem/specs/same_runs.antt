pub mod Same
pub use Rattle.image_theorem.specs.program_images.Programs
