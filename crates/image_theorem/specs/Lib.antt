pub mod routine_places
pub mod flat_starts
pub mod image_runs
pub mod program_images
pub mod same_runs
