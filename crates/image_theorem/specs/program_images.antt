pub mod Programs
pub use Rattle.image_theorem.specs.image_runs.Runs
pub use Rattle.image_theorem.specs.image_runs.Images
pub use Rattle.frame_simulation.specs.edge_leads.Leaving
pub use Rattle.frame_simulation.specs.edge_leads.Items
