pub mod Laws
pub use Rattle.image_theorem.specs.same_runs.Same
