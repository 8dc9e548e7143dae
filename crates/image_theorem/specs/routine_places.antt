pub mod Places
pub use Rattle.frame_simulation.specs.division_calls.Divisions
