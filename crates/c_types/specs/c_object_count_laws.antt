pub mod Laws
pub use Rattle.c_types.specs.c_found_unit_laws.Steps
