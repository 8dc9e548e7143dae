pub mod Made
pub mod Images
pub mod model
pub use Rattle.compiler_theorem.specs.Correct
pub use Rattle.compiler_front_end.specs.Units
pub use Rattle.compiler_front_end.specs.declared.fault.CompileFault
