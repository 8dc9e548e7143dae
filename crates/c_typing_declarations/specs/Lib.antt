pub mod Walk
pub mod Objects
pub mod Functions
pub mod model
pub use Rattle.c_typing_initialisers.specs.Unfit
pub use Rattle.c_typing_struct_bodies.specs.Bodies
