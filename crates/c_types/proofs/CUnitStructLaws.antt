pub mod Names
pub mod Declarations
pub mod Units
pub use Rattle.c_typing_expression_sound.proofs.CBodyLaws.Bodies
