pub mod Units
pub use Rattle.c_typing_function_sound.proofs.CTypingHeightLaws.CStatementHeightLaws.Parts
