pub mod Laws
pub use Rattle.c_typing_expression_sound.specs.c_body_laws.Notes
