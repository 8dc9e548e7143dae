pub mod Meant
pub mod Laws
pub use Rattle.c_types.specs.c_unit_meaning_laws.Meanings
pub use Rattle.c_types.specs.c_unit_meaning_laws.Walks
pub use Rattle.c_types.specs.c_unit_meaning_laws.CSignatureLaws
pub use Rattle.c_types.specs.c_unit_meaning_laws.Units
pub use Rattle.c_types.specs.c_unit_meaning_laws.Externals
pub use Rattle.c_typing_expression_sound.specs.c_body_laws.Notes
pub use Rattle.c_typing_expression_sound.specs.c_expression_laws.Laws as CExpressionLaws
pub use Rattle.c_typing_expression_sound.specs.c_note_laws.Laws as CNoteLaws
pub use Rattle.c_typing_expression_sound.specs.c_note_laws.Steps as CNoteLawsSteps
pub use Rattle.c_typing_expression_sound.specs.c_struct_laws.Growth
