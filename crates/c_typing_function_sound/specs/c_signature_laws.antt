pub mod Laws
pub use Rattle.c_typing_function_sound.specs.c_statement_laws.Laws as CStatementLaws
