pub mod Statements
pub use Rattle.lowering_expression_laws.proofs.LoweringExpressionTheorem.Types
