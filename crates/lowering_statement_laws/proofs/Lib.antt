pub mod Apart
pub mod Behind
pub mod Statements
pub mod LoweringLoopLaws
pub mod LoweringForLaws
pub mod LoweringDeclarationLaws
pub mod LoweringSwitchLaws
pub mod LoweringStatementTheorem
