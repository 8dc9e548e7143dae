pub mod CExpressionHeightLaws
pub mod CStatementHeightLaws
pub mod CUnitHeightLaws
pub mod CFunctionNameLaws
