pub mod CStatementRuleLaws
pub mod CLocalLaws
pub mod CStatementLaws
pub mod CSignatureLaws
pub mod CFoundStatementLaws
pub mod CStepLaws
pub mod CTypingHeightLaws
