pub mod CTypeLaws
pub mod CJudgementLaws
pub mod CExpressionLaws
pub mod CStructLaws
pub mod CBodyLaws
pub mod CNoteLaws
pub mod CFoundLaws
