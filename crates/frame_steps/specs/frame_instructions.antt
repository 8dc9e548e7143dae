pub mod FrameLaws
pub mod Laws
pub mod OperationLaws
