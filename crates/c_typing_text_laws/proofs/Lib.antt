pub mod CIdentifierLaws
pub mod CLiteralByteLaws
pub mod CInitialiserByteLaws
pub mod CTextBytes
