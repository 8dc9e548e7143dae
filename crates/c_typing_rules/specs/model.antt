-- Definitions that only proofs and private contracts use.
pub mod Opens
pub mod c_typing_declared_types
