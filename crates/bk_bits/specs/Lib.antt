pub mod Sets
pub mod model
