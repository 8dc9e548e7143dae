pub mod Walking
pub mod Opening
