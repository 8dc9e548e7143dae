pub mod Dead
pub mod Chains
pub mod ChainRuns
pub mod Copies
pub mod Clean
pub mod Programs
pub mod model
