pub mod Nesting
pub mod OpenConstructs
pub mod HasNesting
pub mod model
