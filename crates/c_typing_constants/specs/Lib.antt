pub mod Null
pub mod model
pub mod c_constant_rules
