pub mod argument_laws
pub mod back_laws
pub mod temp_walk_laws
pub mod ending_laws
