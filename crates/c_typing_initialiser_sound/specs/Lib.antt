pub mod c_initial_value_laws
pub mod c_initialiser_laws
pub mod c_global_laws
