pub mod StructLayout
pub mod model
pub mod c_layout_laws
