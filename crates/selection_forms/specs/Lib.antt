pub mod alpha_forms
pub mod alpha_copies
