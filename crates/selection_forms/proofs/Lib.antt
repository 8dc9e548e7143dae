pub mod AlphaForms
pub mod AlphaCopies
