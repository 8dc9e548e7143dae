pub mod Kept
pub mod Fit
pub mod near_arguments
pub mod selected_widths
