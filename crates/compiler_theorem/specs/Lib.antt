pub mod Correct
pub mod RefinedCode
pub mod unit_images
pub mod same_behaviour
