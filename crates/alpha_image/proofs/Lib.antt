pub mod ImageFaults
pub mod ImageFronts
pub mod ImageLaws
