pub mod BackLaws
pub mod ArgumentLaws
pub mod TempWalkLaws
pub mod EndingLaws
