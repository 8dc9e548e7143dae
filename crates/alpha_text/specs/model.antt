pub mod Labels
pub mod Survey
pub mod Reaches
pub mod LineMeaning
pub mod Judged
pub mod Faults
