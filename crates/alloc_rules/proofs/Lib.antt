mod FrugalExamples
mod Sets
mod Unique
mod WrongPlacements
mod WrongReplays
mod Journals
mod RightPlacements
pub mod Allocations
