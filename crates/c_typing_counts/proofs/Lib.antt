pub mod NodeCounts
pub mod UnitCounts
