pub mod RewrittenUnits
pub mod Mixed
pub mod RewrittenHeights
pub mod RewrittenCounts
