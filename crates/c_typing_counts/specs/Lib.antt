pub mod unit_counts
