pub mod Shortage
