pub mod Holders
pub mod Tables
mod Loops
mod Firsts
mod Uses
mod Bests
mod Farthest
mod Parts
mod Names
mod Bringing
pub mod Rests
pub mod Counts
