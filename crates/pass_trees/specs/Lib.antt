pub mod Trees
pub mod Up
