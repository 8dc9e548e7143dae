pub mod Flows
pub mod Walking
pub mod Following
pub mod Within
pub mod Running
pub mod Law
