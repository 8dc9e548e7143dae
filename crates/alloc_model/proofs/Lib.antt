mod Runs
mod Output
mod Traps
mod Replay
mod Keeps
mod Lifetimes
mod Small
