mod Runs
mod Output
mod Traps
