mod Lists
mod Bounds
mod Plain
mod Lawful
mod Turns
