mod Homes
mod Steps
mod Journals
mod Comes
mod Nexts
mod Loops
mod Made
