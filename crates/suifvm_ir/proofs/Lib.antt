pub mod TextLoops
