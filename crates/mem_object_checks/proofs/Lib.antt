pub mod Alls
