pub mod GlobalBytes
