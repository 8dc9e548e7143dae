pub mod Ends
pub mod Origins
pub mod Walks
pub mod Passes
