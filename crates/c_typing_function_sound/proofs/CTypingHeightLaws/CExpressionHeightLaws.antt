pub mod Trees
pub mod Rules
pub mod Forms
pub mod Walks
