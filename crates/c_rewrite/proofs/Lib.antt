pub mod StatementViews
pub mod StatementHeights
pub mod Functions
