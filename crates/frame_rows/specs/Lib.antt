pub mod callee_saved_rows
