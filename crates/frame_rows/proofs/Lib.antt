pub mod CalleeSavedRows
