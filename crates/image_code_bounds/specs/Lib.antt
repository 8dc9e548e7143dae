pub mod frame_words
pub mod program_words
pub mod unit_words
pub mod frame_rooms
pub mod program_rooms
