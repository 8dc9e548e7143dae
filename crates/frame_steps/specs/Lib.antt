pub mod item_steps
pub mod frame_accesses
pub mod frame_transfers
pub mod frame_instructions
pub mod instruction_items
pub mod call_parts
pub mod function_items
pub mod machine_bounds
