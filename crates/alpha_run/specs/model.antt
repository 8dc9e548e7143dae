pub mod OperationResult
pub mod MemoryParts
pub mod ProcessorState
pub mod Turns
pub mod TakenWord
pub mod Stop
pub mod MachineTurns
