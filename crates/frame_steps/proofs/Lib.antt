pub mod ItemSteps
pub mod FrameAccesses
pub mod FrameTransfers
pub mod FrameInstructions
pub mod InstructionItems
pub mod CallParts
pub mod FunctionItems
pub mod MachineBounds
