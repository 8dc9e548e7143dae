pub mod Programs
pub mod LoweringFunctionLaws
pub mod LoweringUnitTheorem
