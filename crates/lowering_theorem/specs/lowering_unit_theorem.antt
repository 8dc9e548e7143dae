pub mod Laws
pub use Rattle.lowering_theorem.specs.lowering_function_laws.Laws as LoweringFunctionLaws
