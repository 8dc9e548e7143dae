pub mod Laws
pub use Rattle.lowering_statement_laws.specs.lowering_loop_laws.Laws as LoweringLoopLaws
