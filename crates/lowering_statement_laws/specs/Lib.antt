pub mod Parts
pub mod Laws
pub mod lowering_loop_laws
pub mod lowering_for_laws
pub mod lowering_declaration_laws
pub mod lowering_switch_laws
pub mod lowering_statement_theorem
