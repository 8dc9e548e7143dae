pub mod c_statement_rule_laws
pub mod c_local_laws
pub mod c_statement_laws
pub mod c_signature_laws
pub mod c_found_statement_laws
pub mod c_step_laws
pub mod c_typing_height_laws
