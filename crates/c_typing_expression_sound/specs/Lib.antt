pub mod c_type_laws
pub mod c_judgement_laws
pub mod c_expression_laws
pub mod c_struct_laws
pub mod c_body_laws
pub mod c_note_laws
pub mod c_found_laws
