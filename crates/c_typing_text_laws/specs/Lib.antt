pub mod c_identifier_laws
pub mod c_literal_byte_laws
pub mod c_initialiser_byte_laws
pub mod c_text_bytes
