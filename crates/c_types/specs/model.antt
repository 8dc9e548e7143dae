pub mod c_found_unit_laws
