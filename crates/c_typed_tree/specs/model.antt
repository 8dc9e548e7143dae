pub mod View
pub mod Lists
pub mod c_lawful_unit
