pub mod RefinedCode
pub mod UnitImages
pub mod SameBehaviour
