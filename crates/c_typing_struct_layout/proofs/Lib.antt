pub mod Greatest
pub mod Laid
pub mod Members
pub mod Rounding
pub mod CLayoutLaws
