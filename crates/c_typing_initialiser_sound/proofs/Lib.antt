pub mod CInitialValueLaws
pub mod CInitialiserLaws
pub mod CGlobalLaws
