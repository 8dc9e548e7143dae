pub mod Trees
pub mod Made
mod Lawful
mod Heights
pub mod CUnitStructLaws
pub mod CUnitWalkLaws
pub mod CUnitMeaningLaws
pub mod CUnitObjectLaws
pub mod CFoundUnitLaws
pub mod CObjectCountLaws
pub mod CTypedUnitLaws
