pub mod Recipes
pub mod Laws
