pub mod Certified
pub mod Moments
pub mod Ranks
pub mod Recipes
pub mod Worths
