pub mod Certified
pub mod Guarded
pub mod Recipe
