pub mod Alike
pub mod Envy
