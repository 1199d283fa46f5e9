pub mod Limits
pub mod Made
pub mod MadeLists
pub mod MadeSets
pub mod Words
