mod Denominators
mod Lawful
pub mod OneAnswer
mod Units
