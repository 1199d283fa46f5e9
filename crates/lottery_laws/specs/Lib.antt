pub mod Near
pub mod Sound
pub mod SplitsWell
