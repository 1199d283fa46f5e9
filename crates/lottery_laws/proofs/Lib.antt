pub mod NearLemmas
pub mod SoundLemmas
pub mod SplitsWellLemmas
