pub mod Commitments
pub mod Kinds
pub mod Said
pub mod Checks
pub mod Pacts
pub mod Reading
