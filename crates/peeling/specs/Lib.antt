pub mod Peelers
pub mod Views
