pub mod Denominators
pub mod Places
pub mod Problems
pub mod Shares
pub mod Tables
