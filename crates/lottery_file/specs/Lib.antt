pub mod Kinds
pub mod Said
pub mod Checks
pub mod Lotteries
pub mod Records
pub mod Reading
pub mod Written
pub mod Buffers
