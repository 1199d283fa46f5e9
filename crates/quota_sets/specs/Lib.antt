pub mod InsertRefusals
pub mod NameList
pub mod Numbered
pub mod Parts
pub mod Refusals
