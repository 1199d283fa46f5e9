pub mod Fronts
pub mod Near
pub mod Rooms
pub mod Sizes
pub mod Sums
