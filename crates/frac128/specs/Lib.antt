pub mod Fraction
pub mod Lcm
pub mod Measure
pub mod Order
