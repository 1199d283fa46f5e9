pub mod Edges
pub mod Flows
pub mod Loads
pub mod Nets
pub mod Ranks
pub mod Searches
pub mod Webs
pub mod Wires
