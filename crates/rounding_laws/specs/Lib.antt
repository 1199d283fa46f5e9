pub mod Named
pub mod Peeling
pub mod Quotas
pub mod Remainders
