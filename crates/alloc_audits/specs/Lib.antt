pub mod Audit
pub mod AuditGuarded
pub mod AuditMatrix
pub mod Envy
pub mod Laws
pub mod NameFaults
pub mod Verdicts
