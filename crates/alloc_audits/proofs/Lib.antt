pub mod AuditGuardedLemmas
pub mod AuditLemmas
pub mod AuditMatrixLemmas
pub mod EnvyLemmas
mod SoundAudits
mod SplitAudits
mod VerdictsLemmas
