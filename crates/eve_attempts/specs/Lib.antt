pub mod Ledgers
pub mod ClosedAttempts
pub mod CommitsAndRollbacks
pub mod HeldLedgers
pub mod Transfers
pub mod inner
