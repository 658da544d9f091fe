pub mod Mixers
pub mod Workload
pub mod Batches
pub mod Lines
pub mod Steps
pub mod HeldWorkloads
pub mod inner
