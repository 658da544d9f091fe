pub mod Assignments
pub mod Crews
pub mod Executing
pub mod Recording
pub mod SharedBatches
pub mod Tasks
