pub mod Buffers
pub mod Failures
pub mod Prefix
pub mod Readers
pub mod Writers
pub mod Trials
