pub mod AccessLists
pub mod Writes
pub mod Data
pub mod Writable
pub mod Passes
