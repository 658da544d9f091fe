pub mod Arguments
pub mod Formats
