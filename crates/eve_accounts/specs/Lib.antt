pub mod Keyed
pub mod Money
pub mod Rows
pub mod Names
pub mod Name
pub mod View
