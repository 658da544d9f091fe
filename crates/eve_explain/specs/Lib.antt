pub mod Explained
pub mod inner
