pub mod Decoded
pub mod Kinds
pub mod Views
pub mod inner
