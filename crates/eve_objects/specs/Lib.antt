pub mod Members
pub mod Evidence
pub mod FrameObjects
pub mod Bytes
