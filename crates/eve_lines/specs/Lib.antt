pub mod Words
pub mod FrameLines
pub mod Rest
pub mod Table
