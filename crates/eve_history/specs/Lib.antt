pub mod Section
pub mod Fates
pub mod SectionHistory
pub mod Order
pub mod Structure
pub mod FrameOffsets
pub mod KeptSections
pub mod inner
