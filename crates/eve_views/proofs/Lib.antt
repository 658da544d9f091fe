pub mod Bytes
pub mod FrameLaws
pub mod WalkLaws
pub mod KeptFrames
pub mod StartLaws
pub mod WalkSteps
pub mod UnjudgedFrames
pub mod HeaderLaws
pub mod FormLaws
pub mod TraceLaws
pub mod WholeTraces
pub mod NumberedFrames
pub mod FrameOffsets
pub mod PartLaws
pub mod CutLaws
pub mod IndexedParts
pub mod StepLaws
pub mod Firsts
pub mod LeastNumbers
pub mod Lists
pub mod FormDecided
mod FaultOrder
mod PartOrder
