pub mod Places
pub mod OrderLaws
pub mod MarkedRecords
pub mod Lookups
mod WaysKept
pub mod SectionSteps
pub mod ReachedNumbers
mod AttemptsAlone
pub mod ToldReached
mod WorkedStates
pub mod Records
pub mod StepHandlers
pub mod Transfers
pub mod FateLaws
pub mod Positions
pub mod StructureLaws
pub mod RequestIds
pub mod GreatestNumbers
pub mod Counts
pub mod SortedRequests
pub mod AllRequests
pub mod FrameOffsets
pub mod LentFrames
pub mod RightSections
mod SettledSteps
mod Faultless
