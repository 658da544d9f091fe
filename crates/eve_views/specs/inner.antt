-- Devices of proofs: no promise of `audit`, `serve` or `run` rests on them.
pub mod Header
pub mod Places
pub mod PartStarts
pub mod WalkProgress
pub mod SideBySide
pub mod FramesBefore
pub mod PartPlaces
