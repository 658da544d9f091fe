-- Devices of proofs: no promise of `audit`, `serve` or `run` rests on them.
pub mod GroupSets
pub mod Marks
pub mod Seats
pub mod Cut
pub mod Groups
pub mod Words
pub mod Decoded
pub mod RequestIds
pub mod Drafts
pub mod Mixed
