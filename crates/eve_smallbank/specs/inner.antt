-- Devices of proofs: no promise of `audit`, `serve` or `run` rests on them.
pub mod FromValues
pub mod Recorded
pub mod Seen
