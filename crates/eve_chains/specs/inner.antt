-- Devices of proofs: no promise of `audit`, `serve` or `run` rests on them.
pub mod Bases
pub mod Grouped
pub mod Gathered
pub mod Judged
pub mod Walked
pub mod Stretches
pub mod Sections
