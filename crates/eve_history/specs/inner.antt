-- Devices of proofs: no promise of `audit`, `serve` or `run` rests on them.
pub mod FirstWrong
pub mod MarkedRecords
pub mod GreatestNumbers
pub mod Repeats
pub mod AmongSteps
