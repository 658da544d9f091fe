-- Devices of proofs: no promise of `audit`, `serve` or `run` rests on them.
pub mod NumbersJudged
pub mod HashedRows
pub mod Unbacked
pub mod KeptRequests
pub mod Stretches
