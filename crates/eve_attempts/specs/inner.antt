-- Devices of proofs: no promise of `audit`, `serve` or `run` rests on them.
pub mod RecordKeys
pub mod AttemptParts
pub mod RestoredRows
pub mod KeptRows
