pub mod Votes
pub mod Faults
pub mod Ballots
pub mod Decisions
pub mod NextDecision
pub mod HeldTallies
pub mod inner
