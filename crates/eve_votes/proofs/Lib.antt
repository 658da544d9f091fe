pub mod Places
pub mod Backers
pub mod VoteOffsets
pub mod DecisionLaws
pub mod TallyLaws
pub mod VoteOrder
pub mod OnlyVotes
pub mod LeadingTokens
pub mod UndecidedBatches
pub mod AllVotes
pub mod SiftedVotes
mod Faultless
