pub mod TokenCounts
mod ReplicaLists
mod MostReplicas
mod TransferredStates
mod CommonCommits
mod RunsUnderWay
mod GivenUpTokens
mod UndecidedBatches
mod States
mod RunProgress
mod Moves
mod SectionSteps
mod Windows
pub mod Steps
mod FirstStates
mod RunSections
mod SentReplies
mod Endings
mod Noted
mod RunLimits
mod StateLimits
mod CommonMoves
