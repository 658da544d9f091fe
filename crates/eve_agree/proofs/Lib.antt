mod Offsets
pub mod ByNumber
mod Outcomes
pub mod AllBalances
mod AgreementFaults
mod EqualBalances
mod AtNumber
pub mod MarkLaws
pub mod NotedAttempts
pub mod SectionPaths
pub mod DiscardedAttempts
pub mod RestoresInOrder
pub mod RightRestores
pub mod TokensInOrder
pub mod RollbackRoom
mod MajorityFaults
pub mod Replicas
mod SpelledReplies
mod AnsweredRequests
mod BatchRequests
pub mod RepliesSent
pub mod JoinedStretches
pub mod ShownTokens
mod WrongRestores
