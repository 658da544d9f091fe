pub mod AttemptRecords
mod TransferredStates
mod ToldAttempts
mod ByRow
mod WalkedRows
mod NumberGroups
mod GatheredEntries
mod JoinedStretches
mod CollectedParts
mod JudgedRows
mod Paths
mod RowWalks
mod EntriesAlongWalks
mod Cuts
mod RowFaults
pub mod Permutations
pub mod Distinct
pub mod LinkedPaths
pub mod SerialRuns
pub mod SerialSections
pub mod SettledAttempts
pub mod Soundness
pub mod Faultless
pub mod DistinctRequests
pub mod Arrivals
mod Openings
pub mod AlongLaws
pub mod LeftByRecords
pub mod BalanceSteps
mod WorkedCases
mod WorkedNumbers
pub mod NearestWrites
pub mod Least
pub mod Attempts
pub mod JudgedRecords
pub mod Stretches
mod CommittedBatches
mod ChangeLists
mod ByNumber
mod ChangedRows
mod CommittedChanges
mod SetRows
mod BankSteps
mod ReachedChanges
mod TransferredRows
mod EqualBalances
