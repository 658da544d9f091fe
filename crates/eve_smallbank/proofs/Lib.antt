pub mod Banks
pub mod Members
pub mod Chains
pub mod Orders
pub mod SerialOrders
pub mod Walks
pub mod FittingRecords
pub mod Unique
pub mod DecisionLaws
pub mod Records
pub mod RequestBalances
pub mod DecisionEntries
pub mod EntryValues
mod SeenValues
