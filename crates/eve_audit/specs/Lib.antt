pub mod Verdict
pub mod Reports
pub mod Answer
pub mod Where
pub mod Alone
pub mod Accepted
pub mod Audited
pub mod inner
