pub mod RowLaws
pub mod JournalLaws
pub mod Places
pub mod WrittenRows
pub mod Versions
pub mod StripeLaws
pub mod Refusals
pub mod Outcomes
pub mod OpeningLaws
mod Entries
mod SeenRows
