mod KindNames
mod Places
mod Lists
pub mod NthValue
mod CustomerPlaces
pub mod BatchPlaces
mod SentPlaces
pub mod AttemptPlaces
mod AccessPlaces
mod CommitPlaces
mod RollbackPlaces
mod TransferPlaces
mod VotePlaces
pub mod Rereading
pub mod FrameLimits
