pub mod SpelledReplies
pub mod WorkedTokens
pub mod Levels
pub mod Leaves
pub mod Places
pub mod KeptPlaces
pub mod Messages
