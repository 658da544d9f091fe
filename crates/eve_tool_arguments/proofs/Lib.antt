mod CommandLine
mod FoundValues
mod HelpWord
pub mod PlainArguments
