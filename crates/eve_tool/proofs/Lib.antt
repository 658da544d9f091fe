mod CutInput
mod ReadInput
pub mod UnsentText
pub mod RunText
mod LinesPut
mod ListedLines
mod ExplainedLines
mod CallWords
mod Judging
mod SentFiles
