mod AppendedParts
pub mod Digits
mod KindNames
mod StateRows
pub mod BodiesReread
mod WordsOfFrames
