pub mod Phases
pub mod FirstFault
pub mod CodeKinds
pub mod Verdicts
