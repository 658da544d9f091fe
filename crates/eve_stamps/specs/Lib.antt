pub mod Applied
pub mod HeldRows
pub mod OpeningRows
pub mod Requests
pub mod Stripes
