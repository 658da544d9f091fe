pub mod Merkle
pub mod Token
pub mod Places
pub mod TokenRows
pub mod HeldBalances
