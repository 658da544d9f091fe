pub mod Hashed
pub mod Collision
pub mod RolledBack
