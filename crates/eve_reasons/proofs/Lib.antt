pub mod Words
pub mod Items
pub mod KindLists
pub mod Keeping
pub mod Few
