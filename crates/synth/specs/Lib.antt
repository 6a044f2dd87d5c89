pub mod Entry
pub mod Storing
