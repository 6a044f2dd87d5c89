pub mod Flips
pub mod Entry
