pub mod Rests
pub mod Entry
