pub mod Deciding
pub mod Entry
