pub mod Deciding
pub mod Xors
pub mod Conditions
