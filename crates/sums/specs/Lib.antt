pub mod Summing
pub mod Difference
