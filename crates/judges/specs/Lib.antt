pub mod Formed
pub mod Largest
