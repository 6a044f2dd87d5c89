pub mod Calls
pub mod Texts
