pub mod Limits
pub mod Hex
pub mod Lines
pub mod Text
pub mod Placed
pub mod Written
pub mod Entry
