pub mod Empty
pub mod Testing
pub mod Marked
