pub mod Counted
pub mod TrimWays
pub mod Finish
pub mod Laws
