pub mod BySums
pub mod CompareWays
pub mod Laws
