pub mod BlockSums
pub mod Difference
pub mod AtWires
