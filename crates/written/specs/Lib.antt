pub mod Spelling
pub mod Wrote
pub mod Writing
pub mod Chosen
pub mod Faults
