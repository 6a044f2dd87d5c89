pub mod Carrying
pub mod Ways
pub mod Laws
pub mod Chunks
