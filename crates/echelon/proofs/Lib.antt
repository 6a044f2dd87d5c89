pub mod Slots
pub mod Masks
