pub mod Naming
pub mod Offer
