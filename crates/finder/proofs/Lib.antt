pub mod Listing
pub mod Asking
pub mod OnWires
pub mod FindWays
pub mod Laws
