pub mod Whole
pub mod Again
pub mod Laws
