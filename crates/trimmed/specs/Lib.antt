pub mod Trimmed
pub mod Again
