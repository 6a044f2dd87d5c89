pub mod BySums
pub mod RestSteps
pub mod Ways
pub mod Laws
