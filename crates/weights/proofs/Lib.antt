pub mod OneSum
pub mod Ways
pub mod Places
pub mod Laws
