pub mod Coefficients
pub mod Signature
pub mod NewWeights
