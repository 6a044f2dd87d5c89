pub mod Stores
pub mod PhaseTurns
pub mod RowTurns
pub mod WriteWays
pub mod Laws
