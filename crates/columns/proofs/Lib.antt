pub mod Computed
pub mod Entries
pub mod Wires
pub mod Laws
pub mod InTurn
pub mod Apart
