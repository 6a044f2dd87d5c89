pub mod Printed
pub mod Entry
