pub mod SetsNamed
