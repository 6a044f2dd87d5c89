pub mod LargestBytes
