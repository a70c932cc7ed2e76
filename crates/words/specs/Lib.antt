pub mod Bytes
pub mod Sums
