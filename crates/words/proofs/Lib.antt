pub mod Splices
pub mod Zeroes
pub mod Summed
pub mod Unique
