pub mod ScanIsLine
pub mod Feeding
pub mod Writing
pub mod Unique
