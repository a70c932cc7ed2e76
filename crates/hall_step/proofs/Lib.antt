pub mod Parts
pub mod Stepping
pub mod HeadRead
pub mod ActSizes
pub mod Untouched
pub mod Unique
