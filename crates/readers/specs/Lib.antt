pub mod Notes
pub mod Learning
pub mod Counting
