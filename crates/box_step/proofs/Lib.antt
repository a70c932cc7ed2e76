pub mod Stepped
pub mod Unique
