pub mod Tested
pub mod Ordered
pub mod Majorities
pub mod Unique
