pub mod Telling
pub mod Named
pub mod Unique
