pub mod Halls
pub mod Steps
