pub mod Acts
pub mod Named
pub mod Shapes
pub mod Codes
pub mod Answers
pub mod Reached
