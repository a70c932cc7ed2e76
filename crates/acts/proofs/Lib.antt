pub mod Familiar
pub mod Read
pub mod Ways
pub mod Answered
pub mod Coded
pub mod Late
pub mod Unique
