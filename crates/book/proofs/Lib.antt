pub mod Places
pub mod Judged
pub mod Steps
pub mod Walks
pub mod Booking
pub mod Unique
pub mod Starts
