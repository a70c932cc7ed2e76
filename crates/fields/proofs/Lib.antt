pub mod Cuts
pub mod Lawful
pub mod Times
pub mod Fitted
pub mod Unique
