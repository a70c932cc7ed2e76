pub mod Setups
pub mod Rounds
