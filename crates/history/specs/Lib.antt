pub mod History
pub mod Sound
pub mod Moves
pub mod Reports
