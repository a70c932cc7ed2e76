pub mod Slots
pub mod HighestVote
pub mod JoinedVotes
pub mod GrantedSteps
pub mod OpenPage
pub mod RulesKept
pub mod Shape
pub mod Unique
