pub mod GrantedSteps
pub mod RulesKept
pub mod Unique
