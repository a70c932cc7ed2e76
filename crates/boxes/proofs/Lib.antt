pub mod GrantedSteps
pub mod RulesKept
pub mod Shape
pub mod Unique
