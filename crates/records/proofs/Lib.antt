pub mod Unique
pub mod RuleParts
pub mod Answers
