pub mod Below
pub mod Refusals
