pub mod StepNumbers
pub mod SameAct
pub mod Codes
pub mod Unique
