pub mod FreshBlocks
pub mod SettingUp
pub mod Cells
pub mod StepFacts
pub mod Unique
